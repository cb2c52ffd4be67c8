-- A sweep over a table, row by row and from the right: rows above a have their new entries, row a has them from column b on, the others are as they were.
-- Key idea: where old and new entries are the same nothing has to be stored, so a row may start late and end early.
use Rattle.std.specs.Prelude.{◌≡◌, refl, List, ℕ, suc, ◌+◌, ◌*◌, ◌≤◌, ◌<◌, length, drop, set, ℤ}
use Rattle.std.proofs.Common.{sym, ◌∙◌, subst, arith, length-set}
use Rattle.std.proofs.Math.Decide.{ℕ_discrete, dec_le}
use Rattle.network.specs.Network.{Weights}
use Rattle.network.specs.Table.{entry}
use Rattle.limit_places.specs.LentTableLaws.{TableFilled, entry_set_same, entry_set_other, past_set}

-- old entries f, new entries g
pub record Swept (w : ℕ) (f g : Weights) (t₀ : List ℤ) (a b : ℕ) (t : List ℤ) : Type 0 where
  pub long : length t ≡ length t₀
  pub above : (x y : ℕ) → x < a → x < w → y < w → entry w t x y ≡ g x y
  pub right : (y : ℕ) → b ≤ y → y < w → a < w → entry w t a y ≡ g a y
  pub left : (y : ℕ) → y < b → y < w → a < w → entry w t a y ≡ f a y
  pub below : (x y : ℕ) → a < x → x < w → y < w → entry w t x y ≡ f x y
  pub past : drop (w * w) t ≡ drop (w * w) t₀

module _ (w : ℕ) (f g : Weights) (t₀ t : List ℤ) where
  pub swept_first : (a b : ℕ) → TableFilled w f t₀ t → ((x y : ℕ) → x < a → f x y ≡ g x y) → ((y : ℕ) → b ≤ y → y < w → f a y ≡ g a y) → Swept w f g t₀ a b t
  swept_first a b h up same = record {
    long = h.long;
    above = λ x y k hx hy. h.at x y hx hy ∙ up x y k;
    right = λ y k hy ha. h.at a y ha hy ∙ same y k hy;
    left = λ y k hy ha. h.at a y ha hy;
    below = λ x y k hx hy. h.at x y hx hy;
    past = h.past;
  }

  pub swept_row : (a b c : ℕ) → Swept w f g t₀ a b t → ((y : ℕ) → y < b → f a y ≡ g a y) → ((y : ℕ) → c ≤ y → y < w → f (a + 1) y ≡ g (a + 1) y)
      → Swept w f g t₀ (a + 1) c t
  swept_row a b c s left right = record {
    long = s.long;
    above = λ x y k hx hy. elim (ℕ_discrete x a) [
      | no n ↦ s.above x y (omega arith) hx hy
      | yes e ↦ subst (λ (i : ℕ). entry w t i y ≡ g i y) (sym e) (elim (dec_le b y) [
        | yes l ↦ s.right y l hy (omega arith)
        | no n ↦ s.left y (omega arith) hy (omega arith) ∙ left y (omega arith)
      ])
    ];
    right = λ y k hy ha. s.below (a + 1) y (omega arith) ha hy ∙ right y k hy;
    left = λ y k hy ha. s.below (a + 1) y (omega arith) ha hy;
    below = λ x y k hx hy. s.below x y (omega arith) hx hy;
    past = s.past;
  }

  pub swept_last : (a b : ℕ) → w ≤ a → Swept w f g t₀ a b t → TableFilled w g t₀ t
  swept_last a b h s = record { long = s.long; at = λ x y hx hy. s.above x y (omega arith) hx hy; past = s.past }

  pub swept_set : (a b : ℕ) (v : ℤ) → w * w ≤ length t₀ → a < w → b < w → v ≡ g a b → Swept w f g t₀ a (suc b) t → Swept w f g t₀ a b (set t (a * w + b) v)
  swept_set a b v room ha hb e s = record {
    long = length-set t (a * w + b) v ∙ s.long;
    above = λ x y h hx hy. entry_set_other w t a b v ha hb x y hy (λ p q. omega arith) ∙ s.above x y h hx hy;
    right = λ y h hy _. elim (ℕ_discrete y b) [
      | yes q ↦ subst (λ (j : ℕ). entry w (set t (a * w + b) v) a j ≡ g a j) (sym q) (entry_set_same w t a b v ha hb (omega (arith, s.long)) ∙ e)
      | no n ↦ entry_set_other w t a b v ha hb a y hy (λ p q. n q) ∙ s.right y (omega arith) hy ha
    ];
    left = λ y h hy _. entry_set_other w t a b v ha hb a y hy (λ p q. omega arith) ∙ s.left y (omega arith) hy ha;
    below = λ x y h hx hy. entry_set_other w t a b v ha hb x y hy (λ p q. omega arith) ∙ s.below x y h hx hy;
    past = past_set w t a b v ha hb ∙ s.past;
  }

  -- the same from an earlier table, and from this one
  pub rebase : (u : List ℤ) (a b c d : ℕ) → Swept w f g u a b t₀ → Swept w f g t₀ c d t → Swept w f g u c d t
  rebase u a b c d r s =
      record { long = s.long ∙ r.long; above = s.above; right = s.right; left = s.left; below = s.below; past = s.past ∙ r.past }

  pub own_base : (a b : ℕ) → Swept w f g t₀ a b t → Swept w f g t a b t
  own_base a b s = record { long = refl; above = s.above; right = s.right; left = s.left; below = s.below; past = refl }
