-- A table filled in place, row by row and from the left.
-- Key idea: the rows above b have their new entries, row b has them left of column a, and the rows below are still the old ones, so a store may read them.
use mathlib.Core.Path.{◌≡◌, sym, ◌∙◌, subst}
use mathlib.Core.List.{List}
use Prim.Native.Nat.{ℕ, ◌+◌, ◌*◌, ◌≤◌, ◌<◌}
use native.Mathlib.Omega.{arith}
use native.Mathlib.Decide.{ℕ_discrete}
use lib.ListN.{length, set}
use lib.IntN.{ℤ, negsuc, ◌+ℤ◌}
use mir.Syntax.{w16}
use mir.Val.{SFits}
use Rattle.integers.specs.Parts.{Within, sum, fits_within}
use Rattle.network.specs.Network.{Weights}
use Rattle.network.specs.Table.{entry}
use Rattle.sheet.specs.Sizes.{max_units}
use Rattle.limit_places.specs.LentTableLaws.{entry_set_same, entry_set_other}
use Rattle.plan_arcs.specs.Arcs.{HasEntries}

-- old entries f, new entries g
module _ (w : ℕ) (f g : Weights) where
  pub record RowsFilled (b a : ℕ) (t : List ℤ) : Type 0 where
    pub above : (x y : ℕ) → x < b → x < w → y < w → entry w t x y ≡ g x y
    pub left : (y : ℕ) → y < a → y < w → b < w → entry w t b y ≡ g b y
    pub under : (x y : ℕ) → b < x → x < w → y < w → entry w t x y ≡ f x y

  pub rows_start : (a : ℕ) (t : List ℤ) → HasEntries w f t → ((y : ℕ) → y < a → f 0 y ≡ g 0 y) → RowsFilled 0 a t
  rows_start a t e s = record {
    above = λ x y h hx hy. absurd (omega arith);
    left = λ y h hy hb. e 0 y hb hy ∙ s y h;
    under = λ x y h hx hy. e x y hx hy;
  }

  module _ (b a : ℕ) (t : List ℤ) (F : RowsFilled b a t) where
    pub rows_store : (v : ℤ) → w * w ≤ length t → b < w → a < w → v ≡ g b a → RowsFilled b (a + 1) (set t (b * w + a) v)
    rows_store v room hb ha e = record {
      above = λ x y h hx hy. entry_set_other w t b a v hb ha x y hy (λ p q. omega arith) ∙ F.above x y h hx hy;
      left = λ y h hy _. elim (ℕ_discrete y a) [
        | yes q ↦ subst (λ (j : ℕ). entry w (set t (b * w + a) v) b j ≡ g b j) (sym q) (entry_set_same w t b a v hb ha room ∙ e)
        | no n ↦ entry_set_other w t b a v hb ha b y hy (λ p q. n q) ∙ F.left y (omega arith) hy hb
      ];
      under = λ x y h hx hy. entry_set_other w t b a v hb ha x y hy (λ p q. omega arith) ∙ F.under x y h hx hy;
    }

    -- row b is done, and the next one is as it will be up to column c
    pub rows_next : (c : ℕ) → w ≤ a → ((y : ℕ) → y < c → f (b + 1) y ≡ g (b + 1) y) → RowsFilled (b + 1) c t
    rows_next c h s = record {
      above = λ x y k hx hy. elim (ℕ_discrete x b) [
        | yes q ↦ subst (λ (i : ℕ). entry w t i y ≡ g i y) (sym q) (F.left y (omega arith) hy (omega arith))
        | no n ↦ F.above x y (omega arith) hx hy
      ];
      left = λ y k hy hb. F.under (b + 1) y (omega arith) hb hy ∙ s y k;
      under = λ x y k hx hy. F.under x y (omega arith) hx hy;
    }

    pub rows_all : w ≤ b → HasEntries w g t
    rows_all h x y hx hy = F.above x y (omega arith) hx hy

-- ---- arcs
pub one_less_fits : (z : ℤ) → Within max_units z → SFits w16 (z +ℤ negsuc 0)
one_less_fits z p = fits_within w16 (z +ℤ negsuc 0) 1001 tt (omega (arith, sum z (negsuc 0))) (omega (arith, sum z (negsuc 0)))
