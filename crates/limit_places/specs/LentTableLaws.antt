-- A lent table, entry by entry.
-- Key idea: two pairs of boundaries have different places, so a store at one pair's place moves that entry and no other. A list that has the entries
-- of f, and keeps what it had past them, is the table of f in front of the old rest.
use Rattle.std.specs.Prelude.{◌≡◌, List, ◌++◌, ℕ, zero, suc, ◌+◌, ◌*◌, ◌/◌, ◌%◌, ◌≤◌, ◌<◌, length, get_or, drop, take, set, replicate, ℤ, pos}
use Rattle.std.proofs.Common.{sym, ap, ◌∙◌, arith, mul-le-mul_right, div-add-mod', mod-lt, div-lt_iff_lt-mul, length-append, length-drop, length-set, length-take, take-append-drop, ext_get_or, get_or-set_same, get_or-set_other, drop-set-lt, get_or-take, drop_at}
use Rattle.std.proofs.Math.Decide.{dec_le, ℕ_discrete}
use Rattle.std.proofs.lemmas.List.{length-replicate, get_or-replicate}
use Rattle.std.proofs.Math.ListN.{get_or-append}
use Rattle.network.specs.Network.{Weights}
use Rattle.network.specs.Table.{table_of, entry, cleared}
use Rattle.network.proofs.TableLaws.{length_table_of, row_inside, entry_table_of, entry_front}

-- the first of two rows ends before the second begins
pub rows_apart : (w a x : ℕ) → a < x → a * w + w ≤ x * w
rows_apart w a x h = let k : (a + 1) * w ≤ x * w = mul-le-mul_right w (omega arith) in omega arith

-- a place belongs to one row and one column
pub place_row : (w a b x y : ℕ) → b < w → y < w → x * w + y ≡ a * w + b → x ≡ a
place_row w a b x y hb hy e = elim (dec_le x a) [
  | no g ↦ absurd (omega (arith, rows_apart w a x (omega arith)))
  | yes l ↦ elim (dec_le a x) [ yes m ↦ omega arith | no g ↦ absurd (omega (arith, rows_apart w x a (omega arith))) ]
]

pub place_column : (w a b x y : ℕ) → b < w → y < w → x * w + y ≡ a * w + b → y ≡ b
place_column w a b x y hb hy e = let r = ap (λ (k : ℕ). k * w) (place_row w a b x y hb hy e) in omega arith

pub place_inside : (w a b : ℕ) → a < w → b < w → a * w + b < w * w
place_inside w a b ha hb = omega (arith, row_inside a w ha)

-- the place of a pair, from a place
place_of : (w i : ℕ) → i < w * w → (a : ℕ) × (b : ℕ) × (a < w) × (b < w) × (a * w + b ≡ i)
place_of zero i h = absurd (omega arith)
place_of (suc v) i h =
    let row : i / suc v < suc v = (div-lt_iff_lt-mul {k = suc v} {x = i} {y = suc v} (omega arith)).1 h in
    (i / suc v, i % suc v, row, mod-lt i {m = suc v} (omega arith), div-add-mod' i (suc v))

module _ (w : ℕ) (t : List ℤ) (a b : ℕ) (v : ℤ) (ha : a < w) (hb : b < w) where
  pub entry_set_same : w * w ≤ length t → entry w (set t (a * w + b) v) a b ≡ v
  entry_set_same room = get_or-set_same t (a * w + b) v (pos 0) (omega (arith, place_inside w a b ha hb))

  pub entry_set_other : (x y : ℕ) → y < w → (x ≡ a → y ≡ b → ⊥) → entry w (set t (a * w + b) v) x y ≡ entry w t x y
  entry_set_other x y hy ne =
      get_or-set_other t (a * w + b) (x * w + y) v (pos 0) (λ e. ne (place_row w a b x y hb hy e) (place_column w a b x y hb hy e))

  pub past_set : drop (w * w) (set t (a * w + b) v) ≡ drop (w * w) t
  past_set = drop-set-lt (w * w) t (a * w + b) v (place_inside w a b ha hb)

-- t has the entries of f, and past them what t₀ has there
pub record TableFilled (w : ℕ) (f : Weights) (t₀ t : List ℤ) : Type 0 where
  pub long : length t ≡ length t₀
  pub at : (a b : ℕ) → a < w → b < w → entry w t a b ≡ f a b
  pub past : drop (w * w) t ≡ drop (w * w) t₀

pub filled_is : (w : ℕ) (f : Weights) (t₀ t : List ℤ) → w * w ≤ length t₀ → TableFilled w f t₀ t → t ≡ table_of w f ++ drop (w * w) t₀
filled_is w f t₀ t room h =
    let size : length (take (w * w) t) ≡ length (table_of w f) = omega (arith, length-take (w * w) t, h.long, length_table_of w f) in
    let front : take (w * w) t ≡ table_of w f = ext_get_or (pos 0) (take (w * w) t) (table_of w f) size agree in
    sym (take-append-drop (w * w) t) ∙ ap (λ (l : List ℤ). l ++ drop (w * w) t) front ∙ ap (λ (l : List ℤ). table_of w f ++ l) h.past
  where
    agree : (i : ℕ) → i < length (take (w * w) t) → get_or (take (w * w) t) i (pos 0) ≡ get_or (table_of w f) i (pos 0)
    agree i l =
        let k : i < w * w = omega (arith, length-take (w * w) t) in
        let p = place_of w i k in
        let same = p.4 in
        get_or-take (w * w) t i (pos 0) k
        ∙ ap (λ (j : ℕ). get_or t j (pos 0)) (sym same) ∙ h.at p.0 p.1 p.2 p.3 ∙ sym (entry_table_of w f p.0 p.1 p.2 p.3)
        ∙ ap (λ (j : ℕ). get_or (table_of w f) j (pos 0)) same

pub is_filled : (w : ℕ) (f : Weights) (t₀ t : List ℤ) → w * w ≤ length t₀ → t ≡ table_of w f ++ drop (w * w) t₀ → TableFilled w f t₀ t
is_filled w f t₀ t room e =
    record {
      long = ap length e ∙ length-append (table_of w f) (drop (w * w) t₀) ∙ omega (arith, length_table_of w f, length-drop (w * w) t₀);
      at = λ a b ha hb. ap (λ (l : List ℤ). entry w l a b) e ∙ entry_front w f (drop (w * w) t₀) a b ha hb;
      past = ap (drop (w * w)) e ∙ drop_at (table_of w f) (drop (w * w) t₀) (w * w) (length_table_of w f);
    }

-- a store moves one entry
pub filled_set : (w : ℕ) (f g : Weights) (t₀ t : List ℤ) (a b : ℕ) (v : ℤ) → w * w ≤ length t₀ → a < w → b < w → g a b ≡ v
    → ((x y : ℕ) → x < w → y < w → (x ≡ a → y ≡ b → ⊥) → g x y ≡ f x y) → TableFilled w f t₀ t → TableFilled w g t₀ (set t (a * w + b) v)
filled_set w f g t₀ t a b v room ha hb here there h =
    record { long = length-set t (a * w + b) v ∙ h.long; at = at; past = past_set w t a b v ha hb ∙ h.past }
  where
    at : (x y : ℕ) → x < w → y < w → entry w (set t (a * w + b) v) x y ≡ g x y
    at x y hx hy = elim (ℕ_discrete x a) [
      | no n ↦ entry_set_other w t a b v ha hb x y hy (λ e _. n e) ∙ h.at x y hx hy ∙ sym (there x y hx hy (λ e _. n e))
      | yes p ↦ elim (ℕ_discrete y b) [
        | no n ↦ entry_set_other w t a b v ha hb x y hy (λ _ e. n e) ∙ h.at x y hx hy ∙ sym (there x y hx hy (λ _ e. n e))
        | yes q ↦ ap (λ (i : ℕ). entry w (set t (a * w + b) v) i y) p ∙ ap (λ (j : ℕ). entry w (set t (a * w + b) v) a j) q
            ∙ entry_set_same w t a b v ha hb (omega (arith, h.long)) ∙ sym here ∙ ap (λ (j : ℕ). g a j) (sym q) ∙ ap (λ (i : ℕ). g i y) (sym p)
      ]
    ]

-- the same entries by another name
pub filled_same : (w : ℕ) (f g : Weights) (t₀ t : List ℤ) → ((x y : ℕ) → x < w → y < w → g x y ≡ f x y) → TableFilled w f t₀ t → TableFilled w g t₀ t
filled_same w f g t₀ t same h = record { long = h.long; at = λ x y hx hy. h.at x y hx hy ∙ sym (same x y hx hy); past = h.past }

-- ---- zeros in front
pub cleared_length : (n : ℕ) (t : List ℤ) → n ≤ length t → length (cleared n t) ≡ length t
cleared_length n t h = length-append (replicate n (pos 0)) (drop n t) ∙ omega (arith, length-replicate n (pos 0), length-drop n t)

pub cleared_filled : (w : ℕ) (f : Weights) (t : List ℤ) → w * w ≤ length t → ((a b : ℕ) → f a b ≡ pos 0) → TableFilled w f t (cleared (w * w) t)
cleared_filled w f t room none =
    record {
      long = cleared_length (w * w) t room;
      at = λ a b ha hb.
          let i : a * w + b < w * w = place_inside w a b ha hb in
          get_or-append (replicate (w * w) (pos 0)) (drop (w * w) t) (pos 0) (a * w + b) (omega (arith, length-replicate (w * w) (pos 0)))
          ∙ get_or-replicate (w * w) (a * w + b) (pos 0) (pos 0) i ∙ sym (none a b);
      past = drop_at (replicate (w * w) (pos 0)) (drop (w * w) t) (w * w) (length-replicate (w * w) (pos 0));
    }

-- filled where it had been filled
pub filled_over : (w : ℕ) (f g : Weights) (t₀ t u : List ℤ) → TableFilled w f t₀ t → TableFilled w g t u → TableFilled w g t₀ u
filled_over w f g t₀ t u h k = record { long = k.long ∙ h.long; at = k.at; past = k.past ∙ h.past }
