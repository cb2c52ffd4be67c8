-- n on every forward step, swept over a table: left of the diagonal and on it nothing changes.
use mathlib.Core.Path.{◌≡◌, refl, sym, ap, ◌∙◌}
use mathlib.Core.Bool.{cond}
use borrow.Author.Rules.{rules}
use borrow.Rule.Slice.PartMut.{put_mid}
use Rattle.std.proofs.lemmas.Slice.{drop-put_mid}
use Rattle.std.proofs.lemmas.List.{places, length-replicate, get_or-replicate}
use Rattle.network.proofs.TableLaws.{row_inside}
use Rattle.limit_places.specs.LentTableLaws.{rows_apart}
use mathlib.Core.List.{List}
use Rattle.std.proofs.Common.{replicate}
use Prim.Native.Nat.{ℕ, ◌+◌, ◌-◌, ◌*◌, ◌≤◌, ◌<◌}
use native.Mathlib.Omega.{arith}
use lib.Dec.{ltb}
use lib.ListN.{length, get_or}
use lib.IntN.{ℤ, pos}
use borrow.Author.Tests.{lt-ltb, le-ltb}
use Rattle.network.specs.Network.{Weights}
use Rattle.network.specs.Table.{entry}
use Rattle.limits.specs.LimitTable.{with_forward}
use Rattle.limit_places.specs.Sweep.{Swept, swept_first, swept_row}

pub forward_yes : (n : ℕ) (d : Weights) (a b : ℕ) → a < b → with_forward n d a b ≡ pos n
unfolding with_forward
forward_yes n d a b h = rw (lt-ltb a b h) refl

pub forward_no : (n : ℕ) (d : Weights) (a b : ℕ) → b ≤ a → with_forward n d a b ≡ d a b
unfolding with_forward
forward_no n d a b h = rw (le-ltb a b h) refl

pub forward_same : (n : ℕ) (d e : Weights) (a b : ℕ) → d a b ≡ e a b → with_forward n d a b ≡ with_forward n e a b
unfolding with_forward
forward_same n d e a b h = ap (λ (z : ℤ). cond (ltb a b) (pos n) z) h

-- the sweep that puts n on the forward steps of T
abbrev pub Put : ℕ → ℕ → List ℤ → ℕ → ℕ → List ℤ → Type 0
Put n w T a b t = Swept w (entry w T) (with_forward n (entry w T)) T a b t

pub put_first : (n w : ℕ) (t : List ℤ) → Put n w t 0 w t
put_first n w t = swept_first w (entry w t) (with_forward n (entry w t)) t t 0 w (record { long = refl; at = λ a b ha hb. refl; past = refl })
    (λ x y h. absurd (omega arith)) (λ y h k. absurd (omega arith))

-- ---- k entries in a row become ys; the others stay
module _ (lo k : ℕ) (xs ys : List ℤ) (fits : lo + k ≤ length xs) (size : length ys ≡ k) where
  part_before : (i : ℕ) → i < lo → get_or (put_mid lo k xs ys) i (pos 0) ≡ get_or xs i (pos 0)
  part_before i h = search (rules, places)

  part_here : (i : ℕ) → i < k → get_or (put_mid lo k xs ys) (lo + i) (pos 0) ≡ get_or ys i (pos 0)
  part_here i h = search (rules, places)

  part_past : (i : ℕ) → lo + k ≤ i → get_or (put_mid lo k xs ys) i (pos 0) ≡ get_or xs i (pos 0)
  part_past i h = search (rules, places)

put_row : (n w : ℕ) (T t : List ℤ) (a b : ℕ) → b ≤ a + 1 → Put n w T a b t → Put n w T (a + 1) w t
put_row n w T t a b h s =
    let f = entry w T in
    swept_row w f (with_forward n f) T t a b w s (λ y k. sym (forward_no n f a y (omega arith))) (λ y k l. absurd (omega arith))

-- the part of row a right of the diagonal becomes n
pub put_part : (n w : ℕ) (T t : List ℤ) (a lo k : ℕ) (z : ℤ) → w * w ≤ length T → a < w → lo ≡ a * w + a + 1 → k ≡ a * w + w - lo → z ≡ pos n
    → Put n w T a w t → Put n w T (a + 1) w (put_mid lo k t (replicate k z))
put_part n w T t a lo k z room ha el ek ez s =
    let f = entry w T in
    let ys = replicate k z in
    let u = put_mid lo k t ys in
    let size = length-replicate {A = ℤ} k z in
    let row = row_inside a w ha in
    let fits : lo + k ≤ length t = omega (arith, s.long) in
    put_row n w T u a (a + 1) (omega arith) (record {
      long = search (rules, places, s.long, fits, size);
      above = λ x y hx hw hy. part_before lo k t ys fits size (x * w + y) (omega (arith, rows_apart w x a hx)) ∙ s.above x y hx hw hy;
      right = λ y hy hw _.
          let i = y - (a + 1) in
          let e : a * w + y ≡ lo + i = omega arith in
          ap (λ (j : ℕ). get_or u j (pos 0)) e ∙ part_here lo k t ys fits size i (omega arith)
          ∙ get_or-replicate k i z (pos 0) (omega arith) ∙ ez ∙ sym (forward_yes n f a y (omega arith));
      left = λ y hy hw _. part_before lo k t ys fits size (a * w + y) (omega arith) ∙ s.left y hw hw ha;
      below = λ x y hx hw hy. part_past lo k t ys fits size (x * w + y) (omega (arith, rows_apart w a x hx)) ∙ s.below x y hx hw hy;
      past = drop-put_mid lo k t ys (w * w) (omega (arith, row)) (omega arith) size ∙ s.past;
    })
