-- Two lists one behind the other at the front of a third, and the parts of it that they are.
-- Key idea: as many places as both have are the places of the first and then, past them, those of the second.
use Prim.Native.Nat.{ℕ, ◌+◌, ◌-◌, ◌≤◌}
use mathlib.Core.Path.{◌≡◌, sym, ap, ◌∙◌}
use mathlib.Core.List.{List, ◌++◌}
use native.Mathlib.Omega.{arith}
use lib.ListN.{length, take, drop, length-take, length-append}
use lib.Seq.{take-add, take_at, drop_at, length-take-le}

module _ (xs ys l : List ℕ) (i k : ℕ) (lx : length xs ≡ i) (ly : length ys ≡ k) (e : take (i + k) l ≡ xs ++ ys) where
  pub both_fit : i + k ≤ length l
  both_fit = omega (arith, ap length e, length-append xs ys, length-take (i + k) l)

  both : take i l ++ take k (drop i l) ≡ xs ++ ys
  both = sym (take-add i k l) ∙ e

  pub first_part : take i l ≡ xs
  first_part = sym (take_at (take i l) (take k (drop i l)) i (length-take-le i l (omega (arith, both_fit)))) ∙ ap (take i) both ∙ take_at xs ys i lx

  pub second_part : take (i + k - i) (drop i l) ≡ ys
  second_part =
      let n : i + k - i ≡ k = omega arith in
      ap (λ (m : ℕ). take m (drop i l)) n
      ∙ sym (drop_at (take i l) (take k (drop i l)) i (length-take-le i l (omega (arith, both_fit)))) ∙ ap (drop i) both ∙ drop_at xs ys i lx
