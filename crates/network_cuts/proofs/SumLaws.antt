-- Sums of two modest numbers fit 16 bits, and the least of several is found one place at a time.
-- Key idea: the smaller of the least sum so far and of the sum at place i bounds the sums of the places below i + 1, and is one of them.
use mathlib.Core.Path.{◌∙◌}
use mathlib.Core.Logic.{⊎_elim}
use mathlib.Core.List.{List}
use Prim.Native.Nat.{ℕ, ◌+◌, ◌<◌}
use native.Mathlib.Omega.{arith}
use native.Mathlib.Decide.{ℕ_discrete}
use lib.ListN.{length}
use lib.IntN.{ℤ, ◌+ℤ◌}
use lib.Signed.{◌≤ℤ◌}
use mir.Syntax.{w16}
use mir.Val.{SFits}
use Rattle.integers.specs.Parts.{Within, ints, sum, min_ℤ, min_is, fits_within}
use Rattle.network_cuts.specs.Decider.{value_at, LeastSum}

pub sum_fits : (a b : ℤ) → Within 1000 a → Within 1000 b → SFits w16 (a +ℤ b)
sum_fits a b p q = fits_within w16 (a +ℤ b) 2000 tt (omega (arith, sum a b)) (omega (arith, sum a b))

-- ---- least sums
pub least_more : (i : ℕ) (xs ys : List ℤ) (r : ℤ) → i < length xs → LeastSum i xs ys r → LeastSum (i + 1) xs ys (min_ℤ r (value_at xs i +ℤ value_at ys i))
least_more i xs ys r h s =
    let x = value_at xs i +ℤ value_at ys i in
    let m = min_ℤ r x in
    let below : (c : ℕ) → m ≤ℤ r → m ≤ℤ x → c < i + 1 → m ≤ℤ (value_at xs c +ℤ value_at ys c) = (λ c p q hc. elim (ℕ_discrete c i) [
      | yes e ↦ rw e q
      | no ne ↦ omega (ints, s.bound c (omega arith))
    ]) in
    ⊎_elim (λ p. record {
      bound = λ c hc. below c (omega (ints, p.0)) (omega (ints, p.0, p.1)) hc;
      place = s.place;
      inside = s.inside;
      attained = p.0 ∙ s.attained;
    })
    (λ p. record { bound = λ c hc. below c (omega (ints, p.0, p.1)) (omega (ints, p.0)) hc; place = i; inside = h; attained = p.0 }) (min_is r x)
