-- One middle boundary over a small table, whatever pass it comes from.
-- Key idea: a sum of two small numbers is at most twice the largest weight away from 0, and 16 bits hold that.
use Rattle.std.specs.Prelude.{◌≡◌, refl, List, ℕ, ◌<◌, ℤ, pos, negsuc, ◌+ℤ◌}
use Rattle.std.proofs.Common.{arith, SFits}
use Rattle.std.specs.Int.{w16}
use Rattle.integers.specs.Parts.{Within, ints, sum, fits_within, min_cases}
use Rattle.network.specs.Closure.{step}
use Rattle.network.specs.Table.{entry}
use Rattle.network.specs.Bounds.{max_weight, max_sum, Small}

within_sum : (x y s : ℤ) → Within max_weight x → Within max_weight y → s ≡ x +ℤ y → Within max_sum s
within_sum x y (pos n) p q e = (omega (ints, e, sum x y), omega arith)
within_sum x y (negsuc n) p q e = (omega arith, omega (ints, e, sum x y))

module _ (w m : ℕ) (hm : m < w) (t : List ℤ) (S : Small w t) (a b : ℕ) (ha : a < w) (hb : b < w) where
  pub sum_within : Within max_sum (entry w t a m +ℤ entry w t m b)
  sum_within = within_sum (entry w t a m) (entry w t m b) (entry w t a m +ℤ entry w t m b) (S a m ha hm) (S m b hm hb) refl

  pub step_within : Within max_sum (step m (entry w t) a b)
  unfolding step
  step_within =
      let s = S a b ha hb in
      min_cases (entry w t a b) (entry w t a m +ℤ entry w t m b) (Within max_sum) (λ _. (omega (arith, s), omega (arith, s))) (λ _. sum_within)

  pub sum_fits : SFits w16 (entry w t a m +ℤ entry w t m b)
  sum_fits =
      let s = sum_within in
      fits_within w16 (entry w t a m +ℤ entry w t m b) max_sum tt (omega (arith, s)) (omega (arith, s))
