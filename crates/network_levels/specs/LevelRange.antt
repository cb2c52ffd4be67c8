-- How large levels get.
-- Key idea: a step takes no more than the largest weight off a level, and no level is above 0. So level k lies from 0 down to minus k times the largest
-- weight, and what a step leaves from a level below the last stays within the largest weight times the number of boundaries: 14,700 at most.
use Prim.Native.Nat.{ℕ, zero, suc, ◌+◌, ◌*◌, ◌≤◌, ◌<◌}
use native.Mathlib.Omega.{arith}
use Rattle.std.specs.Prelude.{List, ℤ, pos, ◌+ℤ◌, ◌≤ℤ◌}
use Rattle.std.specs.Int.{w16}
use Rattle.std.proofs.Common.{SFits}
use Rattle.integers.specs.Parts.{ints, up, dn, sum, fits_within}
use Rattle.network.specs.Table.{max_boundaries, entry}
use Rattle.network.specs.Bounds.{max_weight, Small}
use Rattle.network_levels.specs.Levels.{level}
use Rattle.network_levels.specs.LevelLaws.{least_among, level_falls}

module _ (w : ℕ) (d : List ℤ) (s : Small w d) where
  level_nonpos : (k v : ℕ) → level w (entry w d) k v ≤ℤ pos 0
  unfolding level
  level_nonpos zero v = omega ints
  level_nonpos (suc k) v = omega (ints, level_falls w (entry w d) k v, level_nonpos k v)

  level_low : (k v : ℕ) → v < w → dn (level w (entry w d) k v) ≤ max_weight * k + up (level w (entry w d) k v)
  unfolding level
  level_low zero v h = omega arith
  level_low (suc k) v h = least_among w (λ u. level w (entry w d) k u +ℤ entry w d u v) (level w (entry w d) k v) (λ z. dn z ≤ max_weight * suc k + up z)
      (omega (arith, level_low k v h))
      (λ u l. omega (arith, s u v l h, level_low k u l, sum (level w (entry w d) k u) (entry w d u v)))

  pub level_sum_fits : (k u v : ℕ) → k < max_boundaries → u < w → v < w → SFits w16 (level w (entry w d) k u +ℤ entry w d u v)
  level_sum_fits k u v hk hu hv =
      let x = level w (entry w d) k u in
      let y = entry w d u v in
      let q = s u v hu hv in
      fits_within w16 (x +ℤ y) (max_weight * max_boundaries) tt (omega (ints, q, level_nonpos k u, sum x y)) (omega (arith, q, level_low k u hu, sum x y))
