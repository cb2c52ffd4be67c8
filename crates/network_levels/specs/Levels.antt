-- How low a potential can be pushed in k steps: the levels of the weights d over w boundaries (Bellman-Ford). Definitions only.
use Rattle.std.specs.Prelude.{ℕ, zero, suc, ℤ, pos, ◌+ℤ◌}
use Rattle.integers.specs.Parts.{min_ℤ}
use Rattle.network.specs.Network.{Weights, Potential}

-- the smallest of z and g 0, .., g (n - 1)
abbrev pub least_over : ℕ → (ℕ → ℤ) → ℤ → ℤ
least_over zero g z = z
least_over (suc n) g z = min_ℤ (least_over n g z) (g n)

-- one step lower: each boundary takes the least that a step from some boundary leaves it
abbrev pub lower : ℕ → Weights → Potential → Potential
lower w d z v = least_over w (λ u. z u +ℤ d u v) (z v)

-- k steps from 0
unfoldable pub level : ℕ → Weights → ℕ → Potential
level w d zero v = pos 0
level w d (suc k) v = lower w d (level w d k) v
