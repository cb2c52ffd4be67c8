-- How large the numbers of a table may be. Definitions only.
use Rattle.std.specs.Prelude.{List, ℕ, ◌+◌, ◌<◌, ℤ}
use Rattle.integers.specs.Parts.{Within}
use Rattle.network.specs.Table.{entry}

-- the largest weight, and the largest sum of two
abbrev pub max_weight : ℕ
max_weight = 300

abbrev pub max_sum : ℕ
max_sum = max_weight + max_weight

-- no entry of the table is more than the largest weight away from 0
abbrev pub Small : ℕ → List ℤ → Type 0
Small w t = (a b : ℕ) → a < w → b < w → Within max_weight (entry w t a b)
