-- A limit by value that takes a rule's high or low and hands itself back tightened. Definitions only.
use Rattle.std.specs.Prelude.{ℕ, ℤ, pos, neg_ℤ}
use Rattle.integers.specs.Parts.{min_ℤ}
use Rattle.limit_value.specs.declared.Limit.{Limit}

-- the smaller of the limit and a bound
unfoldable pub with_bound : Limit → ℤ → Limit
with_bound l bound = record { value = min_ℤ l.value bound }

-- and a high, or minus a low
abbrev pub with_high : Limit → ℕ → Limit
with_high l high = with_bound l (pos high)

abbrev pub with_low : Limit → ℕ → Limit
with_low l low = with_bound l (neg_ℤ (pos low))
