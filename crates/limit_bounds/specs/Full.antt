-- The sheet whose pass makes the largest sum. Definitions only.
use Rattle.std.specs.Prelude.{[], replicate}
use Rattle.sheet.specs.Sheet.{Sheet}

-- two slots, 300 units that may have either, no rule
abbrev pub full : Sheet
full = record { span = 2; units = replicate 300 (record { first = 1; last = 2 }); rules = [] }
