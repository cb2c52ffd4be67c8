-- What the other house is sent of a rule. Definitions only.
use Rattle.std.specs.Prelude.{◌≡◌}
use Rattle.sheet.specs.Sheet.{Rule}
use Rattle.forms.specs.declared.House.{House}
use Rattle.forms.specs.declared.House.TheVariants.{Ours, Partner}

-- a house that knows no low is sent none
abbrev pub LowKept : House → Rule → Type 0
LowKept Ours r = Unit {0}
LowKept Partner r = r.low ≡ 0
