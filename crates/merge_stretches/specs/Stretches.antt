-- What asking about the rules rests on. Definitions only.
use Rattle.std.specs.Prelude.{ℕ, List, length}
use Rattle.slots.specs.Slots.{Slot}
use Rattle.sheet.specs.Sheet.{Rule}
use Rattle.lists.specs.Last.{last_passing}
use Rattle.merge_rules.specs.Columns.{stretch_at}

-- the last place of a rule's stretch among stretches by their first and last slots, or how many they are
abbrev pub last_at : List Slot → List Slot → Rule → ℕ
last_at from to q = last_passing (length from) (stretch_at from to q.from q.to)
