-- The sheet at the front of the lists that reading was lent, and what a call that goes on with it is to know of it. Definitions only.
use Rattle.std.specs.Prelude.{ℕ, List, take}
use Rattle.sheet.specs.declared.Sheet.{Sheet}
use Rattle.read_questions.specs.Reading.{ListRooms}
use Rattle.read_questions.specs.Steps.{Holds}
use Rattle.sheet.specs.Lists.{WrittenLists, written_lists}
use Rattle.plan_ask.specs.Asking.{Listed}

-- of each list as many places as there are units or rules
abbrev pub fronts : Sheet → ListRooms (List ℕ) → WrittenLists
fronts s m =
    written_lists s.span (take s.units m.loader) (take s.units m.first) (take s.units m.last)
    (take s.rules m.from) (take s.rules m.to) (take s.rules m.low) (take s.rules m.high)

-- the lists hold a sheet that planning accepts
pub record Held (s : Sheet) (m : ListRooms (List ℕ)) : Type 0 where
  pub long : Holds s.units s.rules m
  pub passes : Listed (fronts s m)
