-- What narrowing asks of its lists, and what it leaves. Definitions only.
use Rattle.std.specs.Prelude.{◌≡◌, List, ◌++◌, ℕ, suc, ◌*◌, ◌≤◌, T, length, take, drop, ℤ}
use Rattle.network.specs.Table.{max_boundaries, entry}
use Rattle.sheet.specs.Sizes.{max_units}
use Rattle.slots.specs.Slots.{Slot}
use Rattle.sheet.specs.Sheet.{Sheet, top, lawful, earliest_slots, latest_slots}
use Rattle.sheet.specs.Questions.{windows_of}
use Rattle.sheet.specs.Solved.{Solved}

-- the lists give the units of the sheet s, a lawful plan of it, and the finished table of its limits
pub record Narrowable (s : Sheet) (first last plan : List Slot) (table : List ℤ) (w : ℕ) : Type 0 where
  pub units : s.units ≡ windows_of first last
  pub paired : length last ≡ length first
  pub few : length first ≤ max_units
  pub boundaries : w ≡ suc (top s)
  pub most : w ≤ max_boundaries
  pub size : w * w ≤ length table
  pub solved : Solved s (entry w table)
  pub lawfully : T (lawful s (take (length first) plan))

-- the narrowed windows' two ends, in front of what stands past them in their rooms
abbrev pub earliest_room : Sheet → List Slot → List Slot
earliest_room s room = earliest_slots s ++ drop (length s.units) room

abbrev pub latest_room : Sheet → List Slot → List Slot
latest_room s room = latest_slots s ++ drop (length s.units) room
