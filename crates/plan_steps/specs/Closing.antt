-- The pass over a sheet's limits, and the table that it leaves in the room lent for it. Definitions only.
use Rattle.std.specs.Prelude.{◌≡◌, List, ◌++◌, ℕ, T, length, drop, ℤ}
use Rattle.network_pass.specs.Pass.{Passed, finished, stopped, pass_of, Outcome, outcome_of}
use Rattle.network.specs.Table.{table_of, cleared}
use Rattle.sheet.specs.Sheet.{Sheet, boundaries, limit, is_ring}
use Rattle.plan_rooms.specs.Rooms.{places}

-- the pass over the table of the sheet's limits
unfoldable pub passed : Sheet → Passed
passed s = pass_of (boundaries s) (table_of (boundaries s) (limit s))

abbrev pub table_left : Sheet → Passed → List ℤ → List ℤ
table_left s (finished t) room = t ++ drop (places s) room
table_left s stopped room = cleared (places s) room

-- the pass over the limits of s, in a room lent
pub record Closed (s : Sheet) (before : List ℤ) (r : Outcome) (after : List ℤ) : Type 0 where
  pub outcome : r ≡ outcome_of (passed s)
  pub table : after ≡ table_left s (passed s) before

-- a ring at the front of its room, and the table's places 0
pub record RingFound (s : Sheet) (table : List ℤ) (room : List ℕ) (r : ℕ) (table_after : List ℤ) (roomAfter : List ℕ) : Type 0 where
  pub ring : List ℕ
  pub closed : T (is_ring s ring)
  pub size : r ≡ length ring
  pub front : roomAfter ≡ ring ++ drop (length ring) room
  pub zeros : table_after ≡ cleared (places s) table
