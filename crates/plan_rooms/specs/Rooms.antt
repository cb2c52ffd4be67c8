-- The rooms that a call lends, their lengths, and whether they are long enough: question 12 of docs/RULES.md. Definitions only.
use Rattle.std.specs.Prelude.{Bool, true, ◌&&◌, List, ℕ, ◌*◌, leb, length, ℤ, Option, Some, None}
use Rattle.slots.specs.Slots.{Slot}
use Rattle.sheet.specs.Sheet.{Sheet, boundaries}
use Rattle.plan_rooms.specs.declared.Seats.{Seats}
use Rattle.plan_rooms.specs.declared.Lengths.{Lengths}

-- ---- the rooms of a call: what it lends, before it or after it

-- of planning
pub record Rooms : Type 0 where
  pub table : List ℤ
  pub plan : List Slot
  pub earliest : List Slot
  pub latest : List Slot
  pub ring : List ℕ

abbrev pub lent : List ℤ → List Slot → List Slot → List Slot → List ℕ → Rooms
lent t p e l r = record { table = t; plan = p; earliest = e; latest = l; ring = r }

-- of deciding
pub record DecideRooms : Type 0 where
  pub table : List ℤ
  pub ring : List ℕ

abbrev pub decide_rooms : List ℤ → List ℕ → DecideRooms
decide_rooms t r = record { table = t; ring = r }

-- of seating
pub record SeatRooms : Type 0 where
  pub table : List ℤ
  pub plan : List Slot
  pub earliest : List Slot
  pub latest : List Slot

abbrev pub seat_rooms : List ℤ → List Slot → List Slot → List Slot → SeatRooms
seat_rooms t p e l = record { table = t; plan = p; earliest = e; latest = l }

-- ---- their lengths

abbrev pub seat_lengths : List Slot → List Slot → List Slot → Seats
seat_lengths p e l = record { plan = length p; earliest = length e; latest = length l }

-- planning's, by the table's, those for seats and the ring's
abbrev pub for_plan : ℕ → Seats → ℕ → Lengths
for_plan table seats ring = record { table = table; seats = Some seats; ring = Some ring }

-- deciding's
abbrev pub for_decision : ℕ → ℕ → Lengths
for_decision table ring = record { table = table; seats = None; ring = Some ring }

-- seating's
abbrev pub for_seats : ℕ → Seats → Lengths
for_seats table seats = record { table = table; seats = Some seats; ring = None }

abbrev pub plan_lent : Rooms → Lengths
plan_lent r = for_plan (length r.table) (seat_lengths r.plan r.earliest r.latest) (length r.ring)

abbrev pub decide_lent : DecideRooms → Lengths
decide_lent r = for_decision (length r.table) (length r.ring)

abbrev pub seat_lent : SeatRooms → Lengths
seat_lent r = for_seats (length r.table) (seat_lengths r.plan r.earliest r.latest)

-- ---- 12: is every room that the call asks for long enough?

abbrev pub places : Sheet → ℕ
places s = boundaries s * boundaries s

-- the rooms for the seats and the narrowed windows of so many units
abbrev pub seats_fit : ℕ → Seats → Bool
seats_fit n r = leb n r.plan && (leb n r.earliest && leb n r.latest)

-- a room that the call does not lend is not asked for
abbrev pub seats_asked : ℕ → Option Seats → Bool
seats_asked n (Some r) = seats_fit n r
seats_asked n None = true

abbrev pub ring_asked : ℕ → Option ℕ → Bool
ring_asked w (Some k) = leb w k
ring_asked w None = true

-- of so many boundaries and units
abbrev pub lengths_fit : ℕ → ℕ → Lengths → Bool
lengths_fit w n r = leb (w * w) r.table && (seats_asked n r.seats && ring_asked w r.ring)

unfoldable pub rooms_fit : Sheet → Lengths → Bool
rooms_fit s r = lengths_fit (boundaries s) (length s.units) r
