-- Rooms that are long enough, as 12 asks: what its yes says of each room, and rooms that every accepted sheet passes with.
-- Key idea: an accepted sheet has at most so many boundaries and units.
use Rattle.std.specs.Prelude.{true, ◌&&◌, ℕ, ◌≤◌, T, length}
use Rattle.std.proofs.Common.{arith, mul-le-mul, le→leb}
use Rattle.std.proofs.Math.Dec.{leb, leb→le}
use Rattle.lists.specs.Members.{both, left, right}
use Rattle.network.specs.Table.{max_boundaries}
use Rattle.sheet.specs.Sizes.{max_units, max_cells}
use Rattle.sheet.specs.Sheet.{Sheet, top, boundaries}
use Rattle.sheet.specs.Questions.{accepted}
use Rattle.sheet.proofs.QuestionLaws.{accepted_sized}
use Rattle.plan_rooms.specs.Rooms.{for_plan, for_decision, for_seats, seats_fit, rooms_fit, places}
use Rattle.plan_rooms.specs.declared.Seats.{Seats}

pub record SeatsHold (s : Sheet) (r : Seats) : Type 0 where
  pub plan : length s.units ≤ r.plan
  pub earliest : length s.units ≤ r.earliest
  pub latest : length s.units ≤ r.latest

module _ (s : Sheet) where
  seats_hold : (r : Seats) → T (seats_fit (length s.units) r) → SeatsHold s r
  seats_hold r h =
      let n = length s.units in
      let b = leb n r.plan in
      let c = leb n r.earliest in
      let d = leb n r.latest in
      let h₁ = right b (c && d) h in
      record {
        plan = leb→le n r.plan (left b (c && d) h);
        earliest = leb→le n r.earliest (left c d h₁);
        latest = leb→le n r.latest (right c d h₁);
      }

  pub decide_hold : (table ring : ℕ) → T (rooms_fit s (for_decision table ring)) → (places s ≤ table) × (boundaries s ≤ ring)
  unfolding rooms_fit
  decide_hold table ring h =
      let a = leb (places s) table in
      let b = leb (boundaries s) ring in
      (leb→le (places s) table (left a b h), leb→le (boundaries s) ring (right a b h))

  pub seat_hold : (table : ℕ) (r : Seats) → T (rooms_fit s (for_seats table r)) → (places s ≤ table) × SeatsHold s r
  unfolding rooms_fit
  seat_hold table r h =
      let a = leb (places s) table in
      let b = seats_fit (length s.units) r in
      (leb→le (places s) table (left a (b && true) h), seats_hold r (left b true (right a (b && true) h)))

  -- planning's rooms are deciding's and seating's
  module _ (table : ℕ) (r : Seats) (ring : ℕ) (h : T (rooms_fit s (for_plan table r ring))) where
    pub plan_holds : (places s ≤ table) × SeatsHold s r × (boundaries s ≤ ring)
    unfolding rooms_fit
    plan_holds =
        let a = leb (places s) table in
        let b = seats_fit (length s.units) r in
        let c = leb (boundaries s) ring in
        let k = right a (b && c) h in
        (leb→le (places s) table (left a (b && c) h), seats_hold r (left b c k), leb→le (boundaries s) ring (right b c k))

    pub plan_decides : T (rooms_fit s (for_decision table ring))
    unfolding rooms_fit
    plan_decides =
        let a = leb (places s) table in
        let b = seats_fit (length s.units) r in
        let c = leb (boundaries s) ring in
        both a c (left a (b && c) h) (right b c (right a (b && c) h))

-- ---- rooms for every sheet

abbrev pub seats_for_all : Seats
seats_for_all = record { plan = max_units; earliest = max_units; latest = max_units }

pub plan_for_all : (s : Sheet) → T (accepted s) → T (rooms_fit s (for_plan max_cells seats_for_all max_boundaries))
unfolding rooms_fit top
plan_for_all s ok =
    let sized = accepted_sized s ok in
    let n = leb (length s.units) max_units in
    let w : boundaries s ≤ max_boundaries = omega (arith, sized.slots.1) in
    let units = le→leb (length s.units) max_units sized.units in
    let ring = leb (boundaries s) max_boundaries in
    both (leb (places s) max_cells) ((n && (n && n)) && ring) (le→leb (places s) max_cells (mul-le-mul w w))
    (both (n && (n && n)) ring (both n (n && n) units (both n n units units)) (le→leb (boundaries s) max_boundaries w))

pub decision_for_all : (s : Sheet) → T (accepted s) → T (rooms_fit s (for_decision max_cells max_boundaries))
decision_for_all s ok = plan_decides s max_cells seats_for_all max_boundaries (plan_for_all s ok)
