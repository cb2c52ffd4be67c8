-- What planning, deciding and seating from lists answer and leave, case by case: docs/RULES.md, "What a call leaves". Definitions only.
use Rattle.std.specs.Prelude.{◌≡◌, Bool, List, ◌++◌, ℕ, T, length, drop, ℤ}
use Rattle.network_pass.specs.Pass.{Passed, finished, stopped}
use Rattle.network.specs.Table.{cleared}
use Rattle.questions.specs.Questions.{Verdict, no, all_yes}
use Rattle.sheet.specs.Sheet.{Sheet, printed_plan, looked, earliest_slots, latest_slots, is_ring}
use Rattle.sheet.specs.Lists.{WrittenLists, given_by}
use Rattle.slots.specs.Slots.{Slot}
use Rattle.lists.specs.Lists.{on_front}
use Rattle.plan_rooms.specs.Rooms.{Rooms, DecideRooms, SeatRooms, plan_lent, places, rooms_fit}
use Rattle.plan_rooms.specs.declared.Lengths.{Lengths}
use Rattle.plan_ask.specs.Questions.{refusal_by}
use Rattle.plan_steps.specs.Closing.{passed}
use Rattle.plan_answers.specs.Reply as says

-- ---- what a call comes to: a refusal by number and line, a plan with the finished pass, or none

pub data Conclusion : Type 0 where
  refuse : (number line : ℕ) → Conclusion
  plan : List ℤ → Conclusion
  none : Conclusion

abbrev pub by_pass : Passed → Conclusion
by_pass (finished t) = plan t
by_pass stopped = none

-- the first no of the questions decides, or the pass
abbrev pub concluding : Verdict → Passed → Conclusion
concluding (no q n) p = refuse q n
concluding all_yes p = by_pass p

unfoldable pub conclusion_by : WrittenLists → Bool → Conclusion
conclusion_by l rooms = concluding (refusal_by l rooms) (passed (given_by l))

-- that of a call whose rooms have these lengths
abbrev pub conclusion_in : WrittenLists → Lengths → Conclusion
conclusion_in l r = conclusion_by l (rooms_fit (given_by l) r)

-- that of planning, whose rooms are these
abbrev pub conclusion : WrittenLists → Rooms → Conclusion
conclusion l r = conclusion_in l (plan_lent r)

-- ---- what a call leaves

-- The reply and the rooms after a call follow from its conclusion. A refusal changes nothing. By a plan the rooms are as the call leaves them with the
-- finished pass; what none replies and leaves is the call's own.
abbrev pub SettledBy : {R : Type 0} → (List ℤ → R → R) → (R → says.Reply → R → Type 0) → Conclusion → R → says.Reply → R → Type 0
SettledBy planned None (refuse q n) before reply after = (reply ≡ says.refused q n) × (after ≡ before)
SettledBy planned None (plan t) before reply after = (reply ≡ says.plan) × (after ≡ planned t before)
SettledBy planned None none before reply after = None before reply after

-- None with a ring, which is the one freedom: it may be any ring of the sheet's own limits.
abbrev pub WithRing : {R : Type 0} → Sheet → (List ℕ → R → R) → R → says.Reply → R → Type 0
WithRing s ringed before reply after = (c : List ℕ) × T (is_ring s c) × (reply ≡ says.none (length c)) × (after ≡ ringed c before)

-- the table's room with the finished pass in front, and those of the printed plan and of the narrowed windows
abbrev pub table_in : Sheet → List ℤ → List ℤ → List ℤ
table_in s t room = t ++ drop (places s) room

abbrev pub plan_in : Sheet → List Slot → List Slot
plan_in s room = printed_plan s ++ drop (length s.units) room

abbrev pub earliest_in : Sheet → List Slot → List Slot
earliest_in s room = earliest_slots s ++ drop (length s.units) room

abbrev pub latest_in : Sheet → List Slot → List Slot
latest_in s room = latest_slots s ++ drop (length s.units) room

-- ---- planning: by a plan the ring room is unchanged; by none the table's places are 0 and the ring c stands at the front of its room

abbrev pub planned : Sheet → List ℤ → Rooms → Rooms
planned s t r =
    record {
      table = table_in s t r.table;
      plan = plan_in s r.plan;
      earliest = earliest_in s r.earliest;
      latest = latest_in s r.latest;
      ring = r.ring;
    }

abbrev pub ringed : Sheet → List ℕ → Rooms → Rooms
ringed s c r =
    record {
      table = cleared (places s) r.table;
      plan = r.plan;
      earliest = r.earliest;
      latest = r.latest;
      ring = on_front c r.ring;
    }

abbrev pub Settled : Conclusion → Sheet → Rooms → says.Reply → Rooms → Type 0
Settled v s before reply after = SettledBy (planned s) (WithRing s (ringed s)) v before reply after

-- ---- deciding: the same, of the table and the ring alone

abbrev pub decided : Sheet → List ℤ → DecideRooms → DecideRooms
decided s t r = record { table = table_in s t r.table; ring = r.ring }

abbrev pub contradicted : Sheet → List ℕ → DecideRooms → DecideRooms
contradicted s c r = record { table = cleared (places s) r.table; ring = on_front c r.ring }

abbrev pub DecideSettled : Conclusion → Sheet → DecideRooms → says.Reply → DecideRooms → Type 0
DecideSettled v s before reply after = SettledBy (decided s) (WithRing s (contradicted s)) v before reply after

-- ---- seating: by none the table's places are 0, and no ring is written

abbrev pub seated : Sheet → List ℤ → SeatRooms → SeatRooms
seated s t r =
    record {
      table = table_in s t r.table;
      plan = plan_in s r.plan;
      earliest = earliest_in s r.earliest;
      latest = latest_in s r.latest;
    }

abbrev pub unseated : Sheet → SeatRooms → SeatRooms
unseated s r = record { table = cleared (places s) r.table; plan = r.plan; earliest = r.earliest; latest = r.latest }

abbrev pub SeatNone : Sheet → SeatRooms → says.Reply → SeatRooms → Type 0
SeatNone s before reply after = (reply ≡ says.none 0) × (after ≡ unseated s before)

abbrev pub SeatSettled : Conclusion → Sheet → SeatRooms → says.Reply → SeatRooms → Type 0
SeatSettled v s before reply after = SettledBy (seated s) (SeatNone s) v before reply after

-- how many units seating looked at: what the sheet's definition says by a plan, and none where nothing is seated
abbrev pub looked_by : Conclusion → Sheet → ℕ
looked_by (refuse q n) s = 0
looked_by (plan t) s = looked s
looked_by none s = 0
