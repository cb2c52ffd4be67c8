-- Key idea: what is left to do from the next place of the order on gives the whole answer.
use Rattle.std.proofs.Common.{◌-◌, ◌≤◌, length}
use Rattle.plans.specs.Seating.{at}
use Rattle.plan_seats.proofs.SlotLaws.{Search}
use Rattle.plan_seats.proofs.seat_slot.Given as goal

abbrev pub invariant-loop : goal.invariant-loop
invariant-loop l = record {
  inside : l.looked ≤ length l.order;
  search : Search (at l.first) l.slot l.order l.count l.initial.plan l.looked (l.count - l.counter) l.plan;
}
