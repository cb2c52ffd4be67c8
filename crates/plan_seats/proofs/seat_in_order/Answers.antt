-- Key idea: the units in order, a room of zeros, and then slot after slot.
use Rattle.std.proofs.Common.{arith, ap, List, ℕ, length}
use Rattle.plans.specs.Seating.{at}
use Rattle.plans.proofs.OrderLaws.{by_rank_in_order}
use Rattle.plan_seats.proofs.seat_in_order.Goals as goal

pub seat_slots-requires-clause-lists : goal.seat_slots-requires-clause-lists
seat_slots-requires-clause-lists c =
    let p = c.requires in
    let o = c.order_units in
    let last = c.args.last.now in
    let units = (by_rank_in_order (at last) (length last) c.args.order.now (omega (arith, p.seatable.lists))).units in (
      omega (arith, c.fill.auto.self),
      λ j h. omega (arith, c.fill.auto.self, units j (omega (arith, o.auto.order)), ap (λ (xs : List ℕ). at xs j) o.ensures),
      omega (arith, o.auto.order),
    )
