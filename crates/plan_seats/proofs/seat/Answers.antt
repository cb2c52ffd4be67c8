-- Key idea: the first places of a room of zeros take the order, and the first places of the plan the slots; what is seated from row 0 is the printed plan,
-- and the looks are those of its definition.
use Rattle.std.proofs.Common.{◌≡◌, refl, ap, ◌∙◌, ◌++◌, List, ℕ, length, take, drop, replicate}
use Rattle.plan_seats.specs.Seats.{seats_from, looks_from}
use Rattle.plan_seats.specs.SeatsLaws.{row_printed, row_looked}
use Rattle.plan_seats.proofs.SlotLaws.{take_zeros, room_seated, room_looked}
use Rattle.sheet.specs.Sizes.{max_units}
use Rattle.plan_seats.proofs.seat.Goals as goal
use Rattle.plan_seats.proofs.seat.Goals.{After-seat_in_order}

-- the plan and the looks that were made
made : (c : After-seat_in_order) → let a = c.args in
    (c.seat_in_order.new.plan ++ drop (length a.first.now) a.plan.now ≡ seats_from a.first.now a.last.now a.counts.now ++ drop (length a.first.now) a.plan.now)
    × (c.seat_in_order.result ≡ looks_from a.first.now a.last.now a.counts.now)
made c =
    let a = c.args in
    let n = length a.first.now in
    let order : List ℕ = take n (replicate max_units 0) in
    let zeros = take_zeros n max_units c.requires.units in
    let e = c.seat_in_order.ensures in (
      room_seated a.first.now a.last.now a.counts.now n order c.seat_in_order.new.plan a.plan.now refl zeros e.seated,
      room_looked a.first.now a.last.now a.counts.now order c.seat_in_order.result zeros e.looked,
    )

pub returns-clause-determined : goal.returns-clause-determined
returns-clause-determined c = made (goal.at.returns-clause-determined c).After-seat_in_order

pub returns-clause-printed : goal.returns-clause-printed
returns-clause-printed c =
    let a = c.args in
    let m = made (goal.at.returns-clause-printed c).After-seat_in_order in
    λ s D R. (
      m.0 ∙ ap (λ (xs : List ℕ). xs ++ drop (length a.first.now) a.plan.now) (row_printed s D a.first.now a.last.now a.counts.now R c.requires.lists),
      m.1 ∙ row_looked s D a.first.now a.last.now a.counts.now R c.requires.lists,
    )
