-- The questions decide, or what seating a sheet that passed them leaves.
-- Key idea: that the reply says what the seating said is a fact that `grind` proves, whatever the code hands on: a wrong reply falls there.
use Rattle.std.proofs.Common.{◌≡◌, sym, ap, ◌∙◌, arith}
use Rattle.questions.specs.Questions.{verdict_of}
use Rattle.questions.proofs.VerdictLaws.{passed_on}
use Rattle.sheet.specs.Lists.{given_by}
use Rattle.plan_rooms.specs.Rooms.{seat_rooms, seat_lent}
use Rattle.plan_ask.proofs.SolvableLaws.{yes_read, asked_of}
use Rattle.plan_steps.specs.Closing.{passed}
use Rattle.plan_answers.specs.Planning.{by_pass, looked_by, seated, SeatNone, SeatSettled}
use Rattle.plan_answers.specs.Reply.{seat_reply, seated_reply, looks_told, seated_looks}
use Rattle.plan_answers.proofs.ConclusionLaws.{refused_told, solved_settled, looked_by_lem, of_lent}
use Rattle.plan.proofs.seat.Goals as goal

pub returns-in_err-ask-clause-settled : goal.returns-in_err-ask-clause-settled
returns-in_err-ask-clause-settled c =
    let l = c.args.lists.now in
    let s = given_by l in
    let before = seat_rooms c.args.table.now c.args.plan.now c.args.earliest.now c.args.latest.now in
    let no = asked_of l _ (seat_lent before) _ _ c.ask.ensures c.for_seats.ensures (ap verdict_of c.in_err-ask.was) in
    refused_told l _ (seated s) (SeatNone s) before _ _ no _ (ap seat_reply (passed_on _ _ c.from_residual.ensures.1))

pub seat-requires : goal.seat-requires
seat-requires c =
    let lent = seat_lent (seat_rooms c.args.table.now c.args.plan.now c.args.earliest.now c.args.latest.now) in
    yes_read _ _ _ c.lists.view_is lent (asked_of c.args.lists.now _ lent _ _ c.ask.ensures c.for_seats.ensures (ap verdict_of c.in_ok-ask.was))

pub returns-clause-settled : goal.returns-clause-settled
returns-clause-settled c =
    let l = c.args.lists.now in
    let s = given_by l in
    let before = seat_rooms c.args.table.now c.args.plan.now c.args.earliest.now c.args.latest.now in
    let after = seat_rooms c.seat.new.table c.seat.new.plan c.seat.new.earliest c.seat.new.latest in
    let told = seated_reply c.seat.result in
    let yes = asked_of l _ (seat_lent before) _ _ c.ask.ensures c.for_seats.ensures (ap verdict_of c.in_ok-ask.was) in
    solved_settled l _ (seated s) (SeatNone s) before yes _ told (grind arith) after
    (of_lent (λ x. SeatSettled (by_pass (passed x)) x before told after) _ _ _ c.lists.view_is c.seat.ensures.settled)

pub returns-in_err-ask-clause-looked : goal.returns-in_err-ask-clause-looked
returns-in_err-ask-clause-looked c =
    let l = c.args.lists.now in
    let asked = seat_lent (seat_rooms c.args.table.now c.args.plan.now c.args.earliest.now c.args.latest.now) in
    let no = asked_of l _ asked _ _ c.ask.ensures c.for_seats.ensures (ap verdict_of c.in_err-ask.was) in
    ap looks_told (passed_on _ _ c.from_residual.ensures.1) ∙ sym (looked_by_lem l _ _ no)

pub returns-clause-looked : goal.returns-clause-looked
returns-clause-looked c =
    let l = c.args.lists.now in
    let asked = seat_lent (seat_rooms c.args.table.now c.args.plan.now c.args.earliest.now c.args.latest.now) in
    let yes = asked_of l _ asked _ _ c.ask.ensures c.for_seats.ensures (ap verdict_of c.in_ok-ask.was) in
    let looked = of_lent (λ x. seated_looks c.seat.result ≡ looked_by (by_pass (passed x)) x) _ _ _ c.lists.view_is c.seat.ensures.looked in
    (grind arith) ∙ looked ∙ sym (looked_by_lem l _ _ yes)
