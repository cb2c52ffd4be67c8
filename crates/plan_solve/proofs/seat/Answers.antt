-- Where the pass finished, seats and windows are filled in by its table.
use Rattle.sheet.specs.Lists.{given}
use Rattle.plan_rooms.proofs.RoomsLaws.{seat_hold}
use Rattle.plan_answers.proofs.SolvingLaws.{limits_asked, span_asked, seats_read, finished_ok, ready_closed, seats_closed, looks_closed}
use Rattle.plan_solve.proofs.seat.Goals as goal

pub close_limits-requires : goal.close_limits-requires
close_limits-requires c = limits_asked _ _ c.requires _ (seat_hold (given c.args.lists.now) _ _ c.requires.rooms).0

pub boundaries-w-requires : goal.boundaries-w-requires
boundaries-w-requires c = span_asked _ _ c.requires _ (seat_hold (given c.args.lists.now) _ _ c.requires.rooms).0 _ c.lists.view_is

pub fill_plan-looked-requires-clause-ready : goal.fill_plan-looked-requires-clause-ready
fill_plan-looked-requires-clause-ready c =
    let s = given c.args.lists.now in
    let big = (seat_hold s _ _ c.requires.rooms).0 in
    (s, ready_closed _ _ c.requires _ big _ _ c.close_limits.ensures (finished_ok _ _ c.in_ok-ok.ensures.value) _ c.lists.view_is _ c.boundaries-w.ensures)

pub fill_plan-looked-requires-clause-rooms : goal.fill_plan-looked-requires-clause-rooms
fill_plan-looked-requires-clause-rooms c =
    let holds = seat_hold (given c.args.lists.now) _ _ c.requires.rooms in
    seats_read _ _ c.requires _ holds.0 _ c.lists.view_is _ holds.1

pub returns-clause-settled : goal.returns-clause-settled
returns-clause-settled c =
    let s = given c.args.lists.now in
    let big = (seat_hold s _ _ c.requires.rooms).0 in
    let done = finished_ok _ _ c.in_ok-ok.ensures.value in
    let ready = ready_closed _ _ c.requires _ big _ _ c.close_limits.ensures done _ c.lists.view_is _ c.boundaries-w.ensures in
    seats_closed _ _ c.requires _ big _ _ c.close_limits.ensures done _ _ _ _ _ _ _ (c.fill_plan-looked.ensures s ready)

pub returns-clause-looked : goal.returns-clause-looked
returns-clause-looked c =
    let s = given c.args.lists.now in
    let big = (seat_hold s _ _ c.requires.rooms).0 in
    let done = finished_ok _ _ c.in_ok-ok.ensures.value in
    let ready = ready_closed _ _ c.requires _ big _ _ c.close_limits.ensures done _ c.lists.view_is _ c.boundaries-w.ensures in
    looks_closed _ _ c.requires _ big _ _ c.close_limits.ensures done _ _ _ _ _ _ _ (c.fill_plan-looked.ensures s ready)
