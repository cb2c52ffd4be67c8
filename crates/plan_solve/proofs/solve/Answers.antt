-- Where deciding said that the sheet fits, seats and windows are filled in by the table that it left.
use Rattle.sheet.specs.Lists.{given}
use Rattle.plan_rooms.proofs.RoomsLaws.{plan_holds, plan_decides}
use Rattle.plan_answers.proofs.SolvingLaws.{span_asked, seats_read, ready_read, plan_left, decided_fits}
use Rattle.plan_steps.specs.Closing.{passed}
use Rattle.plan_solve.proofs.solve.Goals as goal

pub decide-requires : goal.decide-requires
decide-requires c =
    let r = c.requires in
    record { lists = r.lists; sheet = r.sheet; rooms = plan_decides (given c.args.lists.now) _ _ _ r.rooms }

pub boundaries-w-requires : goal.boundaries-w-requires
boundaries-w-requires c = span_asked _ _ c.requires _ (plan_holds (given c.args.lists.now) _ _ _ c.requires.rooms).0 _ c.lists.view_is

pub fill_plan-requires-clause-ready : goal.fill_plan-requires-clause-ready
fill_plan-requires-clause-ready c =
    let s = given c.args.lists.now in
    let big = (plan_holds s _ _ _ c.requires.rooms).0 in
    let f = decided_fits s _ _ _ _ (passed s) c.in_ok-decide.ensures in
    (s, ready_read _ _ c.requires _ big f.0 f.1 _ f.2 _ c.lists.view_is _ c.boundaries-w.ensures)

pub fill_plan-requires-clause-rooms : goal.fill_plan-requires-clause-rooms
fill_plan-requires-clause-rooms c =
    let holds = plan_holds (given c.args.lists.now) _ _ _ c.requires.rooms in
    seats_read _ _ c.requires _ holds.0 _ c.lists.view_is _ holds.1

pub returns : goal.returns
returns c =
    let s = given c.args.lists.now in
    let big = (plan_holds s _ _ _ c.requires.rooms).0 in
    let f = decided_fits s _ _ _ _ (passed s) c.in_ok-decide.ensures in
    let ready = ready_read _ _ c.requires _ big f.0 f.1 _ f.2 _ c.lists.view_is _ c.boundaries-w.ensures in
    plan_left _ _ c.requires _ big f.0 f.1 _ f.2 _ _ _ _ _ _ _ (c.fill_plan.ensures s ready) _ _ f.3
