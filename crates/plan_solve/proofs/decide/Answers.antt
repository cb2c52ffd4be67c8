-- The table's room holds the limits, and where the pass stopped the ring's room holds a ring.
use Rattle.sheet.specs.Lists.{given}
use Rattle.plan_rooms.proofs.RoomsLaws.{decide_hold}
use Rattle.plan_answers.proofs.SolvingLaws.{limits_asked, ring_asked}
use Rattle.plan_solve.proofs.decide.Goals as goal

pub close_limits-requires : goal.close_limits-requires
close_limits-requires c = limits_asked _ _ c.requires _ (decide_hold (given c.args.lists.now) _ _ c.requires.rooms).0

pub find_ring-length-requires : goal.find_ring-length-requires
find_ring-length-requires c =
    let holds = decide_hold (given c.args.lists.now) _ _ c.requires.rooms in
    ring_asked _ _ c.requires _ holds.0 _ _ c.close_limits.ensures c.in-Err.is _ holds.1
