-- The first boundary is the one that fell, and each turn is a law of `WalkSteps`.
use Rattle.std.proofs.lemmas.List.{take_rest}
use Rattle.network_cycles.proofs.WalkSteps.{walk_start, walk_found, walk_next}
use Rattle.network_cycles.proofs.Levels.walk_back.Goals as goal

pub loop-steps-init : goal.loop-steps-init
loop-steps-init c = walk_start c.args.walk.now c.args.self.now.made.weights c.requires.0 c.requires.1

pub returns-in-Some : goal.returns-in-Some
returns-in-Some c =
    let met = rw (take_rest c.loop-steps.walk c.loop-steps.k) at c.in-Some.ensures in
    walk_found c.args.self.now.made.weights c.loop-steps.invariant c.source_of-u.ensures c.in-Some.steps met.0 met.1

pub loop-steps-preserved : goal.loop-steps-preserved
loop-steps-preserved c =
    let absent = rw (take_rest c.loop-steps.walk c.loop-steps.k) at c.in_default.ensures in
    walk_next c.args.self.now.made.weights c.loop-steps.invariant c.source_of-u.ensures absent
