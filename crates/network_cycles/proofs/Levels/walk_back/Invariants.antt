-- Each turn puts a boundary more in front of the walk, or finds it on the walk already.
use Rattle.network_cycles.proofs.WalkSteps.{WalkInv}
use Rattle.network_cycles.proofs.Levels.walk_back.Given as goal

abbrev pub invariant-loop-steps : goal.invariant-loop-steps
invariant-loop-steps l = WalkInv l.self.w l.self.d.now l.walk l.k l.v

abbrev pub decreases-loop-steps : goal.decreases-loop-steps
decreases-loop-steps l = l.k
