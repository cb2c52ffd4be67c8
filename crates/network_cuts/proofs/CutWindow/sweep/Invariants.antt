-- The boundaries before b are settled; `fell` says whether one of them lowered z.
use Rattle.network_cuts.specs.Decider.{Sinks, Settles, fell}
use Rattle.network_cuts.proofs.CutWindow.sweep.Given as goal

abbrev pub invariant-loop-b : goal.invariant-loop-b
invariant-loop-b l = Sinks l.self l.z × Settles l.self 0 l.b l.initial.z l.z (fell l.fell)
