-- The potential stays above every one that keeps the arcs and is 0 before the window; each sweep that lowers it lowers its height, so the loop ends.
use Rattle.network_cuts.specs.Decider.{Sinks, height_at}
use Rattle.network_cuts.proofs.CutWindow.sink.Given as goal

abbrev pub invariant-loop : goal.invariant-loop
invariant-loop l = Sinks l.self l.z

abbrev pub decreases-loop : goal.decreases-loop
decreases-loop l = height_at l.self.w l.self.d.now l.self.f.0 l.z
