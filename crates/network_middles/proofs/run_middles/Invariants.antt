-- Before a middle boundary the pass has come as far as its table says; before a row the rows above it are rewritten; before a stretch what stands left of it.
use Rattle.std.proofs.Common.{◌*◌, min}
use Rattle.network.specs.RowStep.{stretch}
use Rattle.network_middles.proofs.PassSteps.{ColsInv, RowsInv, PassInv}
use Rattle.network_middles.proofs.run_middles.Given as goal

abbrev pub invariant-loop-k : goal.invariant-loop-k
invariant-loop-k l = ColsInv l.am l.mid l.initial.row l.w l.a l.row (min (l.k * stretch) l.w)

abbrev pub invariant-loop-a : goal.invariant-loop-a
invariant-loop-a l = RowsInv l.w l.m l.initial.t l.t l.a

abbrev pub invariant-loop-m : goal.invariant-loop-m
invariant-loop-m l = PassInv l.fn.t l.w l.from l.to l.t l.mid l.m
