-- The places in front hold the smaller numbers, and the others what they had.
use Rattle.std.proofs.Common.{length}
use Rattle.lists.specs.Fill.{FillInv}
use Rattle.network.specs.RowStep.{relaxed_at}
use Rattle.network.proofs.relax_row.Given as goal

abbrev pub invariant-loop-b : goal.invariant-loop-b
invariant-loop-b l = FillInv (relaxed_at l.am l.mid l.initial.row) (length l.initial.row) l.initial.row l.b l.row
