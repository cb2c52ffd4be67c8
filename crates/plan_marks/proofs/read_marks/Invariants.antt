-- Key idea: the cuts of the units so far stand in front.
use Rattle.std.proofs.Common.{length}
use Rattle.lists.specs.Fill.{FillInv}
use Rattle.plan_marks.specs.Marks.{slot, seen, seen_at}
use Rattle.plan_marks.proofs.read_marks.Given as goal

abbrev pub invariant-loop-j : goal.invariant-loop-j
invariant-loop-j l = FillInv (λ j. seen l.side l.w (slot l.w l.marks (seen_at l.side l.w l.opens j) (seen_at l.side l.w l.closes j))) (length l.opens)
    l.initial.out l.j l.out
