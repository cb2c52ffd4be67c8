-- Key idea: the windows of the units so far are marked, and no others.
use Rattle.plan_marks.specs.Marks.{seen_at, Marked}
use Rattle.plan_marks.proofs.mark.Given as goal

abbrev pub invariant-loop-j : goal.invariant-loop-j
invariant-loop-j l = Marked l.j l.w (seen_at l.side l.w l.opens) (seen_at l.side l.w l.closes) (seen_at l.side l.w l.plan) l.marks
