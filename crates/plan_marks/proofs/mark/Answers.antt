-- Key idea: one window more is marked (`marked_more`).
use Rattle.std.proofs.Common.{arith}
use Rattle.plan_marks.specs.MarkLaws.{marked_more}
use Rattle.plan_marks.proofs.mark.Goals as goal

pub loop-j-preserved : goal.loop-j-preserved
loop-j-preserved c =
    let l = c.loop-j in
    rw (c.place-at.ensures, c.slot.ensures) (marked_more c.requires.units l.j l.marks (omega arith) (omega arith) l.invariant)
