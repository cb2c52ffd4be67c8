-- Key idea: a marked window's least cut is looked for from the floor up to the smaller of its own known cut and the common one.
use Rattle.std.proofs.Common.{arith, ◌<◌, get_or}
use Rattle.plan_cuts.proofs.CutRowLaws.{next_barred, cutting_skip, cutting_mark}
use Rattle.plan_cuts.proofs.CommonCutLaws.{common_or, common_smaller}
use Rattle.plan_cuts.proofs.cut_row.Goals as goal
use Rattle.plan_cuts.proofs.cut_row.Goals.{then-known-gt0, else-known-gt0}

pub least_cut-low-requires-clause-admits_at : goal.least_cut-low-requires-clause-admits_at
least_cut-low-requires-clause-admits_at c =
    let a = c.args in
    let l = c.loop-l in
    let r = l.invariant.rest l.l (omega arith) in
    let marked : 0 < get_or a.row.now l.l 0 = omega (arith, c.if-known-gt0.true) in
    let known = common_smaller a.w a.d.now a.m.now a.f.0 a.row.now l.l (get_or a.row.now l.l 0) c.unwrap_or-common.result c.loop-l-test.true marked
    (c.requires.known_row.0 l.l c.loop-l-test.true marked)
    (rw c.unwrap_or-common.ensures (common_or a.w a.d.now a.m.now a.f.0 a.row.now c.common_cut.result (omega arith) c.common_cut.ensures)) in
    (rw (c.min-most.ensures, r) known.admitted, rw c.max-low.ensures (next_barred l.invariant c.loop-l-test.true))

pub loop-l-preserved : goal.loop-l-preserved
loop-l-preserved c =
    elim c.if-known-gt0.branch [
      | then-known-gt0 w ↦ rw (w.row-is, w.low-is) (cutting_mark c.loop-l.invariant c.loop-l-test.true w.least_cut-low.result.0 w.if-known-gt0.true w.least_cut-low.ensures)
      | else-known-gt0 w ↦ rw (w.row-is, w.low-is, c.max-low.ensures) (cutting_skip c.loop-l.invariant c.loop-l-test.true (omega (arith, w.if-known-gt0.false)))
    ]
