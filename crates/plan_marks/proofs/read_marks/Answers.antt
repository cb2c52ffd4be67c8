-- Key idea: one cut more is stored (`fill_next`).
use Rattle.std.proofs.Common.{◌∙◌, ap, arith, ℕ, get_or}
use Rattle.lists.specs.Fill.{fill_next}
use Rattle.plan_marks.specs.Marks.{seen}
use Rattle.plan_marks.proofs.read_marks.Goals as goal

pub loop-j-preserved : goal.loop-j-preserved
loop-j-preserved c =
    let a = c.args in
    let read = ap (λ (i : ℕ). seen a.side a.w (get_or a.marks.now i 0)) c.place-at.ensures in
    fill_next c.loop-j.invariant (c.slot.ensures ∙ read) (omega arith) (omega arith)
