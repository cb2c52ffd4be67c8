-- Key idea: the last marked window admits the cut, because a lower one is known or because it was tried, and the others have fewer arcs.
use Rattle.std.proofs.Common.{sym, ◌∙◌, arith, subst, Bool}
use Rattle.network_cuts.specs.Decider.{AdmitsAt, Decides}
use Rattle.plan_cuts.specs.Cuts.{LastMark}
use Rattle.plan_cuts.proofs.CommonCutLaws.{common_last, common_known}
use Rattle.plan_cuts.proofs.common_cut.Goals as goal
use Rattle.plan_cuts.proofs.common_cut.Goals.{then-known-v, else-known-v}

pub returns-then-admits : goal.returns-then-admits
returns-then-admits c =
    let a = c.args in
    let l = c.in_ok-l.l in
    let last : LastMark a.row.now l = c.in_ok-l.ensures in
    elim c.if-known-v.branch [
      | then-known-v w ↦ common_known a.w a.d.now a.m.now a.f.0 a.row.now l c.max-v.result (omega (arith, last.inside)) last c.requires.5 (omega arith) (omega arith)
      | else-known-v w ↦
          let decided : Bool → Type 0 = λ t. Decides t (AdmitsAt a.w a.d.now a.m.now a.f.0 c.max-v.result l) in
          common_last a.w a.d.now a.m.now a.f.0 a.row.now l c.max-v.result last (omega arith)
          (subst decided (sym w.value-is ∙ c.if-admits.true) w.admits.ensures)
    ]
