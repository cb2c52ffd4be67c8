-- The lists' refusal is the call's; where they have none, the rooms decide.
use Rattle.std.proofs.Common.{sym, ap, ◌∙◌, arith}
use Rattle.questions.specs.declared.Refusal.{Refusal}
use Rattle.questions.specs.Questions.{no, verdict_of}
use Rattle.questions.proofs.VerdictLaws.{passed_on}
use Rattle.plan_ask.proofs.SolvableLaws.{refusal_then}
use Rattle.plan_ask.proofs.RoomsAskedLaws.{span_in, rooms_decide}
use Rattle.plan_ask.proofs.ask.Goals as goal

pub returns-in_err-ask_lists : goal.returns-in_err-ask_lists
returns-in_err-ask_lists c = ap verdict_of (passed_on _ _ c.from_residual.ensures.1) ∙ sym (refusal_then _ _ _ (sym c.in_err-ask_lists.ensures))

pub boundaries-requires : goal.boundaries-requires
boundaries-requires c = span_in _ _ _ _ c.lists.view_is c.l.view_is c.in_ok-ask_lists.ensures

pub rooms_fit-requires : goal.rooms_fit-requires
rooms_fit-requires c = omega (arith, c.boundaries.ensures, span_in _ _ _ _ c.lists.view_is c.l.view_is c.in_ok-ask_lists.ensures)

pub returns-then-rooms_fit : goal.returns-then-rooms_fit
returns-then-rooms_fit c =
    rooms_decide _ _ _ _ c.lists.view_is c.l.view_is c.in_ok-ask_lists.ensures _ _ c.boundaries.ensures _ c.if-rooms_fit.ensures

pub returns-else-rooms_fit : goal.returns-else-rooms_fit
returns-else-rooms_fit c =
    ap (λ (f : Refusal). no f.number f.line) c.refused.ensures
    ∙ rooms_decide _ _ _ _ c.lists.view_is c.l.view_is c.in_ok-ask_lists.ensures _ _ c.boundaries.ensures _ c.if-rooms_fit.ensures
