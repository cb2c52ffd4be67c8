-- The lists' refusal is the call's; where they have none, the house decides.
use Rattle.std.proofs.Common.{rules, ◌≡◌, ap, ◌∙◌, Err}
use Rattle.questions.specs.Questions.{verdict_of}
use Rattle.write.proofs.WritingLaws.{asked_lists, asked_house}
use Rattle.write.proofs.ask.Goals as goal

pub returns-in_err-ask_lists : goal.returns-in_err-ask_lists
returns-in_err-ask_lists c =
    let a = c.args in
    let r : c.from_residual.result ≡ Err c.in_err-ask_lists.field-0.0 = search rules in
    ap verdict_of r ∙ asked_lists a.house a.lists.now _ c.ask_lists.ensures _ _ (ap verdict_of c.in_err-ask_lists.was)

pub returns : goal.returns
returns c =
    let a = c.args in
    asked_house a.house a.lists.now _ c.ask_lists.ensures (ap verdict_of c.in_ok-ask_lists.was) _ (search rules)
