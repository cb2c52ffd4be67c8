-- The questions decide, or what is printed of the solved sheet does.
use Rattle.std.proofs.Common.{rules, ◌≡◌, ap, Err}
use Rattle.questions.specs.Questions.{Verdict, all_yes, verdict_of}
use Rattle.plan_rooms.specs.Rooms.{lent, plan_lent}
use Rattle.plan_ask.specs.Questions.{refusal}
use Rattle.plan_ask.proofs.SolvableLaws.{asked_yes, asked_lists, asked_of}
use Rattle.print_answer.proofs.PrintingLaws.{refused_printed, solved_printed}
use Rattle.print.proofs.print.Goals.{In_err-ask, In_ok-ask}
use Rattle.print.proofs.print.Goals as goal

-- every question is answered yes, with the rooms' own lengths
yes : (c : In_ok-ask) → let a = c.args in refusal a.lists.now (lent a.table.now a.plan.now a.earliest.now a.latest.now a.ring.now) ≡ all_yes
yes c =
    let a = c.args in
    let b = lent a.table.now a.plan.now a.earliest.now a.latest.now a.ring.now in
    asked_of a.lists.now _ (plan_lent b) _ all_yes c.ask.ensures c.for_plan-rooms.ensures (ap verdict_of c.in_ok-ask.was)

pub returns-in_err-ask : goal.returns-in_err-ask
returns-in_err-ask c =
    let a = c.args in
    let b = lent a.table.now a.plan.now a.earliest.now a.latest.now a.ring.now in
    let f = c.in_err-ask.field-0.0 in
    let r : c.from_residual.result ≡ Err f = search rules in
    rw r
    (refused_printed a.lists.now b a.page.now a.at f.number f.line
    (asked_of a.lists.now _ (plan_lent b) _ _ c.ask.ensures c.for_plan-rooms.ensures (ap verdict_of c.in_err-ask.was)))

pub print_solved-requires-clause-fact : goal.print_solved-requires-clause-fact
print_solved-requires-clause-fact c = asked_yes c.args.lists.now _ (yes (goal.at.print_solved-requires-clause-fact c).In_ok-ask)

pub print_solved-requires-clause-t : goal.print_solved-requires-clause-t
print_solved-requires-clause-t c =
    let listed = asked_lists c.args.lists.now _ (yes (goal.at.print_solved-requires-clause-t c).In_ok-ask) in
    (listed.loaders, listed.as_many)

pub returns : goal.returns
returns c =
    let a = c.args in
    let b = lent a.table.now a.plan.now a.earliest.now a.latest.now a.ring.now in
    solved_printed a.lists.now b a.page.now a.at (yes (goal.at.returns c).In_ok-ask) _ _ _ c.print_solved.ensures
