-- The questions decide, or what deciding a sheet that passed them leaves.
-- Key idea: that the reply says what the deciding said is a fact that `grind` proves, whatever the code hands on: a wrong reply falls there.
use Rattle.std.proofs.Common.{ap, arith}
use Rattle.questions.specs.Questions.{verdict_of}
use Rattle.questions.proofs.VerdictLaws.{passed_on}
use Rattle.sheet.specs.Lists.{given_by}
use Rattle.plan_rooms.specs.Rooms.{decide_rooms, decide_lent}
use Rattle.plan_ask.proofs.SolvableLaws.{yes_read, asked_of}
use Rattle.plan_steps.specs.Closing.{passed}
use Rattle.plan_answers.specs.Planning.{by_pass, decided, WithRing, contradicted, DecideSettled}
use Rattle.plan_answers.specs.Reply.{decision_reply, fit_reply}
use Rattle.plan_answers.proofs.ConclusionLaws.{refused_told, solved_settled, of_lent}
use Rattle.plan.proofs.decide.Goals as goal

pub returns-in_err-ask : goal.returns-in_err-ask
returns-in_err-ask c =
    let l = c.args.lists.now in
    let s = given_by l in
    let before = decide_rooms c.args.table.now c.args.ring.now in
    let no = asked_of l _ (decide_lent before) _ _ c.ask.ensures c.for_decision.ensures (ap verdict_of c.in_err-ask.was) in
    refused_told l _ (decided s) (WithRing s (contradicted s)) before _ _ no _ (ap decision_reply (passed_on _ _ c.from_residual.ensures.1))

pub decide-requires : goal.decide-requires
decide-requires c =
    let lent = decide_lent (decide_rooms c.args.table.now c.args.ring.now) in
    yes_read _ _ _ c.lists.view_is lent (asked_of c.args.lists.now _ lent _ _ c.ask.ensures c.for_decision.ensures (ap verdict_of c.in_ok-ask.was))

pub returns : goal.returns
returns c =
    let l = c.args.lists.now in
    let s = given_by l in
    let before = decide_rooms c.args.table.now c.args.ring.now in
    let after = decide_rooms c.decide.new.table c.decide.new.ring in
    let told = fit_reply c.decide.result in
    let yes = asked_of l _ (decide_lent before) _ _ c.ask.ensures c.for_decision.ensures (ap verdict_of c.in_ok-ask.was) in
    solved_settled l _ (decided s) (WithRing s (contradicted s)) before yes _ told (grind arith) after
    (of_lent (λ x. DecideSettled (by_pass (passed x)) x before told after) _ _ _ c.lists.view_is c.decide.ensures)
