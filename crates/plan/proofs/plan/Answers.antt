-- The questions decide, or what solving a sheet that passed them leaves.
-- Key idea: that the reply says what the verdict or the solving said is a fact that `grind` proves, whatever the code hands on: a wrong reply falls there.
use Rattle.std.proofs.Common.{ap, arith}
use Rattle.questions.specs.Questions.{no, all_yes}
use Rattle.questions.proofs.VerdictLaws.{passed_on}
use Rattle.sheet.specs.Lists.{given_by}
use Rattle.plan_rooms.specs.Rooms.{lent, plan_lent}
use Rattle.plan_ask.proofs.SolvableLaws.{yes_read, asked_of}
use Rattle.plan_steps.specs.Closing.{passed}
use Rattle.plan_answers.specs.Planning.{by_pass, planned, WithRing, ringed, Settled}
use Rattle.plan_answers.specs.Reply.{reply_of, fit_reply}
use Rattle.plan_answers.proofs.ConclusionLaws.{refused_told, solved_settled, of_lent}
use Rattle.plan.proofs.plan.Goals as goal

pub returns-in_err-ask : goal.returns-in_err-ask
returns-in_err-ask c =
    let l = c.args.lists.now in
    let s = given_by l in
    let before = lent c.args.table.now c.args.plan.now c.args.earliest.now c.args.latest.now c.args.ring.now in
    let f = c.in_err-ask.field-0.0 in
    let refused = asked_of l _ (plan_lent before) _ (no f.number f.line) c.ask.ensures c.for_plan-rooms.ensures (grind arith) in
    refused_told l _ (planned s) (WithRing s (ringed s)) before _ _ refused _ (ap reply_of (passed_on _ _ c.from_residual.ensures.1))

pub solve-requires : goal.solve-requires
solve-requires c =
    let asked = plan_lent (lent c.args.table.now c.args.plan.now c.args.earliest.now c.args.latest.now c.args.ring.now) in
    yes_read _ _ _ c.lists.view_is asked (asked_of c.args.lists.now _ asked _ all_yes c.ask.ensures c.for_plan-rooms.ensures (grind arith))

pub returns : goal.returns
returns c =
    let l = c.args.lists.now in
    let s = given_by l in
    let before = lent c.args.table.now c.args.plan.now c.args.earliest.now c.args.latest.now c.args.ring.now in
    let after = lent c.solve.new.table c.solve.new.plan c.solve.new.earliest c.solve.new.latest c.solve.new.ring in
    let told = fit_reply c.solve.result in
    let yes = asked_of l _ (plan_lent before) _ all_yes c.ask.ensures c.for_plan-rooms.ensures (grind arith) in
    solved_settled l _ (planned s) (WithRing s (ringed s)) before yes _ told (grind arith) after
    (of_lent (λ x. Settled (by_pass (passed x)) x before told after) _ _ _ c.lists.view_is c.solve.ensures)
