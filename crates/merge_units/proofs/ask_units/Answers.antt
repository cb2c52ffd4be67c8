-- Each test of the code is a question's, in their order.
use Rattle.std.proofs.Common.{ℕ, ◌≡◌, sym, ◌∙◌}
use Rattle.merge_questions.specs.RefusalLaws.{no_at}
use Rattle.merge_units.proofs.UnitLaws.{no_19, no_20, no_9, all_yes_lem}
use Rattle.merge_units.proofs.ask_units.Goals as goal

pub returns-then-p-q : goal.returns-then-p-q
returns-then-p-q c =
    let a = c.args in
    no_at _ _ _ _ c.at.ensures c.line_number.ensures ∙ sym (no_19 a.two.now a.p a.q a.ones.now a.twos.now c.if-p-q.true)

pub returns-in-Some : goal.returns-in-Some
returns-in-Some c =
    let a = c.args in
    no_at _ _ _ _ c.at-in-Some.ensures c.line_number-in-Some.ensures
    ∙ sym (no_20 a.two.now a.p a.q a.ones.now a.twos.now c.if-p-q.false c.in-Some.j c.in-Some.ensures)

pub returns-then-left-twos : goal.returns-then-left-twos
returns-then-left-twos c =
    let a = c.args in
    no_at _ _ _ _ c.at-then-left-twos.ensures c.line_number-then-left-twos.ensures
    ∙ sym (no_9 a.two.now a.p a.q a.ones.now a.twos.now c.if-p-q.false (λ j e. c.in_default.not-Some j (c.first_shared.ensures ∙ e)) c.if-left-twos.true)

pub returns : goal.returns
returns c =
    let a = c.args in
    sym (all_yes_lem a.two.now a.p a.q a.ones.now a.twos.now c.if-p-q.false (λ j e. c.in_default.not-Some j (c.first_shared.ensures ∙ e)) c.requires.0 c.if-left-twos.false)
