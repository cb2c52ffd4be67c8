-- Each test of the code is a question's, in their order.
use Rattle.std.proofs.Common.{ℕ, length, get_or, ap, sym, ◌∙◌, arith}
use Rattle.questions.specs.Questions.{no}
use Rattle.read_form.specs.declared.Kind.TheVariants as Kind
use Rattle.sheet.specs.Sheet.{Rule}
use Rattle.lists.specs.Last.{last_passing}
use Rattle.merge_rules.specs.Columns.{stretch_at}
use Rattle.merge_questions.specs.Merging.{line_number}
use Rattle.merge_questions.specs.RefusalLaws.{no_at}
use Rattle.merge_stretches.specs.Stretches.{last_at}
use Rattle.merge_stretches.proofs.StretchLaws.{no_21, no_10, all_yes_lem}
use Rattle.merge_stretches.proofs.ask_combined.Goals as goal

pub first_crossed-p-requires : goal.first_crossed-p-requires
first_crossed-p-requires c = c.requires.3 ∙ sym c.requires.2

pub bounds-tos-p : goal.bounds-tos-p
bounds-tos-p c = omega (arith, c.requires.1, c.if-p-froms.true)

pub last_on-last-requires : goal.last_on-last-requires
last_on-last-requires c = c.requires.0

pub returns-then-p-froms : goal.returns-then-p-froms
returns-then-p-froms c =
    let a = c.args in
    let z = c.requires in
    let e = c.first_crossed-p.ensures in
    no_at _ _ _ _ c.at.ensures c.line_number.ensures
    ∙ ap (λ (j : ℕ). no 21 (line_number a.two.now Kind.Rule j)) (c.last_on-last.ensures
    ∙ ap (λ (p : ℕ). last_passing (length a.from.now) (stretch_at a.from.now a.to.now (get_or a.froms.now p 0) (get_or a.tos.now p 0))) e)
    ∙ sym (no_21 a.two.now a.froms.now a.tos.now a.lows.now a.highs.now z.1 z.2 z.3 (last_at a.from.now a.to.now) a.past
    (omega (arith, e, c.if-p-froms.true)))

pub returns-then-froms-gt-MAX_RULES : goal.returns-then-froms-gt-MAX_RULES
returns-then-froms-gt-MAX_RULES c =
    let a = c.args in
    let z = c.requires in
    no_at _ _ _ _ c.at-then-froms-gt-MAX_RULES.ensures c.line_number-then-froms-gt-MAX_RULES.ensures
    ∙ sym (no_10 a.two.now a.froms.now a.tos.now a.lows.now a.highs.now z.1 z.2 z.3 (last_at a.from.now a.to.now) a.past
    (omega (arith, c.first_crossed-p.ensures, c.if-p-froms.false)) c.if-froms-gt-MAX_RULES.true)

pub returns : goal.returns
returns c =
    let a = c.args in
    let z = c.requires in
    sym (all_yes_lem a.two.now a.froms.now a.tos.now a.lows.now a.highs.now z.1 z.2 z.3 (last_at a.from.now a.to.now) a.past
    (omega (arith, c.first_crossed-p.ensures, c.if-p-froms.false)) c.if-froms-gt-MAX_RULES.false)
