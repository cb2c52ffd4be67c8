-- The calls are lent the two sheets' own numbers.
use Rattle.std.proofs.Common.{ℕ, ◌≡◌, List, refl, sym, ap, ◌∙◌, rules}
use mathlib.Core.Path.{subst}
use Rattle.std.proofs.lemmas.Result.{err_from_is_err_and, IfOk-at_ok}
use Rattle.questions.specs.Questions.{Verdict, all_yes, first_no, verdict_of}
use Rattle.sheet.specs.Sheet.{Rule, WrittenSheet, loaders}
use Rattle.merge_sheets.specs.Merge.{merged_rules}
use Rattle.merge_rules.specs.Columns.{Columns, columns, AtFront}
use Rattle.merge_questions.specs.Merging.{unit_questions}
use Rattle.merge_questions.specs.RefusalLaws.{mapped_err, mapped_ok}
use Rattle.merge_both.specs.Both.{BothRead, AsksBoth, blamed_by}
use Rattle.merge_both.proofs.BothLaws.{units_asked, all_rules, rules_asked, refused_units, refused_rules, merged_as}
use Rattle.merge_both.proofs.ask_both.Goals.{In_ok-map_err}
use Rattle.merge_both.proofs.ask_both.Goals as goal

pub returns-in_err-map_err : goal.returns-in_err-map_err
returns-in_err-map_err c wa wb h =
    let p = err_from_is_err_and c.from_residual.result c.from_residual.ensures.1 in
    let m = mapped_err (λ f b. b ≡ blamed_by f) c.ask_units.result c.in_err-map_err.field-0.0 (search rules) in
    rw (p.1, p.2, m.2) (refused_units wa wb _ _ _ _ _ h _ _ _ m.0 (sym (units_asked wa wb _ _ _ _ _ h _) ∙ sym c.ask_units.ensures ∙ ap verdict_of m.1))

-- the questions about units were all yes
passed : (c : In_ok-map_err) (wa wb : WrittenSheet) → let a = c.args in
    BothRead wa wb a.a a.b a.numbers.now (columns a.from.now a.to.now a.low.now a.high.now) (columns a.froms.now a.tos.now a.lows.now a.highs.now)
    → first_no (unit_questions c.args.two.now wa.span wb.span (loaders wa) (loaders wb)) ≡ all_yes
passed c wa wb h =
    sym (units_asked wa wb _ _ _ _ _ h _) ∙ sym c.ask_units.ensures
    ∙ ap verdict_of (mapped_ok (λ f b. b ≡ blamed_by f) c.ask_units.result c.in_ok-map_err.field-0 (search rules))

pub returns-in_err-count : goal.returns-in_err-count
returns-in_err-count c wa wb h =
    let p = err_from_is_err_and c.from_residual-in_err-count.result c.from_residual-in_err-count.ensures.1 in
    let m = mapped_err (λ f b. b ≡ blamed_by f) c.ask_rules.result c.in_err-count.field-0.0 (search rules) in
    rw (p.1, p.2, m.2) (refused_rules wa wb _ _ _ _ _ h _ _ _ (passed (goal.at.returns-in_err-count c).In_ok-map_err wa wb h) m.0
    (sym (rules_asked wa wb _ _ _ _ _ h _ _ (all_rules wa wb _ _ _ _ _ h)) ∙ sym c.ask_rules.ensures.verdict ∙ ap verdict_of m.1))

-- the combined rules of the same rules
front_of : (before now : Columns) (rs all : List Rule) (k : ℕ) → rs ≡ all → AtFront (merged_rules rs) k before now → AtFront (merged_rules all) k before now
front_of before now rs all k e f = subst (λ xs. AtFront (merged_rules xs) k before now) e f

pub returns : goal.returns
returns c wa wb h =
    let a = c.args in
    let rs = all_rules wa wb _ _ _ _ _ h in
    let e = c.ask_rules.ensures in
    let is = mapped_ok (λ f b. b ≡ blamed_by f) c.ask_rules.result c.in_ok-count.count (search rules) in
    merged_as wa wb _ _ _ _ _ h _ _ _ (passed (goal.at.returns c).In_ok-map_err wa wb h) _ refl refl
    (sym (rules_asked wa wb _ _ _ _ _ h _ _ rs) ∙ sym e.verdict ∙ ap verdict_of is)
    (front_of _ _ _ _ c.in_ok-count.count rs (record {
      count = IfOk-at_ok _ is e.count;
      froms = e.froms;
      tos = e.tos;
      lows = e.lows;
      highs = e.highs;
    }))
