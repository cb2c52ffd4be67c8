-- The combined rules stand at the fronts of the arrays, and the questions are asked of these.
use Rattle.std.proofs.Common.{ℕ, ◌-◌, ◌≤◌, ◌≡◌, List, length, take, drop, ap, sym, ◌∙◌, arith}
use lib.Seq.{length-take-le}
use Rattle.std.proofs.lemmas.Result.{err_from_is_err_and}
use Rattle.questions.specs.Questions.{Verdict, verdict_of, first_no}
use Rattle.sheet.specs.Sheet.{Rule}
use Rattle.sheet.specs.Questions.{rules_of}
use Rattle.sheet.proofs.QuestionLaws.{rules_of_length}
use Rattle.merge_sheets.specs.Merge.{merged_rules}
use Rattle.lists.specs.FrontLaws.{front_holds}
use Rattle.merge_questions.specs.Merging.{stretch_questions, rule_questions}
use Rattle.merge_stretches.specs.Stretches.{last_at}
use Rattle.merge_stretches.proofs.PlaceLaws.{past_first, asked_is, part_long, last_past, fronts_are}
use Rattle.merge_stretches.proofs.ask_rules.Goals.{After-combine-all}
use Rattle.merge_stretches.proofs.ask_rules.Goals as goal

abbrev rules_at : After-combine-all → List Rule
rules_at k = let a = k.args in rules_of a.from.now a.to.now a.low.now a.high.now

few : (k : After-combine-all) → k.args.n ≤ length (rules_at k)
few k =
    let a = k.args in
    omega (arith, rules_of_length a.from.now a.to.now a.low.now a.high.now k.requires.agree.0 k.requires.agree.1 k.requires.agree.2, k.requires.first.0)

-- the combined rules, and that each array holds a column of them
abbrev merged : After-combine-all → List Rule
merged k = merged_rules (rules_at k)

froms_hold : (k : After-combine-all) → k.combine-all.result.count ≤ length k.combine-all.new.froms
froms_hold k = front_holds (λ r. r.from) (merged k) _ _ _ k.combine-all.ensures.count k.combine-all.ensures.froms

tos_hold : (k : After-combine-all) → k.combine-all.result.count ≤ length k.combine-all.new.tos
tos_hold k = front_holds (λ r. r.to) (merged k) _ _ _ k.combine-all.ensures.count k.combine-all.ensures.tos

lows_hold : (k : After-combine-all) → k.combine-all.result.count ≤ length k.combine-all.new.lows
lows_hold k = front_holds (λ r. r.low) (merged k) _ _ _ k.combine-all.ensures.count k.combine-all.ensures.lows

highs_hold : (k : After-combine-all) → k.combine-all.result.count ≤ length k.combine-all.new.highs
highs_hold k = front_holds (λ r. r.high) (merged k) _ _ _ k.combine-all.ensures.count k.combine-all.ensures.highs

-- so many places of an array that holds them
so_many : (n : ℕ) (xs : List ℕ) → n ≤ length xs → n ≡ length (take n xs)
so_many n xs h = sym (length-take-le n xs h)

same_many : (n : ℕ) (xs ys : List ℕ) → n ≤ length xs → n ≤ length ys → length (take n xs) ≡ length (take n ys)
same_many n xs ys h g = length-take-le n xs h ∙ so_many n ys g

pub slice_bounds-ask_combined-count-2 : goal.slice_bounds-ask_combined-count-2
slice_bounds-ask_combined-count-2 c = omega (arith, c.requires.agree.0, c.requires.first.0)

pub overflow_sub-all : goal.overflow_sub-all
overflow_sub-all c =
    let k = (goal.at.overflow_sub-all c).After-combine-all in
    omega (arith, c.combine-all.ensures.past, past_first (rules_at k) c.args.n (few k) c.requires.first.1)

pub slice_bounds-ask_combined-end-3 : goal.slice_bounds-ask_combined-end-3
slice_bounds-ask_combined-end-3 c = froms_hold (goal.at.slice_bounds-ask_combined-end-3 c).After-combine-all

pub slice_bounds-ask_combined-end-4 : goal.slice_bounds-ask_combined-end-4
slice_bounds-ask_combined-end-4 c = so_many _ _ (froms_hold (goal.at.slice_bounds-ask_combined-end-4 c).After-combine-all)

pub slice_bounds-ask_combined-end-5 : goal.slice_bounds-ask_combined-end-5
slice_bounds-ask_combined-end-5 c = tos_hold (goal.at.slice_bounds-ask_combined-end-5 c).After-combine-all

pub slice_bounds-ask_combined-end-6 : goal.slice_bounds-ask_combined-end-6
slice_bounds-ask_combined-end-6 c = so_many _ _ (tos_hold (goal.at.slice_bounds-ask_combined-end-6 c).After-combine-all)

pub slice_bounds-ask_combined-end-7 : goal.slice_bounds-ask_combined-end-7
slice_bounds-ask_combined-end-7 c = lows_hold (goal.at.slice_bounds-ask_combined-end-7 c).After-combine-all

pub slice_bounds-ask_combined-end-8 : goal.slice_bounds-ask_combined-end-8
slice_bounds-ask_combined-end-8 c = so_many _ _ (lows_hold (goal.at.slice_bounds-ask_combined-end-8 c).After-combine-all)

pub slice_bounds-ask_combined-end-9 : goal.slice_bounds-ask_combined-end-9
slice_bounds-ask_combined-end-9 c = highs_hold (goal.at.slice_bounds-ask_combined-end-9 c).After-combine-all

pub slice_bounds-ask_combined-end-10 : goal.slice_bounds-ask_combined-end-10
slice_bounds-ask_combined-end-10 c = so_many _ _ (highs_hold (goal.at.slice_bounds-ask_combined-end-10 c).After-combine-all)

pub ask_combined-requires : goal.ask_combined-requires
ask_combined-requires c =
    let k = (goal.at.ask_combined-requires c).After-combine-all in
    let a = c.args in
    let n = c.combine-all.result.count in (
      part_long a.to.now a.n ∙ ap (λ (m : ℕ). m - a.n) c.requires.agree.0 ∙ sym (part_long a.from.now a.n),
      same_many n _ _ (tos_hold k) (froms_hold k),
      same_many n _ _ (lows_hold k) (froms_hold k),
      same_many n _ _ (highs_hold k) (froms_hold k),
    )

-- where the last of the rules past the first's is that are on a stretch
abbrev last : After-combine-all → Rule → ℕ
last k =
    let a = k.args in
    last_at (take (length a.from.now - a.n) (drop a.n a.from.now)) (take (length a.to.now - a.n) (drop a.n a.to.now))

-- what was asked of the combined rules was asked of the two sheets' rules
asked_both : (k : After-combine-all) (v : Verdict) → let n = k.combine-all.result.count in let new = k.combine-all.new in
    v ≡ first_no (stretch_questions k.args.two.now (last k) (rules_of (take n new.froms) (take n new.tos) (take n new.lows) (take n new.highs)) (k.combine-all.result.past - k.args.n))
    → v ≡ first_no (rule_questions k.args.two.now (take k.args.n (rules_at k)) (drop k.args.n (rules_at k)))
asked_both k v h =
    let a = k.args in
    let e = k.combine-all.ensures in
    h
    ∙ asked_is a.two.now (last k) (rules_at k) _ a.n k.combine-all.result.past
    (last_past a.from.now a.to.now a.low.now a.high.now k.requires.agree.0 k.requires.agree.1 k.requires.agree.2 a.n)
    (fronts_are (merged k) k.combine-all.result.count e.count _ _ _ _ _ _ _ _ e.froms e.tos e.lows e.highs)
    e.past (few k)

pub returns-in_err-ask_combined-clause-verdict : goal.returns-in_err-ask_combined-clause-verdict
returns-in_err-ask_combined-clause-verdict c =
    let p = err_from_is_err_and c.from_residual.result c.from_residual.ensures.1 in
    rw (p.1, p.2) (asked_both (goal.at.returns-in_err-ask_combined-clause-verdict c).After-combine-all _ c.in_err-ask_combined.ensures)

pub returns-clause-verdict : goal.returns-clause-verdict
returns-clause-verdict c = asked_both (goal.at.returns-clause-verdict c).After-combine-all _ c.in_ok-ask_combined.ensures
