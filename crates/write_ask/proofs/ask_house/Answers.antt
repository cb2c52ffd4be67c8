-- The first of the partner's two questions that is answered no decides; our own house asks none. That the second's answer is handed on as it is is asked of
-- `grind`: another line falls there.
use Rattle.std.proofs.Common.{rules, arith, ◌≡◌, ◌∙◌, refl, sym, List, [], ◌∷◌, ℕ, leb, eqb, Err}
use Rattle.questions.specs.Questions.{Verdict, first_no, and_then}
use Rattle.questions.proofs.FirstNoLaws.{first_then}
use Rattle.forms.specs.declared.House.TheVariants.{Partner}
use Rattle.write_ask.specs.HouseQuestions.{ask_each, end_questions}
use Rattle.write_ask.proofs.HouseQuestionsLaws.{lows_asked}
use Rattle.write_ask.proofs.ask_house.Goals as goal

-- the partner's questions, by what the first comes to
by_first : (span : ℕ) (lasts lows : List ℕ) (v : Verdict) → v ≡ first_no (ask_each 17 (λ t. leb t span) lasts ∷ [])
    → first_no (end_questions Partner span lasts lows) ≡ and_then v (first_no (ask_each 18 (λ k. eqb k 0) lows ∷ []))
by_first span lasts lows v is = first_then (ask_each 17 (λ t. leb t span) lasts ∷ []) (ask_each 18 (λ k. eqb k 0) lows ∷ []) v (sym is)

pub returns-in_err-ask_each-in-Partner : goal.returns-in_err-ask_each-in-Partner
returns-in_err-ask_each-in-Partner c =
    let a = c.args in
    let r : c.from_residual.result ≡ Err c.in_err-ask_each-in-Partner.field-0.0 = search rules in
    rw (c.in-Partner.is, by_first a.span a.last.now a.low.now _ c.ask_each.ensures, c.in_err-ask_each-in-Partner.was, r) refl

pub returns-in-Ours : goal.returns-in-Ours
unfolding first_no
returns-in-Ours c = rw c.in-Ours.is

pub returns-in_ok-ask_each-in-Partner : goal.returns-in_ok-ask_each-in-Partner
returns-in_ok-ask_each-in-Partner c =
    let a = c.args in
    rw (
      c.in-Partner.is,
      by_first a.span a.last.now a.low.now _ c.ask_each.ensures,
      c.in_ok-ask_each-in-Partner.was,
      ← lows_asked 18 a.low.now,
    ) (grind arith ∙ c.ask_each-in-Partner.ensures)
