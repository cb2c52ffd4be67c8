-- What a call comes to by the verdict of its questions: a no decides, and where every answer is yes the pass does.
-- Key idea: the conclusion is made of the verdict alone and the pass, so it is that of whatever the verdict is known to be.
use Rattle.std.specs.Prelude.{◌≡◌, refl, Bool, List, ℕ, ℤ}
use Rattle.std.proofs.Common.{sym, subst}
use Rattle.std.proofs.Math.Path.{ap}
use Rattle.questions.specs.Questions.{Verdict, no, all_yes}
use Rattle.sheet.specs.Sheet.{Sheet}
use Rattle.sheet.specs.Lists.{Lists, given, WrittenLists, given_by}
use Rattle.plan_ask.specs.Questions.{refusal_by}
use Rattle.plan_steps.specs.Closing.{passed}
use Rattle.plan_answers.specs.Planning.{Conclusion, by_pass, concluding, conclusion_by, looked_by, SettledBy}
use Rattle.plan_answers.specs.Reply as says

-- whatever rooms the call asks for
module _ (l : WrittenLists) (rooms : Bool) where
  pub concludes : (v : Verdict) → refusal_by l rooms ≡ v → conclusion_by l rooms ≡ concluding v (passed (given_by l))
  unfolding conclusion_by
  concludes v e = ap (λ (x : Verdict). concluding x (passed (given_by l))) e

  pub looked_by_lem : (v : Verdict) → refusal_by l rooms ≡ v → looked_by (conclusion_by l rooms) (given_by l) ≡ looked_by (concluding v (passed (given_by l))) (given_by l)
  looked_by_lem v e = ap (λ (c : Conclusion). looked_by c (given_by l)) (concludes v e)

  -- and whatever it leaves in them
  module _ {R : Type 0} (planned : List ℤ → R → R) (None : R → says.Reply → R → Type 0) (before : R) where
    pub by_verdict : (v : Verdict) → refusal_by l rooms ≡ v → (reply : says.Reply) (after : R)
        → SettledBy planned None (conclusion_by l rooms) before reply after → SettledBy planned None (concluding v (passed (given_by l))) before reply after
    by_verdict v e reply after = subst (λ (c : Conclusion). SettledBy planned None c before reply after) (concludes v e)

    pub refused_settled : (q n : ℕ) → refusal_by l rooms ≡ no q n → SettledBy planned None (conclusion_by l rooms) before (says.refused q n) before
    refused_settled q n e =
        subst (λ (c : Conclusion). SettledBy planned None c before (says.refused q n) before) (sym (concludes (no q n) e)) (refl, refl)

    -- whatever the reply is made of
    pub refused_told : (q n : ℕ) → refusal_by l rooms ≡ no q n → (reply : says.Reply) → reply ≡ says.refused q n
        → SettledBy planned None (conclusion_by l rooms) before reply before
    refused_told q n e reply is =
        subst (λ (r : says.Reply). SettledBy planned None (conclusion_by l rooms) before r before) (sym is) (refused_settled q n e)

    -- what solving leaves, where the reply is what it told
    pub solved_settled : refusal_by l rooms ≡ all_yes → (reply told : says.Reply) → reply ≡ told → (after : R)
        → SettledBy planned None (by_pass (passed (given_by l))) before told after → SettledBy planned None (conclusion_by l rooms) before reply after
    solved_settled e reply told same after h =
        subst (λ (c : Conclusion). SettledBy planned None c before reply after) (sym (concludes all_yes e))
        (subst (λ (r : says.Reply). SettledBy planned None (by_pass (passed (given_by l))) before r after) (sym same) h)

-- what is said of the sheet as the code reads it, of the lists lent
pub of_lent : (P : Sheet → Type 0) (loader : List ℕ) (k : Lists) (l : WrittenLists) → record { loader = loader; constraints = k } ≡ l → P (given k) → P (given_by l)
of_lent P loader k l e = subst (λ (x : WrittenLists). P (given_by x)) e
