-- What a call's conclusion says of its reply and its rooms, ready to be read as the user's conditions, whatever rooms the call has.
-- Key idea: the pass over the limits either finishes, and the table it leaves is solved, or stops, and no plan is lawful.
-- There is no third way.
use Rattle.std.specs.Prelude.{◌≡◌, refl, ◌⊎◌, Bool, List, ℕ, T, length, ℤ}
use Rattle.std.proofs.Common.{ap, subst, inl, inr, ⊎_elim, arith}
use Rattle.network.specs.Table.{entry}
use Rattle.network_pass.specs.Pass.{Passed, finished, stopped}
use Rattle.questions.specs.Questions.{Verdict, no, all_yes}
use Rattle.sheet.specs.Sheet.{Sheet, boundaries, lawful}
use Rattle.sheet.proofs.QuestionLaws.{accepted_valid}
use Rattle.sheet.specs.Lists.{WrittenLists, given_by}
use Rattle.plan_rooms.specs.Rooms.{places}
use Rattle.plan_ask.specs.Questions.{refusal_by}
use Rattle.plan_ask.proofs.SolvableLaws.{asked_yes}
use Rattle.plan_steps.specs.Closing.{passed}
use Rattle.plan_steps.specs.PassedLaws.{passed_size, passed_solved, stopped_unlawful}
use Rattle.plan_answers.specs.Planning.{by_pass, conclusion_by, SettledBy}
use Rattle.plan_answers.proofs.ConclusionLaws.{by_verdict}
use Rattle.plan_answers.specs.Reply as says
use Rattle.plan_answers.specs.Reply.{refusal_of}
use Rattle.sheet.specs.Solved.{Solved}

-- the call found a plan: the finished table is solved, and the rooms are left by it
pub record Planned {R : Type 0} (planned : List ℤ → R → R) (s : Sheet) (before : R) (reply : says.Reply) (after : R) : Type 0 where
  pub table : List ℤ
  pub finished : passed s ≡ finished table
  pub size : length table ≡ places s
  pub solved : Solved s (entry (boundaries s) table)
  pub is : reply ≡ says.plan
  pub left : after ≡ planned table before

-- it found none
pub record Unplanned {R : Type 0} (None : R → says.Reply → R → Type 0) (s : Sheet) (before : R) (reply : says.Reply) (after : R) : Type 0 where
  pub unlawful : (x : List ℕ) → T (lawful s x) → ⊥
  pub left : None before reply after

module _ {R : Type 0} (planned : List ℤ → R → R) (None : R → says.Reply → R → Type 0) (l : WrittenLists) (rooms : Bool)
    (before : R) (reply : says.Reply) (after : R) (call : SettledBy planned None (conclusion_by l rooms) before reply after) where
  abbrev s : Sheet
  s = given_by l

  -- ---- refused
  pub call_refused : (q n : ℕ) → refusal_by l rooms ≡ no q n → (reply ≡ says.refused q n) × (after ≡ before)
  call_refused q n e = by_verdict l rooms planned None before (no q n) e reply after call

  -- ---- not refused
  module _ (asked : refusal_by l rooms ≡ all_yes) where
    left_by : (p : Passed) → passed s ≡ p → SettledBy planned None (by_pass p) before reply after
    left_by p e =
        subst (λ (x : Passed). SettledBy planned None (by_pass x) before reply after) e (by_verdict l rooms planned None before all_yes asked reply after call)

    by_pass_lem : (p : Passed) → passed s ≡ p → Planned planned s before reply after ⊎ Unplanned None s before reply after
    by_pass_lem (finished t) e =
        let q = left_by (finished t) e in
        let ok = accepted_valid s (asked_yes l rooms asked).sheet in
        inl (record { table = t; finished = e; size = passed_size s t e; solved = passed_solved s ok t e; is = q.0; left = q.1 })
    by_pass_lem stopped e = inr (record { unlawful = stopped_unlawful s e; left = left_by stopped e })

    pub call_answered : Planned planned s before reply after ⊎ Unplanned None s before reply after
    call_answered = by_pass_lem (passed s) refl

  -- ---- the reply is a plan, or none
  not_refused : refusal_of reply ≡ all_yes → refusal_by l rooms ≡ all_yes
  not_refused f = go (refusal_by l rooms) refl
    where
      go : (v : Verdict) → refusal_by l rooms ≡ v → refusal_by l rooms ≡ all_yes
      go (no q n) e = let r = ap refusal_of (call_refused q n e).0 in let z : ◌≡◌ {A = ℕ} 0 1 = cc in absurd (omega arith)
      go all_yes e = e

  -- none has a reply of its own
  module _ (said : None before reply after → (k : ℕ) × (reply ≡ says.none k)) where
    pub call_planned : reply ≡ says.plan → Planned planned s before reply after
    call_planned f =
        ⊎_elim (λ (p : Planned planned s before reply after). p)
        (λ (r : Unplanned None s before reply after). let e = (said r.left).1 in let z : ◌≡◌ {A = ℕ} 0 1 = cc in absurd (omega arith))
        (call_answered (not_refused (ap refusal_of f)))

    pub call_unplanned : (k : ℕ) → reply ≡ says.none k → Unplanned None s before reply after
    call_unplanned k f =
        ⊎_elim (λ (p : Planned planned s before reply after). let e = p.is in let z : ◌≡◌ {A = ℕ} 0 1 = cc in absurd (omega arith))
        (λ (r : Unplanned None s before reply after). r)
        (call_answered (not_refused (ap refusal_of f)))
