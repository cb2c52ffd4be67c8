-- From what the code does to what printing is to leave.
-- Key idea: the answer is written into an array of the call's own first, so its length is known before the lent page is touched: question 15 is
-- answered by one comparison, and decides the rest.
use Rattle.std.specs.Prelude.{◌≡◌, refl, Bool, true, false, List, ℕ, ◌+◌, leb, length}
use Rattle.std.proofs.Common.{sym, ap, ◌∙◌, subst, leb-true}
use Rattle.questions.specs.Questions.{no, all_yes}
use Rattle.sheet.specs.Lists.{WrittenLists, given_by}
use Rattle.plan_rooms.specs.Rooms.{Rooms}
use Rattle.plan_ask.specs.Questions.{refusal}
use Rattle.plan_steps.specs.Closing.{passed}
use Rattle.plan_answers.specs.Planning.{planned, ringed, WithRing, by_pass}
use Rattle.plan_answers.proofs.ConclusionLaws.{refused_settled, solved_settled}
use Rattle.plan_answers.specs.Reply as planning
use Rattle.print_bytes.specs.Writing.{Room, Written}
use Rattle.print_answer.specs.Printing.{holds, Asked, PrintingOf, Printing}
use Rattle.print_answer.specs.Reply as says

-- ---- question 15
module _ (page : List ℕ) (at : ℕ) (bytes : List ℕ) (size : ℕ) (is : size ≡ length bytes) (b : Bool) (asked : b ≡ leb (at + size) (length page)) where
  answered : holds page at bytes ≡ b
  answered = ap (λ n. leb (at + n) (length page)) (sym is) ∙ sym asked

  pub room : b ≡ true → Room page at bytes
  room e = record { fits = leb-true (at + length bytes) (length page) (answered ∙ e) }

  module _ (told : ℕ → says.Reply) (before planned : Rooms) (reply : says.Reply) (after : Rooms) (left : List ℕ) where
    -- it is held: what was written is the answer
    pub asked_yes : b ≡ true → (next : ℕ) → Written page at bytes left next → reply ≡ told next → after ≡ planned
        → Asked (holds page at bytes) told bytes before planned page at reply after left
    asked_yes e next w r a =
        subst (λ (c : Bool). Asked c told bytes before planned page at reply after left) (sym (answered ∙ e))
        (record { replied = r ∙ ap told w.moved; lent = a; shown = w.filled })

    -- it is not: nothing is changed
    pub asked_no : b ≡ false → reply ≡ says.refused 15 0 → after ≡ before → left ≡ page
        → Asked (holds page at bytes) told bytes before planned page at reply after left
    asked_no e r a l =
        subst (λ (c : Bool). Asked c told bytes before planned page at reply after left) (sym (answered ∙ e))
        (record { replied = r; lent = a; shown = l })

-- ---- the questions
module _ (l : WrittenLists) (before : Rooms) (page : List ℕ) (at : ℕ) where
  -- one of them is answered no: nothing is changed
  pub refused_printed : (q n : ℕ) → refusal l before ≡ no q n → Printing l before page at (says.refused q n) before page
  refused_printed q n e = record {
    answer = planning.refused q n;
    planned = before;
    call = refused_settled l _ (planned (given_by l)) (WithRing (given_by l) (ringed (given_by l))) before q n e;
    shown = record { replied = refl; lent = refl; shown = refl };
  }

  -- all are answered yes: the pass decides
  pub solved_printed : refusal l before ≡ all_yes → (reply : says.Reply) (after : Rooms) (left : List ℕ)
      → PrintingOf (by_pass (passed (given_by l))) l.loader (given_by l) before page at reply after left → Printing l before page at reply after left
  solved_printed e reply after left p = record {
    answer = p.answer;
    planned = p.planned;
    call =
        solved_settled l _ (planned (given_by l)) (WithRing (given_by l) (ringed (given_by l))) before e p.answer p.answer refl p.planned p.call;
    shown = p.shown;
  }
