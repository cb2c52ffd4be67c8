-- From what the code does to what writing is to answer and leave.
-- Key idea: the questions of the lists decide, or question 15 does, which one comparison answers.
use Rattle.std.specs.Prelude.{◌≡◌, Bool, true, false, ℕ, ◌+◌, leb, length}
use Rattle.std.proofs.Math.Path.{sym}
use Rattle.std.proofs.Common.{ap, ◌∙◌, leb-true}
use mathlib.Core.List.{List, []}
use Rattle.questions.specs.Questions.{Verdict, no, all_yes, first_no, and_then}
use Rattle.questions.proofs.FirstNoLaws.{first_then, no_here, yes_here, yes_every, every_yes, yes_front}
use Rattle.forms.specs.declared.House.{House}
use Rattle.sheet.specs.Lists.{WrittenLists, given_by}
use Rattle.plan_ask.specs.Questions.{list_questions}
use Rattle.plan_ask.specs.Asking.{Listed}
use Rattle.plan_ask.proofs.AskingLaws.{lists_read}
use Rattle.plan_ask.proofs.SolvableLaws.{lists_yes}
use Rattle.write_ask.specs.HouseQuestions.{end_questions, house_questions}
use Rattle.write_ask.proofs.HouseQuestionsLaws.{asks_lists}
use Rattle.print_bytes.specs.Writing.{Room, Written}
use Rattle.write.specs.Writing.{text_of, sheet_asked, holds, page_asked, refusal, Reply, refused, text, concluded, leaves, writing, page_after}

-- ---- what is asked of the lists; `told` is what the code was told of them
module _ (h : House) (l : WrittenLists) (told : Verdict) where
  module _ (is : told ≡ first_no (list_questions l)) where
    -- the lists' own refusal decides
    pub asked_lists : (q n : ℕ) → told ≡ no q n → no q n ≡ first_no (sheet_asked h l)
    asked_lists q n e = sym (first_then (list_questions l) (house_questions h (given_by l)) (no q n) (sym is ∙ e))

    -- and where they have none, what the house asks
    pub asked_house : told ≡ all_yes → (v : Verdict) → v ≡ first_no (end_questions h l.constraints.span l.constraints.last l.constraints.low)
        → v ≡ first_no (sheet_asked h l)
    asked_house e v house =
        house ∙ sym (first_then (list_questions l) (house_questions h (given_by l)) all_yes (sym is ∙ e)
        ∙ ap first_no (asks_lists h l.constraints (lists_read l.constraints (lists_yes l (sym is ∙ e)).lists)))

  module _ (is : told ≡ first_no (sheet_asked h l)) where
    -- the lists pass where all that is asked of them is answered yes
    pub sheet_listed : told ≡ all_yes → Listed l
    sheet_listed e =
        lists_yes l
        (every_yes (list_questions l) (yes_front (list_questions l) (house_questions h (given_by l)) (yes_every (sheet_asked h l) (sym is ∙ e))))

    -- the verdict of a call is that of its lists, and then that of its page
    module _ (page : List ℕ) (at : ℕ) where
      abbrev bytes : List ℕ
      bytes = text_of h l

      verdict_then : (v : Verdict) → told ≡ v → refusal h l (length page) at ≡ and_then v (first_no (page_asked (length page) at bytes))
      unfolding refusal
      verdict_then v e = first_then (sheet_asked h l) (page_asked (length page) at bytes) v (sym is ∙ e)

      pub refused_lists : (q n : ℕ) → told ≡ no q n → (refused q n ≡ writing h l (length page) at) × (page ≡ page_after h l page at)
      refused_lists q n e =
          let v = verdict_then (no q n) e in
          (sym (ap (λ (x : Verdict). concluded x at bytes) v), sym (ap (λ (x : Verdict). leaves x page at bytes) v))

      pub passed_lists : told ≡ all_yes → (reply : Reply) (left : List ℕ)
          → (let v = first_no (page_asked (length page) at bytes) in (reply ≡ concluded v at bytes) × (left ≡ leaves v page at bytes))
          → (reply ≡ writing h l (length page) at) × (left ≡ page_after h l page at)
      passed_lists e reply left r =
          let v = verdict_then all_yes e in
          (r.0 ∙ sym (ap (λ (x : Verdict). concluded x at bytes) v), r.1 ∙ sym (ap (λ (x : Verdict). leaves x page at bytes) v))

-- ---- question 15
module _ (page : List ℕ) (at : ℕ) (bytes : List ℕ) (size : ℕ) (is : size ≡ length bytes) (b : Bool) (asked : b ≡ leb (at + size) (length page)) where
  answered : holds (length page) at bytes ≡ b
  answered = ap (λ n. leb (at + n) (length page)) (sym is) ∙ sym asked

  pub room : b ≡ true → Room page at bytes
  room e = record { fits = leb-true (at + length bytes) (length page) (answered ∙ e) }

  abbrev verdict : Verdict
  verdict = first_no (page_asked (length page) at bytes)

  -- it is held: what was written is the text
  pub held : b ≡ true → (left : List ℕ) (next : ℕ) → Written page at bytes left next
      → (text next ≡ concluded verdict at bytes) × (left ≡ leaves verdict page at bytes)
  unfolding first_no
  held e left next w =
      let v : verdict ≡ all_yes = yes_here (holds (length page) at bytes) 15 0 [] (answered ∙ e) in
      (ap text w.moved ∙ sym (ap (λ (x : Verdict). concluded x at bytes) v), w.filled ∙ sym (ap (λ (x : Verdict). leaves x page at bytes) v))

  -- it is not: nothing is changed
  pub not_held : b ≡ false → (refused 15 0 ≡ concluded verdict at bytes) × (page ≡ leaves verdict page at bytes)
  not_held e =
      let v : verdict ≡ no 15 0 = no_here (holds (length page) at bytes) 15 0 [] (answered ∙ e) in
      (sym (ap (λ (x : Verdict). concluded x at bytes) v), sym (ap (λ (x : Verdict). leaves x page at bytes) v))
