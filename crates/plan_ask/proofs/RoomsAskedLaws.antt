-- What a call's questions come to where the lists have passed theirs: the rooms decide.
-- Key idea: the lists' verdict goes on to that of the rooms.
use Rattle.std.specs.Prelude.{◌≡◌, Bool, cond, List, ℕ, ◌≤◌, length}
use Rattle.std.proofs.Common.{sym, ap, ◌∙◌, subst}
use Rattle.questions.specs.Questions.{no, all_yes, first_no}
use Rattle.sheet.specs.Sizes.{max_slots, boundaries_of}
use Rattle.sheet.specs.Lists.{Lists, WrittenLists, given_by}
use Rattle.plan_rooms.specs.Rooms.{lengths_fit, rooms_fit}
use Rattle.plan_rooms.specs.declared.Lengths.{Lengths}
use Rattle.plan_ask.specs.Questions.{list_questions, refusal_by}
use Rattle.plan_ask.specs.Asking.{Listed}
use Rattle.plan_ask.proofs.AskingLaws.{lists_read, span_bound, asks_rooms}
use Rattle.plan_ask.proofs.OrderLaws.{same}
use Rattle.plan_ask.proofs.SolvableLaws.{lists_yes, refusal_then}

-- the lists as the code reads them: `loader` and `l`, of the whole that was lent
module _ (loader : List ℕ) (k l : Lists) (whole : WrittenLists) (e : record { loader = loader; constraints = k } ≡ whole) (f : l ≡ k)
    (yes : all_yes ≡ first_no (list_questions whole)) where
  abbrev w : WrittenLists
  w = record { loader = loader; constraints = l }

  is : w ≡ whole
  is = same loader k l whole e f

  listed : Listed w
  listed = lists_yes w (sym (yes ∙ ap (λ (x : WrittenLists). first_no (list_questions x)) (sym is)))

  pub span_in : l.span ≤ max_slots
  span_in = span_bound l listed.sheet

  pub rooms_decide : (r : Lengths) (b : ℕ) → b ≡ boundaries_of l.span → (fit : Bool) → fit ≡ lengths_fit b (length l.first) r
      → cond fit all_yes (no 12 0) ≡ refusal_by whole (rooms_fit (given_by whole) r)
  rooms_decide r b n fit h =
      let asked = asks_rooms l (lists_read l listed.lists) r in
      let fits = h ∙ ap (λ (x : ℕ). lengths_fit x (length l.first) r) n ∙ sym asked in
      subst (λ (x : WrittenLists). cond fit all_yes (no 12 0) ≡ refusal_by x (rooms_fit (given_by x) r)) is
      (ap (λ (x : Bool). cond x all_yes (no 12 0)) fits
      ∙ sym (refusal_then w (rooms_fit (given_by w) r) all_yes (sym (yes ∙ ap (λ (x : WrittenLists). first_no (list_questions x)) (sym is)))))
