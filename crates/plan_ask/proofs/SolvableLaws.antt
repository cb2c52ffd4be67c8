-- A call is not refused exactly when its lists make a sheet that is accepted, its loader numbers fit and its rooms are long enough, whatever rooms it asks for.
-- Key idea: no question is the first no exactly when every answer is yes; and the lists' verdict goes on to that of the rooms.
use Rattle.std.specs.Prelude.{◌≡◌, Bool, cond, List, [], ◌∷◌, ◌++◌, ℕ, T}
use Rattle.std.proofs.Common.{sym, ap, ◌∙◌, subst}
use Rattle.std.proofs.Math.Bool.{true}
use Rattle.lists.specs.Members.{both, left, right, every_both}
use Rattle.questions.specs.Questions.{Question, ask, Verdict, no, all_yes, first_no, and_then, AllYes}
use Rattle.questions.proofs.FirstNoLaws.{first_then, yes_every, every_yes, yes_front, yes_back, yes_at}
use Rattle.sheet.specs.Sheet.{Sheet}
use Rattle.sheet.specs.Questions.{loaders_fit, slot_questions, count_questions, accepted}
use Rattle.sheet.specs.Lists.{Lists, given, WrittenLists, given_by, all_agree}
use Rattle.plan_rooms.specs.Rooms.{rooms_fit}
use Rattle.plan_ask.specs.Questions.{list_questions, questions, refusal_by, refusal_in}
use Rattle.plan_ask.specs.Asking.{Listed, Solvable}
use Rattle.plan_ask.proofs.AskingLaws.{all_agree_read, read_all_agree}
use Rattle.plan_rooms.specs.declared.Lengths.{Lengths}

module _ (l : WrittenLists) where
  abbrev s : Sheet
  s = given_by l

  abbrev new : Question
  new = ask 16 0 (loaders_fit l.loader)

  pub lists_yes : first_no (list_questions l) ≡ all_yes → Listed l
  unfolding accepted
  lists_yes e =
      let h = yes_every (list_questions l) e in
      let agreed = all_agree_read l (left (all_agree l) _ h) in
      let asked : AllYes (slot_questions s ++ (new ∷ count_questions s)) = right (all_agree l) _ h in
      let slots = yes_front (slot_questions s) (new ∷ count_questions s) asked in
      let rest = yes_back (slot_questions s) (new ∷ count_questions s) asked in
      record {
        as_many = agreed.0;
        lists = agreed.1;
        sheet = every_both (λ q. q.yes) (slot_questions s) (count_questions s) slots (right (loaders_fit l.loader) _ rest);
        loaders = left (loaders_fit l.loader) _ rest;
      }

  yes_lists : Listed l → AllYes (list_questions l)
  unfolding accepted
  yes_lists y =
      both (all_agree l) _ (read_all_agree l y.as_many y.lists)
      (every_both (λ q. q.yes) (slot_questions s) (new ∷ count_questions s) (yes_front (slot_questions s) (count_questions s) y.sheet)
      (both (loaders_fit l.loader) _ y.loaders (yes_back (slot_questions s) (count_questions s) y.sheet)))

  module _ (rooms : Bool) where
    abbrev last : List Question
    last = ask 12 0 rooms ∷ []

    -- the lists' verdict, and then the rooms'
    pub refusal_then : (v : Verdict) → first_no (list_questions l) ≡ v → refusal_by l rooms ≡ and_then v (cond rooms all_yes (no 12 0))
    unfolding refusal_by first_no
    refusal_then = first_then (list_questions l) last

    pub asked_lists : refusal_by l rooms ≡ all_yes → Listed l
    unfolding refusal_by
    asked_lists e = lists_yes (every_yes (list_questions l) (yes_front (list_questions l) last (yes_every (questions l rooms) e)))

    pub asked_yes : refusal_by l rooms ≡ all_yes → Solvable l.constraints rooms
    unfolding refusal_by
    asked_yes e =
        let y = asked_lists e in
        record { lists = y.lists; sheet = y.sheet; rooms = yes_at last (yes_back (list_questions l) last (yes_every (questions l rooms) e)) 0 tt }

    pub yes_asked : Listed l → T rooms → refusal_by l rooms ≡ all_yes
    unfolding refusal_by
    yes_asked y fit = every_yes (questions l rooms) (every_both (λ q. q.yes) (list_questions l) last (yes_lists y) (both rooms true fit tt))

-- of the constraints as the code reads them from the lists lent
pub yes_read : (loader : List ℕ) (k : Lists) (l : WrittenLists) → record { loader = loader; constraints = k } ≡ l → (r : Lengths) → refusal_in l r ≡ all_yes
    → Solvable k (rooms_fit (given k) r)
yes_read loader k l e r a = subst (λ (x : WrittenLists). Solvable x.constraints (rooms_fit (given_by x) r)) (sym e) (asked_yes l _ a)

-- the questions' verdict, asked of these lengths, is that of the rooms whose lengths they are
pub asked_of : (l : WrittenLists) (asked rooms : Lengths) (told v : Verdict) → told ≡ refusal_in l asked → asked ≡ rooms → told ≡ v → refusal_in l rooms ≡ v
asked_of l asked rooms told v verdict is e = ap (refusal_in l) (sym is) ∙ sym verdict ∙ e
