-- What the questions of a call's lists come to, by the answers that the code had: the first no, or none.
-- Key idea: past a yes the questions that are left decide, each from the place just before it.
use Rattle.std.specs.Prelude.{◌≡◌, Bool, true, false, List, [], ℕ, ◌≤◌, ◌<◌, T, length, drop}
use Rattle.std.proofs.Common.{sym, ap, ◌∙◌, subst}
use borrow.Author.Tests.{le-leb, lt-leb}
use Rattle.questions.specs.declared.Refusal.{Refusal}
use Rattle.questions.specs.Questions.{Verdict, no, all_yes, first_no}
use Rattle.questions.proofs.FirstNoLaws.{no_here, yes_here, every_yes}
use Rattle.sheet.specs.Sizes.{max_units, max_rules, max_count, carried_place}
use Rattle.sheet.specs.Questions.{is_span, windows_fit, loaders_fit}
use Rattle.sheet.proofs.QuestionLaws.{Agree}
use Rattle.sheet.specs.Lists.{Lists, given, WrittenLists, all_agree}
use Rattle.plan_ask.specs.Questions.{list_questions}
use Rattle.plan_lists.specs.Rising.{all_rising}
use Rattle.plan_ask.proofs.AskingLaws.{all_agree_read, lists_read, asks_span, asks_units, asks_rules, asks_windows, asks_stretches, asks_counts}

pub says_lists : (whole : WrittenLists) (r : Refusal) → r ≡ record { number = 13; line = 0 } → false ≡ all_agree whole → no r.number r.line ≡ first_no (list_questions whole)
says_lists whole r is h = ap (λ (x : Refusal). no x.number x.line) is ∙ sym (no_here _ 13 0 _ (sym h))

-- the lists as the code reads them: `loader` and `l`, of the whole that was lent
module _ (loader : List ℕ) (k l : Lists) (whole : WrittenLists) (e : record { loader = loader; constraints = k } ≡ whole) (f : l ≡ k) where
  abbrev w : WrittenLists
  w = record { loader = loader; constraints = l }

  pub same : w ≡ whole
  same = ap (λ (x : Lists). record { loader = loader; constraints = x }) f ∙ e

  -- the first no of the questions past the first few
  abbrev left : ℕ → Verdict
  left n = first_no (drop n (list_questions w))

  -- a no that the code found is that of the lists lent
  found : (r : Refusal) (q : ℕ) → r ≡ record { number = q; line = 0 } → left 0 ≡ no q 0 → no r.number r.line ≡ first_no (list_questions whole)
  found r q is h = ap (λ (x : Refusal). no x.number x.line) is ∙ sym h ∙ ap (λ (x : WrittenLists). first_no (list_questions x)) same

  module _ (yes-1 : true ≡ all_agree whole) where
    all_agreed : true ≡ all_agree w
    all_agreed = yes-1 ∙ ap all_agree (sym same)

    pub agreed : Agree l.first l.last l.from l.to l.low l.high
    agreed = lists_read l (all_agree_read w (subst T all_agreed tt)).1

    past-1 : left 0 ≡ left 1
    past-1 = yes_here _ 13 0 _ (sym all_agreed)

    pub says_span : (r : Refusal) → r ≡ record { number = 6; line = 0 } → false ≡ is_span l.span → no r.number r.line ≡ first_no (list_questions whole)
    says_span r is h = found r 6 is (past-1 ∙ no_here _ 6 0 _ (asks_span l ∙ sym h))

    module _ (yes-2 : true ≡ is_span l.span) where
      past-2 : left 0 ≡ left 2
      past-2 = past-1 ∙ yes_here _ 6 0 _ (asks_span l ∙ sym yes-2)

      pub says_units : (r : Refusal) → r ≡ record { number = 9; line = 0 } → max_units < length l.first → no r.number r.line ≡ first_no (list_questions whole)
      says_units r is h = found r 9 is (past-2 ∙ no_here _ 9 0 _ (asks_units l agreed ∙ lt-leb _ _ h))

      module _ (yes-3 : length l.first ≤ max_units) where
        past-3 : left 0 ≡ left 3
        past-3 = past-2 ∙ yes_here _ 9 0 _ (asks_units l agreed ∙ le-leb _ _ yes-3)

        pub says_rules : (r : Refusal) → r ≡ record { number = 10; line = 0 } → max_rules < length l.from → no r.number r.line ≡ first_no (list_questions whole)
        says_rules r is h = found r 10 is (past-3 ∙ no_here _ 10 0 _ (asks_rules l agreed ∙ lt-leb _ _ h))

        module _ (yes-4 : length l.from ≤ max_rules) where
          past-4 : left 0 ≡ left 4
          past-4 = past-3 ∙ yes_here _ 10 0 _ (asks_rules l agreed ∙ le-leb _ _ yes-4)

          module _ (most : ℕ) (is_carried : most ≡ carried_place l.span) where
            windows_asked : (b : Bool) → b ≡ all_rising 1 l.span most l.first l.last → windows_fit (given l) ≡ b
            windows_asked b h = asks_windows l ∙ ap (λ m. all_rising 1 l.span m l.first l.last) (sym is_carried) ∙ sym h

            pub says_windows : (r : Refusal) → r ≡ record { number = 7; line = 0 } → false ≡ all_rising 1 l.span most l.first l.last
                → no r.number r.line ≡ first_no (list_questions whole)
            says_windows r is h = found r 7 is (past-4 ∙ no_here _ 7 0 _ (windows_asked false h))

            module _ (yes-5 : true ≡ all_rising 1 l.span most l.first l.last) where
              past-5 : left 0 ≡ left 5
              past-5 = past-4 ∙ yes_here _ 7 0 _ (windows_asked true yes-5)

              pub says_stretches : (r : Refusal) → r ≡ record { number = 7; line = 0 } → false ≡ all_rising 1 l.span l.span l.from l.to
                  → no r.number r.line ≡ first_no (list_questions whole)
              says_stretches r is h = found r 7 is (past-5 ∙ no_here _ 7 0 _ (asks_stretches l agreed ∙ sym h))

              module _ (yes-6 : true ≡ all_rising 1 l.span l.span l.from l.to) where
                past-6 : left 0 ≡ left 6
                past-6 = past-5 ∙ yes_here _ 7 0 _ (asks_stretches l agreed ∙ sym yes-6)

                pub says_loaders : (r : Refusal) → r ≡ record { number = 16; line = 0 } → false ≡ loaders_fit loader
                    → no r.number r.line ≡ first_no (list_questions whole)
                says_loaders r is h = found r 16 is (past-6 ∙ no_here _ 16 0 _ (sym h))

                module _ (yes-7 : true ≡ loaders_fit loader) where
                  past-7 : left 0 ≡ left 7
                  past-7 = past-6 ∙ yes_here _ 16 0 _ (sym yes-7)

                  pub says_counts : (r : Refusal) → r ≡ record { number = 8; line = 0 } → false ≡ all_rising 0 max_count max_count l.low l.high
                      → no r.number r.line ≡ first_no (list_questions whole)
                  says_counts r is h = found r 8 is (past-7 ∙ no_here _ 8 0 _ (asks_counts l agreed ∙ sym h))

                  pub says_none : true ≡ all_rising 0 max_count max_count l.low l.high → all_yes ≡ first_no (list_questions whole)
                  says_none h =
                      sym (past-7 ∙ yes_here _ 8 0 _ (asks_counts l agreed ∙ sym h) ∙ every_yes [] tt)
                      ∙ ap (λ (x : WrittenLists). first_no (list_questions x)) same
