-- The first no of the questions about units, by the code's tests.
-- Key idea: past each yes the questions that are left decide; no number is shared exactly where the search comes to the end.
use Prim.Native.Nat.{ℕ, ◌-◌, ◌≤◌, ◌<◌}
use mathlib.Core.Path.{◌≡◌, sym, ap, ◌∙◌}
use mathlib.Core.Bool.{not}
use mathlib.Core.List.{List, [], ◌∷◌, ◌++◌}
use native.Mathlib.Omega.{arith}
use lib.Dec.{leb}
use Rattle.std.specs.Prelude.{Option, Some, position}
use lib.ListN.{length, length-append}
use borrow.Author.Tests.{eq-eqb, ne_eqb, lt-ltb, le-ltb, le-leb, lt-leb}
use Rattle.lists.specs.Lists.{member}
use Rattle.lists.specs.First.{first_place}
use Rattle.questions.specs.Questions.{ask, Verdict, no, all_yes, first_no}
use Rattle.questions.proofs.FirstNoLaws.{no_here, yes_here}
use Rattle.sheet.specs.Sizes.{max_units}
use Rattle.read_form.specs.declared.Kind.TheVariants as Kind
use Rattle.merge_questions.specs.Merging.{line_number, shared_at, unit_questions}
use Rattle.merge_questions.specs.FirstLaws.{none_first, found_first, none_found}

module _ (two : List ℕ) (p q : ℕ) (ones twos : List ℕ) where
  abbrev place : ℕ
  place = first_place (length twos) (shared_at ones twos)

  abbrev found : Option ℕ
  found = position (λ k. member k ones) twos

  abbrev asked : Verdict
  asked = first_no (unit_questions two p q ones twos)

  pub no_19 : (p ≡ q → ⊥) → asked ≡ no 19 (line_number two Kind.Sheet 0)
  no_19 ne = no_here _ 19 _ _ (ne_eqb p q ne)

  module _ (e : p ≡ q) where
    pub no_20 : (j : ℕ) → Some j ≡ found → asked ≡ no 20 (line_number two Kind.Unit j)
    no_20 j is =
        let f = found_first (λ k. member k ones) 0 twos j is in
        yes_here _ 19 _ _ (eq-eqb p q e) ∙ no_here _ 20 _ _ (none_first (λ k. member k ones) 0 twos ∙ ap not (lt-ltb place (length twos) f.1))
        ∙ ap (λ (i : ℕ). no 20 (line_number two Kind.Unit i)) (sym f.0)

    module _ (not_found : (j : ℕ) → found ≡ Some j → ⊥) where
      none : length twos ≤ place
      none = none_found (λ k. member k ones) 0 twos not_found

      -- 9 decides
      last_asked : asked ≡ first_no (ask 9 (line_number two Kind.Unit (max_units - length ones)) (leb (length (ones ++ twos)) max_units) ∷ [])
      last_asked =
          yes_here _ 19 _ _ (eq-eqb p q e) ∙ yes_here _ 20 _ _ (none_first (λ k. member k ones) 0 twos ∙ ap not (le-ltb place (length twos) none))

      pub no_9 : max_units - length ones < length twos → asked ≡ no 9 (line_number two Kind.Unit (max_units - length ones))
      no_9 h = last_asked ∙ no_here _ 9 _ _ (lt-leb (length (ones ++ twos)) max_units (omega (arith, length-append ones twos)))

      pub all_yes_lem : length ones ≤ max_units → length twos ≤ max_units - length ones → asked ≡ all_yes
      unfolding first_no
      all_yes_lem few h =
          last_asked
          ∙ yes_here _ 9 (line_number two Kind.Unit (max_units - length ones)) []
          (le-leb (length (ones ++ twos)) max_units (omega (arith, length-append ones twos)))
