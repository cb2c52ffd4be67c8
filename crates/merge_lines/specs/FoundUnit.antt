-- The line given for a loader number is a whole line of its text, and says the unit of the merged sheet with that number.
-- Key idea: nothing is refused, so that the sheet that has the unit has a line that says it, and the merged sheet has the units of both.
use Rattle.std.specs.Prelude.{ℕ, ◌≡◌, Bool, true, false, ◌||◌, T, eqb, length, get_or}
use Rattle.std.proofs.Common.{sym, subst, ◌∙◌, arith, eqb-true, ltb-true}
use mathlib.Core.List.Memᴰ
use mathlib.Core.List.{List, [], ◌∷◌, map}
use Rattle.std.proofs.lemmas.List.{length-map}
use Rattle.std.proofs.Math.ListN.{get_or-map}
use Rattle.lists.specs.First.{first_at}
use Rattle.lists.specs.Members.{In, is_true}
use Rattle.questions.specs.Questions.{ask, all_yes, first_no, AllYes}
use Rattle.questions.proofs.FirstNoLaws.{yes_every, every_yes, yes_front, yes_back, yes_at}
use Rattle.sheet.specs.Sheet.{SheetUnit, loaders, no_unit}
use Rattle.forms.specs.declared.House.TheVariants.{Ours}
use Rattle.read_questions.specs.Reading.{sheet_in}
use Rattle.read_places.specs.LineOfUnit.{LineOfUnit, line_says}
use Rattle.merge_read.specs.Behind.{text_questions}
use Rattle.merge_read.specs.BehindLaws.{lines_asked}
use Rattle.merge_sheets.specs.Merge.{merged}
use Rattle.merge_questions.specs.Merging.{merge_questions, merged_in}
use Rattle.merge_laws.proofs.Merged.{first_asked, second_asked}
use Rattle.merge_lines.specs.Lines.{has_loader, questions_of_line, loader_place, spot_of}
use Rattle.merge_lines.specs.LinesLaws.{place_found}

module _ (one two : List ℕ) (k : ℕ) (e : first_no (questions_of_line one two k) ≡ all_yes) where
  merge_yes : first_no (merge_questions one two) ≡ all_yes
  unfolding questions_of_line
  merge_yes =
      every_yes (merge_questions one two)
      (yes_front (merge_questions one two) (ask 27 0 (has_loader one k || has_loader two k) ∷ []) (yes_every (questions_of_line one two k) e))

  either : T (has_loader one k || has_loader two k)
  unfolding questions_of_line
  either =
      let last = ask 27 0 (has_loader one k || has_loader two k) ∷ [] in
      yes_at last (yes_back (merge_questions one two) last (yes_every (questions_of_line one two k) e)) 0 tt

  -- the line of the text, whose unit has the number and is in the merged sheet
  pub record SaysUnit (text : List ℕ) : Type 0 where
    pub unit : SheetUnit
    pub loader : unit.loader ≡ k
    pub line : LineOfUnit text unit (spot_of text k)
    pub merges : In unit (merged_in one two).units

  says : (text : List ℕ) → AllYes (text_questions Ours text) → has_loader text k ≡ true
      → ((u : SheetUnit) → In u (sheet_in Ours text).units → In u (merged_in one two).units) → SaysUnit text
  says text asked h merge =
      let us = (sheet_in Ours text).units in
      let i = loader_place (loaders (sheet_in Ours text)) k in
      let some = ltb-true i (length (map (λ (u : SheetUnit). u.loader) us)) (place_found k (loaders (sheet_in Ours text)) ∙ h) in
      let l = line_says text (lines_asked Ours text asked) i (omega (arith, length-map us (λ (u : SheetUnit). u.loader))) in
      record {
        unit = get_or us i no_unit;
        loader = sym (get_or-map (λ (u : SheetUnit). u.loader) us i no_unit)
            ∙ eqb-true _ k (first_at (λ j. eqb (get_or (loaders (sheet_in Ours text)) j 0) k) (length (loaders (sheet_in Ours text))) some);
        line = l;
        merges = merge (get_or us i no_unit) l.listed;
      }

  pub first_says : has_loader one k ≡ true → SaysUnit one
  unfolding merged
  first_says h = says one (first_asked one two merge_yes) h (λ u m. Memᴰ.append_left (sheet_in Ours two).units m)

  pub second_says : has_loader one k ≡ false → SaysUnit two
  unfolding merged
  second_says h =
      says two (second_asked one two merge_yes) (subst (λ (b : Bool). (b || has_loader two k) ≡ true) h (is_true _ either))
      (λ u m. Memᴰ.append_right (sheet_in Ours one).units m)
