-- From the answers of reading each text, and of asking about both, to the answer of all questions.
-- Key idea: the first no of one list of questions behind another is the first's, or else the second's.
use Prim.Native.Nat.{ℕ}
use mathlib.Core.Path.{◌≡◌, refl, sym, ap, ap₂, ◌∙◌}
use mathlib.Core.Bool.{◌&&◌, cond}
use mathlib.Core.List.{List}
use lib.Dec.{eqb}
use Rattle.questions.specs.Questions.{Verdict, no, all_yes, first_no}
use Rattle.questions.proofs.FirstNoLaws.{first_then}
use Rattle.forms.specs.declared.House.TheVariants.{Ours}
use Rattle.read_questions.specs.Reading.{sheet_in, Reply, refused, concluded}
use Rattle.read_questions.proofs.ConcludedLaws.{concluded_no}
use Rattle.merge_read.specs.Behind.{text_questions, text_reply}
use Rattle.merge_questions.specs.Merging.{join_questions, merge_questions, merged_in, blamed, blamed_sheet}
use Rattle.merge_join.specs.Join.{join_reply}

-- a reply, and the sheet that it blames, of these two texts
pub record Says (reply : Reply) (blame : ℕ) (one two : List ℕ) : Type 0 where
  pub reply_is : reply ≡ join_reply one two
  pub blame_is : blame ≡ blamed_sheet one two

module _ (one two : List ℕ) where
  abbrev both : Verdict
  both = first_no (join_questions two (sheet_in Ours one) (sheet_in Ours two))

  -- the verdict of all questions, and of the first's own
  says : (reply : Reply) (blame : ℕ) (v w : Verdict) → first_no (text_questions Ours one) ≡ w → first_no (merge_questions one two) ≡ v
      → reply ≡ concluded v (merged_in one two) → blame ≡ blamed w v → Says reply blame one two
  unfolding join_reply blamed_sheet
  says reply blame v w e f r b =
      record { reply_is = r ∙ ap (λ (x : Verdict). concluded x (merged_in one two)) (sym f); blame_is = b ∙ ap₂ blamed (sym e) (sym f) }

  -- the first text is refused
  pub first_refused : (q n : ℕ) → refused q n ≡ text_reply Ours one → Says (refused q n) 1 one two
  unfolding text_reply merge_questions
  first_refused q n e =
      let v = concluded_no (first_no (text_questions Ours one)) (sheet_in Ours one) q n e in
      says (refused q n) 1 (no q n) (no q n) v (first_then (text_questions Ours one) _ (no q n) v) refl refl

  module _ (first : first_no (text_questions Ours one) ≡ all_yes) where
    pub second_refused : (q n k : ℕ) → refused q n ≡ text_reply Ours two → k ≡ cond (eqb q 21 && eqb n 0) 1 2 → Says (refused q n) k one two
    unfolding text_reply merge_questions
    second_refused q n k e b =
        let v = concluded_no (first_no (text_questions Ours two)) (sheet_in Ours two) q n e in
        says (refused q n) k (no q n) all_yes first
        (first_then (text_questions Ours one) _ all_yes first ∙ first_then (text_questions Ours two) _ (no q n) v) refl b

    pub both_asked : (reply : Reply) (blame : ℕ) → first_no (text_questions Ours two) ≡ all_yes → reply ≡ concluded both (merged_in one two)
        → blame ≡ blamed all_yes both → Says reply blame one two
    unfolding merge_questions
    both_asked reply blame second =
        says reply blame both all_yes first
        (first_then (text_questions Ours one) _ all_yes first
        ∙ first_then (text_questions Ours two) (join_questions two (sheet_in Ours one) (sheet_in Ours two)) all_yes second)
