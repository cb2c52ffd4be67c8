-- What is promised of the program's inputs, of which only the front is read. Definitions only.
use Rattle.std.specs.Prelude.{◌≡◌, List, ℕ, take, Option, Some, None}
use Rattle.forms.specs.declared.House.{House}
use Rattle.wave_words.specs.declared.Query.{Query}
use Rattle.answer_conditions.specs.Answer.{AnswerTo, Answered}
use Rattle.print_bytes.specs.Writing.{with_bytes}
use Rattle.convert_lists.specs.Converting.{reply_of, converting, converted}
use Rattle.convert_lists.specs.declared.Converted.{Converted}
use Rattle.questions.specs.declared.Refusal.{Refusal}
use Rattle.merge_questions.specs.Merging.{blamed_sheet}
use Rattle.merge_text.specs.MergeText.{blame_of, merging_text, merged_text}
use Rattle.merge_text.specs.MergeText as merge
use Rattle.merge_text.specs.declared.Merged.{Merged}
use Rattle.wave_line_page.specs.LinePage.{showing, line_page}
use Rattle.wave_line_page.specs.declared.Shown.{Shown}

-- an answer to what is asked of every input whose front is these bytes: all of it, or as much as so many places hold
abbrev pub InputAnswered : House → Query → ℕ → List ℕ → List ℕ → List ℕ → ℕ → Type 0
InputAnswered h query places front page left next =
    (input : List ℕ) → take places input ≡ front → Answered (AnswerTo h query input) page left next

-- the same of every such input in the other house's form
pub record ConvertedAll (from to : House) (input page left : List ℕ) (r : Converted) : Type 0 where
  pub told : reply_of r ≡ converting from to input
  pub written : left ≡ with_bytes page 0 (converted from to input)

abbrev pub InputConverted : House → House → ℕ → List ℕ → List ℕ → List ℕ → Converted → Type 0
InputConverted from to places front page left r = (input : List ℕ) → take places input ≡ front → ConvertedAll from to input page left r

-- the line that a refusal names
abbrev pub line_in : Option Refusal → ℕ
line_in None = 0
line_in (Some f) = f.line

abbrev pub line_of : Converted → ℕ
line_of r = line_in r.refusal

-- ---- of every two inputs whose fronts are these bytes

-- the sheet that they become, which sheet a refusal is of, and what is written
pub record MergedAll (one two page left : List ℕ) (r : Merged) : Type 0 where
  pub told : merge.reply_of r ≡ merging_text one two
  pub blames : blame_of r ≡ blamed_sheet one two
  pub written : left ≡ with_bytes page 0 (merged_text one two)

abbrev pub InputsMerged : ℕ → List ℕ → List ℕ → List ℕ → List ℕ → Merged → Type 0
InputsMerged places first second page left r =
    (one two : List ℕ) → take places one ≡ first → take places two ≡ second → MergedAll one two page left r

-- the line of the unit with the loader number k
pub record ShownAll (one two : List ℕ) (k : ℕ) (page left : List ℕ) (r : Shown) : Type 0 where
  pub told : r ≡ showing one two k
  pub written : left ≡ with_bytes page 0 (line_page one two k)

abbrev pub InputsShown : ℕ → List ℕ → List ℕ → ℕ → List ℕ → List ℕ → Shown → Type 0
InputsShown places first second k page left r =
    (one two : List ℕ) → take places one ≡ first → take places two ≡ second → ShownAll one two k page left r
