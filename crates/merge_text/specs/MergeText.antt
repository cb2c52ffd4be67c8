-- What merging two texts into one answers and leaves: the line of a refusal, or the merged sheet as a text of our own format (docs/RULES.md, "Two sheets
-- made one"). Definitions only.
use Rattle.std.specs.Prelude.{List, ℕ, Option, Some, None}
use Rattle.questions.specs.Questions.{first_no}
use Rattle.forms.specs.declared.House.TheVariants.{Ours}
use Rattle.sheet_texts.specs.SheetText.{sheet_text}
use Rattle.merge_questions.specs.Merging.{merge_questions, merged_in}
use Rattle.write_fronts.specs.Outcome.{bytes_by, Reply, sheet, refused, reply_by}
use Rattle.merge_questions.specs.declared.Blamed.{Blamed}
use Rattle.merge_text.specs.declared.Merged.{Merged}

-- what is written
abbrev pub merged_text : List ℕ → List ℕ → List ℕ
merged_text one two = bytes_by (first_no (merge_questions one two)) (sheet_text Ours (merged_in one two))

-- the answer
abbrev pub merging_text : List ℕ → List ℕ → Reply
merging_text one two = reply_by (first_no (merge_questions one two)) (sheet_text Ours (merged_in one two))

-- by the refusal, where there is one
abbrev pub reply_at : ℕ → Option Blamed → Reply
reply_at place None = sheet place
reply_at place (Some b) = refused b.refusal.number b.refusal.line place

abbrev pub reply_of : Merged → Reply
reply_of m = reply_at m.place m.blamed

-- which sheet a refusal is of
abbrev pub blamed_of : Option Blamed → ℕ
blamed_of None = 0
blamed_of (Some b) = b.sheet

abbrev pub blame_of : Merged → ℕ
blame_of m = blamed_of m.blamed
