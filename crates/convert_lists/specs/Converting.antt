-- What converting a text from a house to a house answers and leaves: what reading refuses, what the other house refuses, or the text of the sheet that was
-- read (docs/RULES.md, "The order of the questions"). Definitions only.
use Rattle.std.specs.Prelude.{List, ◌++◌, ℕ, Option, Some, None}
use Rattle.questions.specs.Questions.{Question, Verdict, first_no}
use Rattle.forms.specs.declared.House.{House}
use Rattle.sheet.specs.Sheet.{constraints}
use Rattle.read_questions.specs.Reading.{questions, rooms_for_all, sheet_in}
use Rattle.write_ask.specs.HouseQuestions.{house_questions}
use Rattle.sheet_texts.specs.SheetText.{sheet_text}
use Rattle.write_fronts.specs.Outcome.{bytes_by, Reply, sheet, refused, reply_by}
use Rattle.questions.specs.declared.Refusal.{Refusal}
use Rattle.convert_lists.specs.declared.Converted.{Converted}

-- what reading asks, with rooms for every sheet, and then what the other house asks of the sheet that was read
abbrev pub asked : House → House → List ℕ → List Question
asked from to text = questions from text rooms_for_all ++ house_questions to (constraints (sheet_in from text))

-- the refusal, by number and line, or none
unfoldable pub refusal : House → House → List ℕ → Verdict
refusal from to text = first_no (asked from to text)

abbrev pub converted : House → House → List ℕ → List ℕ
converted from to text = bytes_by (refusal from to text) (sheet_text to (sheet_in from text))

-- ---- the answer

-- by the refusal whose line was written, or none, and the place just past what was
abbrev pub written : Option Refusal → ℕ → Reply
written None next = sheet next
written (Some f) next = refused f.number f.line next

abbrev pub reply_of : Converted → Reply
reply_of c = written c.refusal c.place

abbrev pub converting : House → House → List ℕ → Reply
converting from to text = reply_by (refusal from to text) (sheet_text to (sheet_in from text))
