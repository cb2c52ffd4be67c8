-- A text that passes reading's questions but 12 passes those of its lines.
use Rattle.std.specs.Prelude.{List, [], ◌∷◌, ℕ, leb, length}
use Rattle.lists.specs.Members.{right}
use Rattle.questions.specs.Questions.{ask, AllYes}
use Rattle.questions.proofs.FirstNoLaws.{yes_front}
use Rattle.sheet.specs.Sizes.{max_bytes}
use Rattle.forms.specs.Lines.{lines}
use Rattle.forms.specs.declared.House.{House}
use Rattle.read_questions.specs.Reading.{contents, has_sheet, line_questions}
use Rattle.merge_read.specs.Behind.{text_questions}

pub lines_asked : (h : House) (text : List ℕ) → AllYes (text_questions h text) → AllYes (line_questions h 1 [] (lines text))
lines_asked h text asked =
    yes_front (line_questions h 1 [] (lines text)) (ask 5 0 (has_sheet (contents h (lines text))) ∷ []) (right (leb (length text) max_bytes) _ asked)
