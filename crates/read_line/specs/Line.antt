-- What the line reader answers: questions 2, 11, 3 and 4 of one line, in this order, and else its values.
use Rattle.std.specs.Prelude.{ℕ, Bool, cond, List, Result, Ok, Err}
use Rattle.lists.specs.Lists.{every}
use Rattle.forms.specs.Form.{printable, plain}
use Rattle.forms.specs.declared.House.{House}
use Rattle.questions.specs.declared.Question.{Question}
use Rattle.questions.specs.declared.Question.TheVariants.{Printable, LineForm, PlainNumbers, NoteBrackets}
use Rattle.read_line.specs.Content.{Content, note, sheet, unit, rule, other, brackets_match, content_of, numbers_in}
use Rattle.read_line.specs.declared.Line.{Line}
use Rattle.read_line.specs.declared.Line.TheVariants.{Note, Sheet, Unit, Rule}

abbrev pub values_of : Content → Result Line Question
values_of note = Ok Note
values_of (sheet ds p) = Ok (Sheet p)
values_of (unit ds k f l) = Ok (Unit k f l)
values_of (rule ds a b lo hi) = Ok (Rule a b lo hi)
values_of other = Err LineForm

-- question 4, and the values
unfoldable pub said : Content → Result Line Question
said x = cond (every plain (numbers_in x)) (values_of x) (Err PlainNumbers)

unfoldable pub line_of : House → List ℕ → Bool → Result Line Question
line_of h line ended =
    let x = content_of h line in
    cond (printable line) (cond (brackets_match x line) (cond ended (said x) (Err LineForm)) (Err NoteBrackets)) (Err Printable)
