-- What a line says by its kind and the values of its numbers, or the question that it fails. Definitions only.
use Rattle.std.specs.Prelude.{ℕ, ◌≤◌, ◌≡◌, Bool, cond, List, length, get_or, Result, Ok, Err}
use Rattle.forms.specs.declared.House.{House}
use Rattle.forms.specs.declared.House.TheVariants.{Ours, Partner}
use Rattle.questions.specs.declared.Question.{Question}
use Rattle.questions.specs.declared.Question.TheVariants.{Printable, LineForm, PlainNumbers, NoteBrackets}
use Rattle.read_form.specs.declared.Kind.{Kind}
use Rattle.read_line.specs.Content.{note_matched, last_of}
use Rattle.read_line.specs.declared.Line.{Line}
use Rattle.read_line.specs.declared.Line.TheVariants.{Note, Sheet, Unit, Rule}

-- what a unit and a rule say by the values of their numbers
abbrev pub unit_by : House → ℕ → ℕ → ℕ → Line
unit_by Ours k f l = Unit k f l
unit_by Partner k start hours = Unit k start (last_of start hours)

abbrev pub rule_by : House → ℕ → ℕ → ℕ → ℕ → Line
rule_by Ours a b lo hi = Rule a b lo hi
rule_by Partner start hours most none = Rule start (last_of start hours) 0 most

-- a note has its first bracket at least
abbrev pub NoteHasBytes : Kind → List ℕ → Type 0
NoteHasBytes kind line = kind ≡ Kind.Note → 1 ≤ length line

-- what a line with its line feed says, or the question that it fails, by its kind and the values of its numbers; its bytes are looked at for a note alone
abbrev pub line_said : House → Kind → Bool → List ℕ → List ℕ → Result Line Question
line_said h Kind.Unprintable p v line = Err Printable
line_said h Kind.Note p v line = cond (note_matched line) (Ok Note) (Err NoteBrackets)
line_said h Kind.Sheet p v line = cond p (Ok (Sheet (get_or v 0 0))) (Err PlainNumbers)
line_said h Kind.Unit p v line = cond p (Ok (unit_by h (get_or v 1 0) (get_or v 2 0) (get_or v 3 0))) (Err PlainNumbers)
line_said h Kind.Rule p v line = cond p (Ok (rule_by h (get_or v 4 0) (get_or v 5 0) (get_or v 6 0) (get_or v 7 0))) (Err PlainNumbers)
line_said h Kind.Other p v line = Err LineForm

-- the question that a line of a kind without its line feed fails
abbrev pub unended_fault : Kind → List ℕ → Question
unended_fault Kind.Unprintable line = Printable
unended_fault Kind.Note line = cond (note_matched line) LineForm NoteBrackets
unended_fault Kind.Sheet line = LineForm
unended_fault Kind.Unit line = LineForm
unended_fault Kind.Rule line = LineForm
unended_fault Kind.Other line = LineForm
