-- The number of each question, as docs/RULES.md has it, "Questions". Definitions only.
use Rattle.std.specs.Prelude.{ℕ}
use Rattle.questions.specs.declared.Question.{Question}
use Rattle.questions.specs.declared.Question.TheVariants.{TextLength, Printable, LineForm, PlainNumbers, SheetLine, Span, Stretch, Counts, Units, Rules}
use Rattle.questions.specs.declared.Question.TheVariants.{NoteBrackets, Rooms, ListLengths, Page, Loader, CarriedUnit, RuleLow, Spans, SharedLoader}
use Rattle.questions.specs.declared.Question.TheVariants.{CrossedRules, UnitOfLoader}

abbrev pub number_of : Question → ℕ
number_of TextLength = 1
number_of Printable = 2
number_of LineForm = 3
number_of PlainNumbers = 4
number_of SheetLine = 5
number_of Span = 6
number_of Stretch = 7
number_of Counts = 8
number_of Units = 9
number_of Rules = 10
number_of NoteBrackets = 11
number_of Rooms = 12
number_of ListLengths = 13
number_of Page = 15
number_of Loader = 16
number_of CarriedUnit = 17
number_of RuleLow = 18
number_of Spans = 19
number_of SharedLoader = 20
number_of CrossedRules = 21
number_of UnitOfLoader = 27
