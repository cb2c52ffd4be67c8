-- Replies as numbers, for callers in other languages: 0 for what a reply does not have. Definitions only.
use Rattle.std.specs.Prelude.{ℕ, ◌-◌, ◌≤◌, Result, Ok, Err}
use Rattle.read_questions.specs.Reading as reading
use Rattle.plan_answers.specs.Reply as planning
use Rattle.print_answer.specs.Reply as printing
use Rattle.write.specs.Writing as writing
use Rattle.merge_questions.specs.declared.Blamed.{Blamed}
use Rattle.merge_lines.specs.declared.LinePlace.{LinePlace}
use Rattle.merge_lines.specs.declared.LinePlace.TheVariants.{First, Second}
use Rattle.tugrokt_replies.specs.declared.line.Line.{Line}
use Rattle.tugrokt_replies.specs.declared.reading.Reading.{Reading}
use Rattle.tugrokt_replies.specs.declared.planning.Planning.{Planning}
use Rattle.tugrokt_replies.specs.declared.printing.Printing.{Printing}
use Rattle.tugrokt_replies.specs.declared.seating.Seating.{Seating}
use Rattle.tugrokt_replies.specs.declared.writing.Writing.{Writing}

abbrev pub reading_of : reading.Reply → Reading
reading_of (reading.refused q n) = record { number = q; line = n; span = 0; units = 0; rules = 0 }
reading_of (reading.read p u r) = record { number = 0; line = 0; span = p; units = u; rules = r }

-- planning and deciding
abbrev pub planning_of : planning.Reply → Planning
planning_of (planning.refused q n) = record { number = q; line = n; length = 0 }
planning_of planning.plan = record { number = 0; line = 0; length = 0 }
planning_of (planning.none k) = record { number = 0; line = 0; length = k }

-- seating, which looked at so many units: 1 for a plan, and 0 for none, whose reply has no ring
abbrev pub seating_of : ℕ → planning.Reply → Seating
seating_of looks (planning.refused q n) = record { number = q; line = n; planned = 0; looked = looks }
seating_of looks planning.plan = record { number = 0; line = 0; planned = 1; looked = looks }
seating_of looks (planning.none k) = record { number = 0; line = 0; planned = 0; looked = looks }

-- the place of a refusal is the one that was given
abbrev pub printing_of : ℕ → printing.Reply → Printing
printing_of at (printing.refused q n) = record { number = q; line = n; length = 0; place = at }
printing_of at (printing.plan next) = record { number = 0; line = 0; length = 0; place = next }
printing_of at (printing.none k next) = record { number = 0; line = 0; length = k; place = next }

abbrev pub writing_of : ℕ → writing.Reply → Writing
writing_of at (writing.refused q n) = record { number = q; line = n; place = at }
writing_of at (writing.text next) = record { number = 0; line = 0; place = next }

-- the line of a unit, by where it starts and how long it is; which sheet a refusal is of is not told
abbrev pub line_of : Result LinePlace Blamed → Line
line_of (Err b) = record { number = b.refusal.number; line = b.refusal.line; sheet = 0; start = 0; length = 0 }
line_of (Ok (First a e)) = record { number = 0; line = 0; sheet = 1; start = a; length = e - a }
line_of (Ok (Second a e)) = record { number = 0; line = 0; sheet = 2; start = a; length = e - a }

-- a line does not end before it starts
abbrev pub Rises : Result LinePlace Blamed → Type 0
Rises (Err b) = Unit {0}
Rises (Ok (First a e)) = a ≤ e
Rises (Ok (Second a e)) = a ≤ e
