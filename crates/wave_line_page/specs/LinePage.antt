-- What the program writes of the line of a unit of two sheets, and its reply. Definitions only.
use Rattle.std.specs.Prelude.{List, [], ◌∷◌, ◌++◌, ℕ, ◌-◌, length, take, drop, Option, Some, None, Result, Ok, Err}
use Rattle.forms.specs.Words.{line_feed}
use Rattle.print_bytes.specs.Writing.{refused_line}
use Rattle.merge_lines.specs.Lines.{found_line}
use Rattle.merge_questions.specs.declared.Blamed.{Blamed}
use Rattle.merge_lines.specs.declared.LinePlace.{LinePlace}
use Rattle.merge_lines.specs.declared.LinePlace.TheVariants.{First, Second}
use Rattle.wave_line_page.specs.declared.Shown.{Shown}

-- the bytes of a text from a to e, as they stand, and a line feed
abbrev pub line_as_is : List ℕ → ℕ → ℕ → List ℕ
line_as_is text a e = take (e - a) (drop a text) ++ (line_feed ∷ [])

abbrev pub bytes_of : List ℕ → List ℕ → Result LinePlace Blamed → List ℕ
bytes_of one two (Err b) = refused_line b.refusal.number b.refusal.line
bytes_of one two (Ok (First a e)) = line_as_is one a e
bytes_of one two (Ok (Second a e)) = line_as_is two a e

-- what is written for the loader number k
abbrev pub line_page : List ℕ → List ℕ → ℕ → List ℕ
line_page one two k = bytes_of one two (found_line one two k)

-- which sheet a refusal is of, where it is one
abbrev pub blamed_in : Result LinePlace Blamed → Option ℕ
blamed_in (Err b) = Some b.sheet
blamed_in (Ok p) = None

-- the reply, with the place just past what was written
abbrev pub shown_by : Result LinePlace Blamed → ℕ → Shown
shown_by found next = record { place = next; blamed = blamed_in found }

abbrev pub showing : List ℕ → List ℕ → ℕ → Shown
showing one two k = shown_by (found_line one two k) (length (line_page one two k))
