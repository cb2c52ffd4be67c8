-- The forms of all lines, those of a sheet and those of a page: words as shown, and a place for each number. Reading and printing both take them
-- from here. A form is changed in its one line; for a line of a sheet `scripts/grid_tables.py` then makes the form reader's constants anew.
use Rattle.std.specs.Prelude.{List, [], ◌∷◌}
use Rattle.forms.specs.Words.{text}
use Rattle.forms.specs.Form.{Piece, word, number, any_bytes}
use Rattle.forms.specs.declared.House.{House}
use Rattle.forms.specs.declared.House.TheVariants.{Ours, Partner}

-- ---- a note, in any sheet

-- (note and a space, and any bytes
abbrev pub note_form : List Piece
note_form = word (text "(note ") ∷ any_bytes ∷ []

-- (note) and any bytes: question 11 asks that there are none
abbrev pub short_note_form : List Piece
short_note_form = word (text "(note)") ∷ any_bytes ∷ []

-- ---- a sheet of our own

-- (sheet N)
abbrev pub sheet_form : List Piece
sheet_form = word (text "(sheet ") ∷ number ∷ word (text ")") ∷ []

-- (unit N (window N N))
abbrev pub unit_form : List Piece
unit_form = word (text "(unit ") ∷ number ∷ word (text " (window ") ∷ number ∷ word (text " ") ∷ number ∷ word (text "))") ∷ []

-- (rule (slots N N) (count N N))
abbrev pub rule_form : List Piece
rule_form =
    word (text "(rule (slots ") ∷ number ∷ word (text " ") ∷ number ∷ word (text ") (count ") ∷ number ∷ word (text " ") ∷ number ∷ word (text "))") ∷ []

-- ---- a sheet of the partner house: a job is a unit by its first slot and how many slots long its window is, a limit a rule without a low

-- (day N)
abbrev pub day_form : List Piece
day_form = word (text "(day ") ∷ number ∷ word (text ")") ∷ []

-- (job N (start N) (hours N))
abbrev pub job_form : List Piece
job_form = word (text "(job ") ∷ number ∷ word (text " (start ") ∷ number ∷ word (text ") (hours ") ∷ number ∷ word (text "))") ∷ []

-- (limit (from N) (hours N) (most N))
abbrev pub limit_form : List Piece
limit_form =
    word (text "(limit (from ") ∷ number ∷ word (text ") (hours ") ∷ number ∷ word (text ") (most ") ∷ number ∷ word (text "))") ∷ []

-- ---- the lines of a sheet, by its house

abbrev pub span_form_of : House → List Piece
span_form_of Ours = sheet_form
span_form_of Partner = day_form

abbrev pub unit_form_of : House → List Piece
unit_form_of Ours = unit_form
unit_form_of Partner = job_form

abbrev pub rule_form_of : House → List Piece
rule_form_of Ours = rule_form
rule_form_of Partner = limit_form

-- ---- the page of a plan

-- (answer plan N)
abbrev pub plan_head_form : List Piece
plan_head_form = word (text "(answer plan ") ∷ number ∷ word (text ")") ∷ []

-- (unit N (slot N) (between N N))
abbrev pub unit_line_form : List Piece
unit_line_form =
    word (text "(unit ") ∷ number ∷ word (text " (slot ") ∷ number ∷ word (text ") (between ") ∷ number ∷ word (text " ") ∷ number ∷ word (text "))") ∷ []

-- (unit N (carried) (between N N))
abbrev pub carried_line_form : List Piece
carried_line_form = word (text "(unit ") ∷ number ∷ word (text " (carried) (between ") ∷ number ∷ word (text " ") ∷ number ∷ word (text "))") ∷ []

-- (slot N (count N) (range N N))
abbrev pub slot_line_form : List Piece
slot_line_form =
    word (text "(slot ") ∷ number ∷ word (text " (count ") ∷ number ∷ word (text ") (range ") ∷ number ∷ word (text " ") ∷ number ∷ word (text "))") ∷ []

-- ---- the page of a sheet that fits

-- (answer fits N)
abbrev pub fits_head_form : List Piece
fits_head_form = word (text "(answer fits ") ∷ number ∷ word (text ")") ∷ []

-- (slot N (range N N))
abbrev pub range_line_form : List Piece
range_line_form = word (text "(slot ") ∷ number ∷ word (text " (range ") ∷ number ∷ word (text " ") ∷ number ∷ word (text "))") ∷ []

-- ---- the page of a ring

-- (answer none)
abbrev pub none_head_form : List Piece
none_head_form = word (text "(answer none)") ∷ []

-- (at-most N (slots N N))
abbrev pub at_most_form : List Piece
at_most_form = word (text "(at-most ") ∷ number ∷ word (text " (slots ") ∷ number ∷ word (text " ") ∷ number ∷ word (text "))") ∷ []

-- (at-least N (slots N N))
abbrev pub at_least_form : List Piece
at_least_form = word (text "(at-least ") ∷ number ∷ word (text " (slots ") ∷ number ∷ word (text " ") ∷ number ∷ word (text "))") ∷ []

-- (shortfall N)
abbrev pub shortfall_form : List Piece
shortfall_form = word (text "(shortfall ") ∷ number ∷ word (text ")") ∷ []

-- ---- a refusal

-- (refused N (line N))
abbrev pub refused_form : List Piece
refused_form = word (text "(refused ") ∷ number ∷ word (text " (line ") ∷ number ∷ word (text "))") ∷ []
