-- What a line is, by its bytes and its house, and question 11. Definitions only.
use Rattle.std.specs.Prelude.{ℕ, ◌+◌, ◌-◌, Bool, true, List, [], drop, get_or}
use Rattle.forms.specs.Form.{value, numbers}
use Rattle.forms.specs.Forms.{span_form_of, unit_form_of, rule_form_of}
use Rattle.forms.specs.declared.House.{House}
use Rattle.forms.specs.declared.House.TheVariants.{Ours, Partner}
use Rattle.read_form.specs.Kinds.{form_of}
use Rattle.read_form.specs.declared.Kind.{Kind}
use Rattle.read_notes.specs.Note.{matched}

-- a note, a form with the digits of its numbers, which question 4 is asked of, and what they say, or neither
pub data Content : Type 0 where
  note : Content
  sheet : (digits : List (List ℕ)) (span : ℕ) → Content
  unit : (digits : List (List ℕ)) (loader first last : ℕ) → Content
  rule : (digits : List (List ℕ)) (from to low high : ℕ) → Content
  other : Content

-- past the note's own bracket, that one is open
unfoldable pub note_matched : List ℕ → Bool
note_matched line = matched (drop 1 line) 1

-- question 11
abbrev pub brackets_match : Content → List ℕ → Bool
brackets_match note line = note_matched line
brackets_match (sheet ds p) line = true
brackets_match (unit ds k f l) line = true
brackets_match (rule ds a b lo hi) line = true
brackets_match other line = true

-- the value of the i-th number, from 0
abbrev pub value_at : List (List ℕ) → ℕ → ℕ
value_at ds i = value (get_or ds i [])

-- the last slot of a stretch by its first and how many slots long it is: one of no slots ends before it starts
abbrev pub last_of : ℕ → ℕ → ℕ
last_of start hours = start + hours - 1

-- a unit by the digits of its numbers: loader, first and last slot, or loader, start and hours
abbrev pub unit_said : House → List (List ℕ) → Content
unit_said Ours ds = unit ds (value_at ds 0) (value_at ds 1) (value_at ds 2)
unit_said Partner ds = unit ds (value_at ds 0) (value_at ds 1) (last_of (value_at ds 1) (value_at ds 2))

-- a rule: first and last slot, low and high, or start, hours and most
abbrev pub rule_said : House → List (List ℕ) → Content
rule_said Ours ds = rule ds (value_at ds 0) (value_at ds 1) (value_at ds 2) (value_at ds 3)
rule_said Partner ds = rule ds (value_at ds 0) (last_of (value_at ds 0) (value_at ds 1)) 0 (value_at ds 2)

abbrev pub form_content : House → Kind → List ℕ → Content
form_content h Kind.Note line = note
form_content h Kind.Sheet line = let ds = numbers (span_form_of h) line in sheet ds (value_at ds 0)
form_content h Kind.Unit line = unit_said h (numbers (unit_form_of h) line)
form_content h Kind.Rule line = rule_said h (numbers (rule_form_of h) line)
form_content h Kind.Unprintable line = other
form_content h Kind.Other line = other

unfoldable pub content_of : House → List ℕ → Content
content_of h line = form_content h (form_of h line) line

-- the digits of each number of a line
abbrev pub numbers_in : Content → List (List ℕ)
numbers_in note = []
numbers_in (sheet ds p) = ds
numbers_in (unit ds k f l) = ds
numbers_in (rule ds a b lo hi) = ds
numbers_in other = []
