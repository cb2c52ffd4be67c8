-- The lines of an answer page (docs/RULES.md, "Sheets and answers"), each a form written out, and what it is to write bytes onto a page.
-- Definitions only.
use Rattle.std.specs.Prelude.{◌≡◌, List, [], ◌∷◌, ◌++◌, ℕ, ◌+◌, ◌≤◌, length, take, drop}
use Rattle.forms.specs.Form.{Piece, word, number}
use Rattle.forms.specs.Forms.{plan_head_form, unit_line_form, carried_line_form, slot_line_form, fits_head_form, range_line_form}
use Rattle.forms.specs.Forms.{none_head_form, at_most_form, at_least_form, shortfall_form, refused_form}
use Rattle.forms.specs.Decimal.{form_line}

-- the page with these bytes from the place on, and nothing else changed
unfoldable pub with_bytes : List ℕ → ℕ → List ℕ → List ℕ
with_bytes page at bytes = take at page ++ bytes ++ drop (at + length bytes) page

-- there is room for the bytes from the place on
pub record Room (page : List ℕ) (at : ℕ) (bytes : List ℕ) : Type 0 where
  pub fits : at + length bytes ≤ length page

-- what a call that writes the bytes leaves: the page, and the place just past them
pub record Written (page : List ℕ) (at : ℕ) (bytes : List ℕ) (left : List ℕ) (next : ℕ) : Type 0 where
  pub filled : left ≡ with_bytes page at bytes
  pub moved : next ≡ at + length bytes

-- ---- the lines

unfoldable pub plan_head : ℕ → List ℕ
plan_head units = form_line plan_head_form (units ∷ [])

unfoldable pub unit_line : ℕ → ℕ → ℕ → ℕ → List ℕ
unit_line loader slot earliest latest = form_line unit_line_form (loader ∷ slot ∷ earliest ∷ latest ∷ [])

-- of a unit that is carried over into the next wave
unfoldable pub carried_line : ℕ → ℕ → ℕ → List ℕ
carried_line loader earliest latest = form_line carried_line_form (loader ∷ earliest ∷ latest ∷ [])

unfoldable pub slot_line : ℕ → ℕ → ℕ → ℕ → List ℕ
slot_line slot count least greatest = form_line slot_line_form (slot ∷ count ∷ least ∷ greatest ∷ [])

unfoldable pub fits_head : ℕ → List ℕ
fits_head units = form_line fits_head_form (units ∷ [])

unfoldable pub range_line : ℕ → ℕ → ℕ → List ℕ
range_line slot least greatest = form_line range_line_form (slot ∷ least ∷ greatest ∷ [])

unfoldable pub none_head : List ℕ
none_head = form_line none_head_form []

-- the bound that a step sets on the count of the slots it crosses
unfoldable pub at_most_line : ℕ → ℕ → ℕ → List ℕ
at_most_line bound first last = form_line at_most_form (bound ∷ first ∷ last ∷ [])

unfoldable pub at_least_line : ℕ → ℕ → ℕ → List ℕ
at_least_line bound first last = form_line at_least_form (bound ∷ first ∷ last ∷ [])

unfoldable pub shortfall_line : ℕ → List ℕ
shortfall_line k = form_line shortfall_form (k ∷ [])

-- the line of a refusal, as `(refused 7 (line 3))`
unfoldable pub refused_line : ℕ → ℕ → List ℕ
refused_line question line = form_line refused_form (question ∷ line ∷ [])

-- the longest one: its question has at most two digits and its line number at most five
abbrev pub max_refusal : ℕ
max_refusal = 26

-- ---- the forms of so many numbers, by their words

abbrev pub no_number : List ℕ → List Piece
no_number end = word end ∷ []

abbrev pub one_number : List ℕ → List ℕ → List Piece
one_number first end = word first ∷ number ∷ no_number end

abbrev pub two_numbers : List ℕ → List ℕ → List ℕ → List Piece
two_numbers first second end = word first ∷ number ∷ one_number second end

abbrev pub three_numbers : List ℕ → List ℕ → List ℕ → List ℕ → List Piece
three_numbers first second third end = word first ∷ number ∷ two_numbers second third end

abbrev pub four_numbers : List ℕ → List ℕ → List ℕ → List ℕ → List ℕ → List Piece
four_numbers first second third fourth end = word first ∷ number ∷ three_numbers second third fourth end
