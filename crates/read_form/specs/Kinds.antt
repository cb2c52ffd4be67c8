-- Which form a line has. Definitions only: docs/RULES.md, "Sheets and answers", questions 2 and 3.
use Rattle.std.specs.Prelude.{ℕ, cond, List, [], ◌∷◌}
use Rattle.forms.specs.Form.{Piece, printable, matches}
use Rattle.forms.specs.Forms.{note_form, short_note_form, span_form_of, unit_form_of, rule_form_of}
use Rattle.forms.specs.declared.House.{House}
use Rattle.read_form.specs.declared.Kind.{Kind}
use Rattle.read_form.specs.declared.Kind.TheVariants.{Unprintable, Note, Sheet, Unit, Rule, Other}

-- a form, and what a line of it is
pub record Shape : Type 0 where
  pub kind : Kind
  pub form : List Piece

abbrev shape : Kind → List Piece → Shape
shape k f = record { kind = k; form = f }

-- The lines of a sheet, by its house. A form of Forms.antt that is listed here is read; `scripts/grid_tables.py` makes the constants from this list.
abbrev pub shapes_of : House → List Shape
shapes_of h =
    shape Note note_form ∷ shape Note short_note_form ∷ shape Sheet (span_form_of h) ∷ shape Unit (unit_form_of h) ∷ shape Rule (rule_form_of h) ∷ []

-- the first of some forms that a line has
abbrev pub first_shape : List Shape → List ℕ → Kind
first_shape [] line = Other
first_shape (s ∷ ss) line = cond (matches s.form line) s.kind (first_shape ss line)

-- which form a printable line has
abbrev pub form_of : House → List ℕ → Kind
form_of h line = first_shape (shapes_of h) line

unfoldable pub kind_of : House → List ℕ → Kind
kind_of h line = cond (printable line) (form_of h line) Unprintable
