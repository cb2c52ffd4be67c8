-- What a reader finds on an answer page: its lines, and what each line says. Definitions only, by the words and numbers of each line;
-- nothing here knows how the page was written. What stands on a page before an answer's head is no part of the answer.
use Rattle.std.specs.Prelude.{Bool, false, cond, List, [], ◌∷◌, map, ℕ, ◌-◌, eqb, leb, ltb, neg_ℤ, get_or, take, drop}
use Rattle.lists.specs.Lists.{how_many}
use Rattle.integers.specs.Parts.{up}
use Rattle.slots.specs.Slots.{Slot, Boundary, slot_before, slot_after}
use Rattle.network.specs.Network.{Weights}
use Rattle.forms.specs.Form.{Piece, matches, numbers, value}
use Rattle.forms.specs.Forms.{plan_head_form, unit_line_form, carried_line_form, slot_line_form, fits_head_form, range_line_form}
use Rattle.forms.specs.Forms.{none_head_form, at_most_form, at_least_form, shortfall_form, refused_form}
use Rattle.forms.specs.Lines.{TextLine, lines}

-- what a line says, with its numbers in their order
pub data Said : Type 0 where
  plan : ℕ → Said
  unit : ℕ → ℕ → ℕ → ℕ → Said
  carried : ℕ → ℕ → ℕ → Said
  slot : ℕ → ℕ → ℕ → ℕ → Said
  fits : ℕ → Said
  range : ℕ → ℕ → ℕ → Said
  none : Said
  at_most : ℕ → ℕ → ℕ → Said
  at_least : ℕ → ℕ → ℕ → Said
  shortfall : ℕ → Said
  refused : ℕ → ℕ → Said
  other : Said

-- a form of a line, and what a line of that form says with its numbers 0, 1, ..
pub record Reading : Type 0 where
  pub form : List Piece
  pub says : (ℕ → ℕ) → Said

abbrev pub reading : List Piece → ((ℕ → ℕ) → Said) → Reading
reading f s = record { form = f; says = s }

-- the lines of a page; no line is of two of these forms, since each two of them are the same up to a word where they differ
abbrev pub readings : List Reading
readings =
    reading plan_head_form (λ n. plan (n 0))
    ∷ reading unit_line_form (λ n. unit (n 0) (n 1) (n 2) (n 3))
    ∷ reading carried_line_form (λ n. carried (n 0) (n 1) (n 2))
    ∷ reading slot_line_form (λ n. slot (n 0) (n 1) (n 2) (n 3))
    ∷ reading fits_head_form (λ n. fits (n 0))
    ∷ reading range_line_form (λ n. range (n 0) (n 1) (n 2))
    ∷ reading none_head_form (λ n. none)
    ∷ reading at_most_form (λ n. at_most (n 0) (n 1) (n 2))
    ∷ reading at_least_form (λ n. at_least (n 0) (n 1) (n 2))
    ∷ reading shortfall_form (λ n. shortfall (n 0))
    ∷ reading refused_form (λ n. refused (n 0) (n 1))
    ∷ []

-- what a line says by the first form it has
unfoldable pub read_by : List Reading → List ℕ → Said
read_by [] l = other
read_by (r ∷ rs) l = cond (matches r.form l) (r.says (λ i. get_or (map value (numbers r.form l)) i 0)) (read_by rs l)

abbrev pub read_line : List ℕ → Said
read_line l = read_by readings l

-- what the lines of a text say; without its line feed a line is none of these
abbrev pub said_by : TextLine → Said
said_by l = cond l.ended (read_line l.bytes) other

unfoldable pub read_lines : List ℕ → List Said
read_lines t = map said_by (lines t)

-- the answer that a call wrote on a page: from the place where it began to the place that it left
unfoldable pub answer_on : List ℕ → ℕ → ℕ → List Said
answer_on page at next = read_lines (take (next - at) (drop at page))

-- the unit lines with a slot
abbrev pub is_unit_with : ℕ → Said → Bool
is_unit_with t (plan n) = false
is_unit_with t (unit k x e l) = eqb t x
is_unit_with t (carried k e l) = false
is_unit_with t (slot s c l g) = false
is_unit_with t (fits n) = false
is_unit_with t (range s l g) = false
is_unit_with t none = false
is_unit_with t (at_most v a b) = false
is_unit_with t (at_least v a b) = false
is_unit_with t (shortfall k) = false
is_unit_with t (refused q n) = false
is_unit_with t other = false

-- the number of unit lines with slot t
abbrev pub unit_lines_with : ℕ → List Said → ℕ
unit_lines_with t ls = how_many (is_unit_with t) ls

-- ---- what the lines of a plan are to say: of the unit at place j, with its loader number, its slot and the ends of its narrowed window, and of slot t, with
-- its count and range; a unit whose slot is past the span is carried, and its line has no slot

abbrev pub unit_said : Slot → (ℕ → ℕ) → (ℕ → ℕ) → (ℕ → ℕ) → (ℕ → ℕ) → ℕ → Said
unit_said span loaders slots earliest latest j =
    cond (leb (slots j) span) (unit (loaders j) (slots j) (earliest j) (latest j)) (carried (loaders j) (earliest j) (latest j))

abbrev pub slot_said : (ℕ → ℕ) → (ℕ → ℕ) → (ℕ → ℕ) → ℕ → Said
slot_said count least greatest t = slot t (count t) (least t) (greatest t)

-- ---- what the line of slot t is to say where no plan is shown

abbrev pub range_said : (ℕ → ℕ) → (ℕ → ℕ) → ℕ → Said
range_said least greatest t = range t (least t) (greatest t)

-- ---- what the lines of a ring's steps are to say

abbrev pub step_said : Weights → Boundary → Boundary → Said
step_said d a b =
    cond (ltb a b) (at_most (up (d a b)) (slot_after a) (slot_before b)) (at_least (up (neg_ℤ (d a b))) (slot_after b) (slot_before a))

abbrev pub steps_said : Weights → ℕ → List ℕ → ℕ → List Said
steps_said d a [] e = step_said d a e ∷ []
steps_said d a (b ∷ bs) e = step_said d a b ∷ steps_said d b bs e

abbrev pub ring_said : Weights → List ℕ → List Said
ring_said d [] = []
ring_said d (a ∷ bs) = steps_said d a bs a
