-- The answer page, line by line (docs/RULES.md, "Sheets and answers"). Definitions only, over plain lists and functions:
-- the sheet's definitions go in for the plan, the narrowed windows, the least and greatest counts and the limits.
use Rattle.std.specs.Prelude.{◌≡◌, cond, List, [], ◌∷◌, map, ℕ, ◌+◌, ◌*◌, ◌≤◌, ◌<◌, leb, ltb, eqb, length, get_or, ℤ, neg_ℤ}
use Rattle.integers.specs.Parts.{up, dn}
use Rattle.lists.specs.Lists.{run, from_to, how_many, joined}
use Rattle.lists.specs.Values.{list_of}
use Rattle.slots.specs.Slots.{Slot, Boundary, slot_end, slot_start, slot_before, slot_after}
use Rattle.sheet.specs.Sizes.{max_slots, max_units, max_count, boundaries_of}
use Rattle.network.specs.Network.{Weights, around}
use Rattle.network.specs.Table.{entry, max_boundaries}
use Rattle.forms.specs.Words.{text}
use Rattle.forms.specs.Form.{Piece}
use Rattle.print_bytes.specs.Writing.{plan_head, unit_line, carried_line, slot_line, fits_head, range_line, none_head, at_most_line, at_least_line, shortfall_line}
use Rattle.print_bytes.specs.Writing.{three_numbers}

-- ---- the page of a plan

-- the line of a unit with a slot: a unit whose slot is past the span is carried
unfoldable pub placed_line : Slot → ℕ → Slot → Slot → Slot → List ℕ
placed_line span loader slot earliest latest = cond (leb slot span) (unit_line loader slot earliest latest) (carried_line loader earliest latest)

-- the line of the unit at a place of the lists, by its loader number
unfoldable pub unit_line_at : Slot → List ℕ → List ℕ → List ℕ → List ℕ → ℕ → List ℕ
unit_line_at span loaders slots earliest latest j = placed_line span (get_or loaders j 0) (get_or slots j 0) (get_or earliest j 0) (get_or latest j 0)

unfoldable pub unit_lines : Slot → List ℕ → List ℕ → List ℕ → List ℕ → List ℕ
unit_lines span loaders slots earliest latest = joined (map (unit_line_at span loaders slots earliest latest) (run 0 (length slots)))

unfoldable pub slot_line_at : (Slot → ℕ) → (Slot → ℕ) → (Slot → ℕ) → Slot → List ℕ
slot_line_at count least greatest t = slot_line t (count t) (least t) (greatest t)

unfoldable pub slot_lines : Slot → (Slot → ℕ) → (Slot → ℕ) → (Slot → ℕ) → List ℕ
slot_lines span count least greatest = joined (map (slot_line_at count least greatest) (from_to 1 span))

-- the number of units that have a slot
abbrev pub units_at : List Slot → Slot → ℕ
units_at slots t = how_many (eqb t) slots

-- the number of units in each slot and at the carried place, from slot 0 on, which none has
unfoldable pub slot_counts : List ℕ → List ℕ
slot_counts slots = list_of max_boundaries (units_at slots)

-- each unit's loader number, slot or that it is carried, and narrowed window; each slot's count in this plan, and the least and the greatest over lawful plans
unfoldable pub plan_page : ℕ → List ℕ → List ℕ → List ℕ → List ℕ → (ℕ → ℕ) → (ℕ → ℕ) → List ℕ
plan_page span loaders slots earliest latest least greatest =
    joined (plan_head (length slots) ∷ unit_lines span loaders slots earliest latest ∷ slot_lines span (units_at slots) least greatest ∷ [])

-- the least and the greatest count of a slot, from the finished table of w boundaries: a slot is the stretch from its start to its end
abbrev pub least_from : ℕ → List ℤ → Slot → ℕ
least_from w table t = dn (entry w table (slot_end t) (slot_start t))

abbrev pub greatest_from : ℕ → List ℤ → Slot → ℕ
greatest_from w table t = up (entry w table (slot_start t) (slot_end t))

-- a table with the entries of a span's boundaries
pub record TableFits (span : ℕ) (table : List ℤ) : Type 0 where
  pub slots : span ≤ max_slots
  pub entries : boundaries_of span * boundaries_of span ≤ length table

-- loader numbers, a plan, its narrowed windows and a finished table that belong to one sheet
pub record Printable (span : ℕ) (loader plan first last : List ℕ) (table : List ℤ) : Type 0 where
  pub slots : span ≤ max_slots
  pub units : length plan ≤ max_units
  pub loaders : length loader ≡ length plan
  pub earliest : length first ≡ length plan
  pub latest : length last ≡ length plan
  pub entries : boundaries_of span * boundaries_of span ≤ length table

-- the page of a plan, with the least and greatest counts of the finished table
abbrev pub table_page : ℕ → List ℕ → List ℕ → List ℕ → List ℕ → List ℤ → List ℕ
table_page span loaders slots earliest latest table =
    plan_page span loaders slots earliest latest (least_from (boundaries_of span) table) (greatest_from (boundaries_of span) table)

-- ---- the page of a sheet that fits

unfoldable pub range_line_at : (Slot → ℕ) → (Slot → ℕ) → Slot → List ℕ
range_line_at least greatest t = range_line t (least t) (greatest t)

unfoldable pub range_lines : Slot → (Slot → ℕ) → (Slot → ℕ) → List ℕ
range_lines span least greatest = joined (map (range_line_at least greatest) (from_to 1 span))

-- the number of units, and each slot's least and greatest count over lawful plans
unfoldable pub fits_page : ℕ → ℕ → (ℕ → ℕ) → (ℕ → ℕ) → List ℕ
fits_page span units least greatest = joined (fits_head units ∷ range_lines span least greatest ∷ [])

-- ---- the page of a ring

-- the form of a step's line, by its first word
abbrev pub bound_form : List ℕ → List Piece
bound_form bound = three_numbers bound (text " (slots ") (text " ") (text "))")

-- forward, the step's limit; backward, minus its limit
unfoldable pub step_line : Weights → Boundary → Boundary → List ℕ
step_line d a b =
    cond (ltb a b) (at_most_line (up (d a b)) (slot_after a) (slot_before b)) (at_least_line (up (neg_ℤ (d a b))) (slot_after b) (slot_before a))

-- the lines of the steps from a over a list of boundaries and on to e
unfoldable pub step_lines : Weights → Boundary → List Boundary → Boundary → List (List ℕ)
step_lines d a [] e = step_line d a e ∷ []
step_lines d a (b ∷ bs) e = step_line d a b ∷ step_lines d b bs e

-- the lines of a list of boundaries that is closed on itself
unfoldable pub ring_lines : Weights → List Boundary → List (List ℕ)
ring_lines d [] = []
ring_lines d (a ∷ bs) = step_lines d a bs a

-- minus the ring's sum
abbrev pub shortfall_of : Weights → List Boundary → ℕ
shortfall_of d ring = up (neg_ℤ (around d ring))

unfoldable pub none_page : Weights → List Boundary → List ℕ
none_page d ring = joined (none_head ∷ joined (ring_lines d ring) ∷ shortfall_line (shortfall_of d ring) ∷ [])

-- a ring, and the table of the limits of w boundaries, as a call is given them
pub record RingFits (w : ℕ) (limits : List ℤ) (ring : List Boundary) : Type 0 where
  pub boundaries : w ≤ max_boundaries
  pub entries : w * w ≤ length limits
  pub some : 1 ≤ length ring
  pub few : length ring ≤ max_boundaries
  pub inside : (i : ℕ) → i < length ring → get_or ring i 0 < w
  pub small : (a b : ℕ) → a < w → b < w → (up (entry w limits a b) ≤ max_count) × (dn (entry w limits a b) ≤ max_count)

-- ---- how long a page can be

-- the longest head, and the longest line of a unit, of a slot, of a slot's range alone and of a step: loader numbers have at most four digits, the number of
-- units and counts at most three, slots at most two; ` (carried)` is as long as ` (slot 48)`
abbrev pub max_head : ℕ
max_head = 18

abbrev pub max_unit_line : ℕ
max_unit_line = 38

abbrev pub max_slot_line : ℕ
max_slot_line = 38

abbrev pub max_range_line : ℕ
max_range_line = 26

abbrev pub max_step_line : ℕ
max_step_line = 29

-- the head, 300 units and 48 slots
abbrev pub max_page : ℕ
max_page = max_head + (max_units * max_unit_line + max_slots * max_slot_line)

-- the page of a ring: the head, a step for each boundary, and the shortfall, which is no longer than a head
abbrev pub max_ring_page : ℕ
max_ring_page = max_head + (max_boundaries * max_step_line + max_head)
