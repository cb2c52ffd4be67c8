-- What the lines of an answer's page say of its sheet, in the words of lawful plans: the user's second and third conditions, of a page. Definitions only.
-- `ls` are the lines as they are read back from the page's bytes (PageLines.antt).
use Rattle.std.specs.Prelude.{◌≡◌, ◌↔◌, List, [], ◌∷◌, ◌++◌, map, ℕ, ◌≤◌, ◌<◌, T, length, get_or}
use Rattle.lists.specs.Lists.{from_to}
use Rattle.lists.specs.Members.{In}
use Rattle.slots.specs.Slots.{Slot, Boundary, slot_before}
use Rattle.sheet.specs.Sizes.{carried_place}
use Rattle.sheet.specs.Sheet.{Sheet, top, unit_places, lawful, fair, count_in, least_in, greatest_in, earliest, latest, limit, is_ring}
use Rattle.pages.specs.Page.{shortfall_of}
use Rattle.pages.specs.PageLines.{Said, plan, unit, carried, fits, none, shortfall, unit_lines_with, unit_said, slot_said, range_said, ring_said}

-- The lines of the plan x, all of them. The head has the number of all units. Then a line for each unit, in order: its loader number, its slot in x or, where
-- that is past the span, that it is carried, and the earliest and the latest slot that it has in any lawful plan. Then a line for each slot of the span, in
-- order: how many of these very lines give a unit this slot, and the least and the greatest count of the slot over lawful plans. `ks` are the units' loader
-- numbers.
abbrev pub plan_lines : List ℕ → Sheet → List Slot → List Said → List Said
plan_lines ks s x ls =
    plan (length s.units)
    ∷ (map (unit_said s.span (λ j. get_or ks j 0) (λ j. get_or x j 0) (earliest s) (latest s)) (unit_places s)
    ++ map (slot_said (λ t. unit_lines_with t ls) (λ t. least_in s t t) (λ t. greatest_in s t t)) (from_to 1 s.span))

-- A line with the loader number k and the narrowed window e to f is one unit's: k is the loader number of the unit at this place and of no other unit, t is
-- its slot in the plan x, and e and f are its earliest and its latest slot. The line of a carried unit has no t: its slot is the carried place.
pub record UnitOf (ks : List ℕ) (s : Sheet) (x : List Slot) (k t e f : ℕ) : Type 0 where
  pub place : ℕ
  pub inside : place < length s.units
  pub number : get_or ks place 0 ≡ k
  pub alone : (i : ℕ) → i < length s.units → get_or ks i 0 ≡ k → i ≡ place
  pub slot : t ≡ get_or x place 0
  pub first : e ≡ earliest s place
  pub last : f ≡ latest s place

-- Of every slot of the span: a number is its count in some lawful plan exactly when it is from the slot's least to its greatest.
abbrev pub RangesHold : Sheet → Type 0
RangesHold s = (t : Slot) → 1 ≤ t → t ≤ s.span → (k : ℕ)
    → ((y : List Slot) × T (lawful s y) × (count_in t t y ≡ k)) ↔ ((least_in s t t ≤ k) × (k ≤ greatest_in s t t))

-- The lines are those of the plan x. Each unit line is one unit's, with a slot of the span; each carried line is one unit's that x has at the carried place.
-- The plan is lawful, has the seat property, and by the end of each slot, and of the carried place, no lawful plan has more deliveries. The slot lines' ranges
-- hold.
pub record PlanPage (ks : List ℕ) (s : Sheet) (x : List Slot) (ls : List Said) : Type 0 where
  pub lines : ls ≡ plan_lines ks s x ls
  pub units : (k t e f : ℕ) → In (unit k t e f) ls → UnitOf ks s x k t e f × (1 ≤ t) × (t ≤ s.span)
  pub carries : (k e f : ℕ) → In (carried k e f) ls → UnitOf ks s x k (carried_place s.span) e f
  pub legal : T (lawful s x)
  pub seated : T (fair s x)
  pub soonest : (y : List Slot) → T (lawful s y) → (t : Slot) → 1 ≤ t → t ≤ slot_before (top s) → count_in 1 t y ≤ count_in 1 t x
  pub ranges : RangesHold s

-- The lines of a sheet that fits, all of them: the head with the number of all units, and a line for each slot of the span, in order, with the least and the
-- greatest count of the slot over lawful plans.
abbrev pub fits_lines : Sheet → List Said
fits_lines s = fits (length s.units) ∷ map (range_said (λ t. least_in s t t) (λ t. greatest_in s t t)) (from_to 1 s.span)

-- The lines are those of the sheet, some plan is lawful, and the lines' ranges hold.
pub record FitsPage (s : Sheet) (ls : List Said) : Type 0 where
  pub lines : ls ≡ fits_lines s
  pub some : (x : List Slot) × T (lawful s x)
  pub ranges : RangesHold s

-- The lines of a ring, all of them: the head, a line for each step in order, with the sheet's own limit, and the shortfall.
abbrev pub none_lines : Sheet → List Boundary → List Said
none_lines s ring = none ∷ (ring_said (limit s) ring ++ (shortfall (shortfall_of (limit s) ring) ∷ []))

-- The lines are those of a ring of the sheet's own limits, and no plan is lawful.
pub record NonePage (s : Sheet) (ring : List Boundary) (ls : List Said) : Type 0 where
  pub lines : ls ≡ none_lines s ring
  pub closed : T (is_ring s ring)
  pub unlawful : (x : List Slot) → T (lawful s x) → ⊥
