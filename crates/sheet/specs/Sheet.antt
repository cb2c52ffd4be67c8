-- A sheet, its lawful plans, what is least and greatest over them, the printed plan, the limits of steps and the rings.
-- Definitions only, by plain enumeration: nothing here knows of tables, potentials or deadlines. docs/RULES.md; Chabert and Demassey, definitions 1 and 2.
-- Units and rules count from 0 here, in the order of their lines; a plan is the list of the units' slots.
use Rattle.std.specs.Prelude.{Bool, true, false, ◌&&◌, ◌||◌, not, cond, List, [], ◌∷◌, map, ℕ, suc, leb, ltb, eqb, length, get_or, ℤ, pos, neg_ℤ}
use Rattle.slots.specs.Slots.{Slot, Boundary, slot_after, slot_before}
use Rattle.lists.specs.Lists.{run, from_to, within, every, keep, how_many, joined, sum_of, smallest, largest, least, greatest}
use Rattle.network.specs.Network.{around, is_negative_cycle}
use Rattle.sheet.specs.Sizes.{top_of}

-- ---- a sheet

-- first and last slot, both included
pub record Window : Type 0 where
  pub first : Slot
  pub last : Slot

-- how few and how many deliveries the stretch of slots `from` to `to` may hold
pub record Rule : Type 0 where
  pub from : Slot
  pub to : Slot
  pub low : ℕ
  pub high : ℕ

-- what a plan must keep to: the units' windows, and the rules
pub record Sheet : Type 0 where
  pub span : ℕ
  pub units : List Window
  pub rules : List Rule

-- a unit as it is written: its loader number and its window (`Unit` is the prover's own word)
pub record SheetUnit : Type 0 where
  pub loader : ℕ
  pub window : Window

-- a sheet as it is written
pub record WrittenSheet : Type 0 where
  pub span : ℕ
  pub units : List SheetUnit
  pub rules : List Rule

-- what its plans must keep to; no plan looks at a loader number
abbrev pub constraints : WrittenSheet → Sheet
constraints w = record { span = w.span; units = map (λ u. u.window) w.units; rules = w.rules }

-- the loader numbers, in order of lines
abbrev pub loaders : WrittenSheet → List ℕ
loaders w = map (λ u. u.loader) w.units

-- the top boundary, where the carried place ends
unfoldable pub top : Sheet → Boundary
top s = top_of s.span

-- how many boundaries a sheet has
abbrev pub boundaries : Sheet → ℕ
boundaries s = suc (top s)

-- ---- lawful plans

-- a plan's count in the slots f to t
abbrev pub count_in : Slot → Slot → List Slot → ℕ
count_in f t plan = how_many (within f t) plan

-- every plan that gives each unit a slot of its window
abbrev pub assignments : List Window → List (List Slot)
assignments [] = [] ∷ []
assignments (w ∷ ws) =
    let rest = assignments ws in
    joined (map (λ slot. map (λ plan. slot ∷ plan) rest) (from_to w.first w.last))

-- each unit has one slot, and it lies in the unit's window
abbrev pub in_windows : List Window → List Slot → Bool
in_windows [] [] = true
in_windows [] (x ∷ xs) = false
in_windows (w ∷ ws) [] = false
in_windows (w ∷ ws) (x ∷ xs) = within w.first w.last x && in_windows ws xs

abbrev pub obeys : List Slot → Rule → Bool
obeys plan r = within r.low r.high (count_in r.from r.to plan)

unfoldable pub lawful : Sheet → List Slot → Bool
lawful s plan = in_windows s.units plan && every (obeys plan) s.rules

unfoldable pub lawful_plans : Sheet → List (List Slot)
lawful_plans s = keep (lawful s) (assignments s.units)

-- ---- least and greatest over lawful plans

-- of a stretch's count
unfoldable pub least_in : Sheet → Slot → Slot → ℕ
least_in s f t = least (map (count_in f t) (lawful_plans s))

unfoldable pub greatest_in : Sheet → Slot → Slot → ℕ
greatest_in s f t = greatest (map (count_in f t) (lawful_plans s))

-- of unit j's slot
unfoldable pub earliest : Sheet → ℕ → Slot
earliest s j = least (map (λ plan. get_or plan j 0) (lawful_plans s))

unfoldable pub latest : Sheet → ℕ → Slot
latest s j = greatest (map (λ plan. get_or plan j 0) (lawful_plans s))

-- the places of the units, in line order
abbrev pub unit_places : Sheet → List ℕ
unit_places s = run 0 (length s.units)

-- the narrowed windows' two ends, unit by unit
unfoldable pub earliest_slots : Sheet → List Slot
earliest_slots s = map (earliest s) (unit_places s)

unfoldable pub latest_slots : Sheet → List Slot
latest_slots s = map (latest s) (unit_places s)

-- ---- the printed plan

-- by the end of every slot, the carried place included, no lawful plan has more deliveries
unfoldable pub soonest : Sheet → List Slot → Bool
soonest s plan = every (λ t. eqb (count_in 1 t plan) (greatest_in s 1 t)) (from_to 1 (slot_before (top s)))

abbrev pub no_window : Window
no_window = record { first = 0; last = 0 }

abbrev pub no_rule : Rule
no_rule = record { from = 0; to = 0; low = 0; high = 0 }

abbrev pub no_unit : SheetUnit
no_unit = record { loader = 0; window = no_window }

-- the order of seats: unit i's window closes earlier than unit j's, or at the same slot with i the earlier line
abbrev pub comes_before : Sheet → ℕ → ℕ → Bool
comes_before s i j =
    let wi = get_or s.units i no_window in
    let wj = get_or s.units j no_window in
    ltb wi.last wj.last || (eqb wi.last wj.last && ltb i j)

-- If unit j sits in a later slot than unit i, and j's window was already open in i's slot, then i comes before j.
abbrev pub seat_fair : Sheet → List Slot → ℕ → ℕ → Bool
seat_fair s plan i j =
    let wj = get_or s.units j no_window in
    let xi = get_or plan i 0 in
    let xj = get_or plan j 0 in
    not (ltb xi xj && leb wj.first xi) || comes_before s i j

-- the seat property
unfoldable pub fair : Sheet → List Slot → Bool
fair s plan = every (λ i. every (seat_fair s plan i) (unit_places s)) (unit_places s)

unfoldable pub printed_plans : Sheet → List (List Slot)
printed_plans s = keep (λ plan. soonest s plan && fair s plan) (lawful_plans s)

abbrev pub head_or {ℓ} : {A : Type ℓ} → A → List A → A
head_or d [] = d
head_or d (x ∷ xs) = x

-- the one that there is, where some plan is lawful
unfoldable pub printed_plan : Sheet → List Slot
printed_plan s = head_or [] (printed_plans s)

-- ---- how far seating looks

-- the place of unit j, from 1, among all units in the order of seats
abbrev pub order_place : Sheet → ℕ → ℕ
order_place s j = suc (how_many (λ i. comes_before s i j) (unit_places s))

-- the place of the last unit in that order that the plan has in slot t; 0 where it has none there
abbrev pub last_seated : Sheet → List Slot → Slot → ℕ
last_seated s plan t = greatest (map (order_place s) (keep (λ j. eqb (get_or plan j 0) t) (unit_places s)))

-- how many units seating looks at: the sum of these places over all slots of the printed plan, the carried place included
unfoldable pub looked : Sheet → ℕ
looked s = sum_of (map (last_seated s (printed_plan s)) (from_to 1 (slot_before (top s))))

-- ---- the limits of steps

-- the rule's stretch is exactly the slots f to t
abbrev pub on_stretch : Slot → Slot → Rule → Bool
on_stretch f t r = eqb r.from f && eqb r.to t

-- the window lies inside the slots f to t
abbrev pub inside_of : Slot → Slot → Window → Bool
inside_of f t w = leb f w.first && leb w.last t

-- the smallest of n and the highs of all rules on the stretch
unfoldable pub at_most : Sheet → Slot → Slot → ℕ
at_most s f t = smallest (length s.units) (map (λ r. r.high) (keep (on_stretch f t) s.rules))

-- the largest of the number of windows inside the stretch and the lows of all rules on it
unfoldable pub at_least : Sheet → Slot → Slot → ℕ
at_least s f t = largest (how_many (inside_of f t) s.units) (map (λ r. r.low) (keep (on_stretch f t) s.rules))

-- the limit of the step from boundary a to boundary b
unfoldable pub limit : Sheet → Boundary → Boundary → ℤ
limit s a b =
    cond (ltb a b) (pos (at_most s (slot_after a) (slot_before b))) (cond (ltb b a) (neg_ℤ (pos (at_least s (slot_after b) (slot_before a)))) (pos 0))

-- ---- rings (the field's negative cycles) of the sheet's limits

unfoldable pub is_ring : Sheet → List Boundary → Bool
is_ring s ring = is_negative_cycle (top s) (limit s) ring

unfoldable pub ring_sum : Sheet → List Boundary → ℤ
ring_sum s ring = around (limit s) ring

-- minus the ring's sum
unfoldable pub shortfall : Sheet → List Boundary → ℤ
shortfall s ring = neg_ℤ (ring_sum s ring)
