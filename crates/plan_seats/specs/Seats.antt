-- The lists that seating takes, as the sheet and the finished table that they come from, and what it leaves. Definitions only.
use Rattle.std.specs.Prelude.{◌≡◌, Bool, Option, MatchOption, List, ℕ, suc, ◌-◌, ◌≤◌, ◌<◌, length, get_or, replicate, ℤ, pos, ◌≤ℤ◌}
use Rattle.integers.specs.Parts.{up}
use Rattle.slots.specs.Slots.{Slot, Boundary, slot_before}
use Rattle.network.specs.Network.{Weights}
use Rattle.network.specs.Table.{max_boundaries}
use Rattle.sheet.specs.Sizes.{max_units}
use Rattle.sheet.specs.Sheet.{Sheet, top}
use Rattle.sheet.specs.Questions.{windows_of}
use Rattle.plans.specs.Seating.{at, free_open, seat_slots, looks_slots}
use Rattle.plan_order.specs.Sorting.{seat_order}
use Rattle.sheet.specs.Solved.{Solved}

-- the number of seats by boundary b
abbrev pub count_at : List ℤ → Boundary → ℕ
count_at counts b = up (get_or counts b (pos 0))

-- the counts rise from at least 0, boundary after boundary
abbrev pub Rising : List ℤ → Type 0
Rising counts = (b : Boundary) → suc b < length counts → (pos 0 ≤ℤ get_or counts b (pos 0)) × (get_or counts b (pos 0) ≤ℤ get_or counts (suc b) (pos 0))

-- lists that seating can take, and a room that is long enough
pub record Seatable (first last : List ℕ) (counts : List ℤ) (plan : List ℕ) : Type 0 where
  pub lists : length last ≡ length first
  pub units : length first ≤ max_units
  pub room : length first ≤ length plan
  pub slots : (1 ≤ length counts) × (length counts ≤ max_boundaries)
  pub closes : (j : ℕ) → j < length last → at last j < max_boundaries
  pub rising : Rising counts

-- the last slot: the one before the top boundary
abbrev pub last_slot : List ℤ → Slot
last_slot counts = slot_before (length counts - 1)

-- the unit at a place of the order is free and open at slot s
abbrev pub open_at : List ℕ → Slot → List ℕ → List ℕ → ℕ → Bool
open_at first s order plan p = free_open (at plan) (at first) s (at order p)

-- what a search finds: the first place that passes, p, or none where p is the end of the order
abbrev pub FirstOpen : ℕ → ℕ → Option ℕ → Type 0
FirstOpen end p found = MatchOption found (p ≡ end) (λ r. (r < end) × (r ≡ p))

-- all slots take their units in order, in a plan where some may have seats already
abbrev pub seats_into : List ℕ → List ℤ → List ℕ → List ℕ → List ℕ
seats_into first counts order plan = seat_slots (at first) (count_at counts) order 0 (last_slot counts) plan

-- and in a plan where all are free
abbrev pub seats_by : List ℕ → List ℤ → List ℕ → List ℕ
seats_by first counts order = seats_into first counts order (replicate (length first) 0)

-- the whole plan
unfoldable pub seats_from : List ℕ → List ℕ → List ℤ → List ℕ
seats_from first last counts = seats_by first counts (seat_order last (replicate (length first) 0))

-- ---- and how many units they look at

abbrev pub looks_into : List ℕ → List ℤ → List ℕ → List ℕ → ℕ
looks_into first counts order plan = looks_slots (at first) (count_at counts) order 0 (last_slot counts) plan

abbrev pub looks_by : List ℕ → List ℤ → List ℕ → ℕ
looks_by first counts order = looks_into first counts order (replicate (length first) 0)

unfoldable pub looks_from : List ℕ → List ℕ → List ℤ → ℕ
looks_from first last counts = looks_by first counts (seat_order last (replicate (length first) 0))

-- the lists are the units of s, and row 0 of its finished table D
pub record RowOf (s : Sheet) (D : Weights) (first last : List ℕ) (counts : List ℤ) : Type 0 where
  pub solved : Solved s D
  pub units : s.units ≡ windows_of first last
  pub slots : length counts ≡ suc (top s)
  pub row : (b : Boundary) → b ≤ top s → get_or counts b (pos 0) ≡ D 0 b
