-- What the user's conditions say of a room as a call leaves it, in the words of lawful plans alone. Definitions only; the calls' conditions cite them.
use Rattle.std.specs.Prelude.{◌≡◌, ◌↔◌, List, ℕ, ◌≤◌, ◌<◌, T, length, get_or, ℤ, pos, neg_ℤ, ◌≤ℤ◌}
use Rattle.network.specs.Table.{entry}
use Rattle.slots.specs.Slots.{Slot, Boundary, slot_before, slot_after}
use Rattle.sheet.specs.Sheet.{Sheet, top, boundaries, lawful, count_in}

-- Some assignment meets all windows and all rules.
abbrev pub SomeLawful : Sheet → Type 0
SomeLawful s = (x : List Slot) × T (lawful s x)

-- None does.
abbrev pub NoneLawful : Sheet → Type 0
NoneLawful s = (x : List Slot) → T (lawful s x) → ⊥

-- Each unit's place has the earliest slot that the unit has in any lawful plan,
abbrev pub AllEarliest : Sheet → List Slot → Type 0
AllEarliest s room = (j : ℕ) → j < length s.units
    → ((x : List Slot) → T (lawful s x) → get_or room j 0 ≤ get_or x j 0)
    × ((x : List Slot) × T (lawful s x) × (get_or room j 0 ≡ get_or x j 0))

-- or the latest.
abbrev pub AllLatest : Sheet → List Slot → Type 0
AllLatest s room = (j : ℕ) → j < length s.units
    → ((x : List Slot) → T (lawful s x) → get_or x j 0 ≤ get_or room j 0)
    × ((x : List Slot) × T (lawful s x) × (get_or room j 0 ≡ get_or x j 0))

-- For every stretch, those that end with the carried place included, a whole number is the count of some lawful plan exactly when it is from the least to the
-- greatest in the table.
abbrev pub AllCounts : Sheet → List ℤ → Type 0
AllCounts s table = (a b : Boundary) → a < b → b ≤ top s → (k : ℤ)
    → ((x : List Slot) × T (lawful s x) × (pos (count_in (slot_after a) (slot_before b) x) ≡ k))
    ↔ ((neg_ℤ (entry (boundaries s) table b a) ≤ℤ k) × (k ≤ℤ entry (boundaries s) table a b))

-- By the end of each slot, the carried place included, no lawful plan has more deliveries than this one.
abbrev pub Soonest : Sheet → List Slot → Type 0
Soonest s plan = (x : List Slot) → T (lawful s x) → (t : Slot) → 1 ≤ t → t ≤ slot_before (top s) → count_in 1 t x ≤ count_in 1 t plan
