-- Seats by deadline: slot after slot takes the units that close first among those open and without a seat. Definitions only.
-- Units count from 0. Windows are functions of the unit, and z b is the number of seats by boundary b.
-- A plan is the list of the units' slots, 0 where a unit is still free.
use Rattle.std.specs.Prelude.{◌≡◌, Bool, ◌&&◌, ◌||◌, cond, List, [], ◌∷◌, ℕ, zero, suc, ◌+◌, ◌-◌, ◌≤◌, ◌<◌, ltb, leb, eqb, length, get_or, set, replicate}
use Rattle.lists.specs.Counts.{count}
use Rattle.slots.specs.Slots.{Slot, Boundary, slot_end, slot_after}

abbrev pub at : List ℕ → ℕ → ℕ
at xs j = get_or xs j 0

-- ---- the order of seats

-- unit i comes before unit j: its window closes earlier, or at the same slot with i the earlier line
pub record Before (last : ℕ → ℕ) (i j : ℕ) : Type 0 where
  pub closes : last i ≤ last j
  pub tie : last j ≤ last i → i < j

-- the same as a test
abbrev pub sooner : (ℕ → ℕ) → ℕ → ℕ → Bool
sooner last i j = ltb (last i) (last j) || (eqb (last i) (last j) && ltb i j)

-- how many of the n units come before unit j
unfoldable pub rank : (ℕ → ℕ) → ℕ → ℕ → ℕ
rank last n j = count n (λ i. sooner last i j)

-- the list with the first j of n units written to the places of their ranks
unfoldable pub by_rank : (ℕ → ℕ) → ℕ → ℕ → List ℕ → List ℕ
by_rank last n zero order = order
by_rank last n (suc j) order = set (by_rank last n j order) (rank last n j) j

-- the list of all units below n, each before the next ones
pub record InOrder (n : ℕ) (last : ℕ → ℕ) (order : List ℕ) : Type 0 where
  pub size : length order ≡ n
  pub units : (p : ℕ) → p < n → at order p < n
  pub sorted : (p q : ℕ) → p < q → q < n → Before last (at order p) (at order q)
  pub all : (j : ℕ) → j < n → (p : ℕ) × (p < n) × (at order p ≡ j)

-- ---- seating

-- without a seat, and its window is open at slot s
abbrev pub free_open : (ℕ → Slot) → (ℕ → Slot) → Slot → ℕ → Bool
free_open x first s j = eqb (x j) 0 && leb (first j) s

-- slot s takes the first k of the units that are free and open, in the order given
unfoldable pub seat_slot : (ℕ → Slot) → Slot → List ℕ → ℕ → List Slot → List Slot
seat_slot first s [] k plan = plan
seat_slot first s (u ∷ us) zero plan = plan
seat_slot first s (u ∷ us) (suc k) plan =
    cond (free_open (at plan) first s u) (seat_slot first s us k (set plan u s)) (seat_slot first s us (suc k) plan)

-- the m slots after boundary b, one after the other: each takes as many units as z rises over it
unfoldable pub seat_slots : (ℕ → Slot) → (Boundary → ℕ) → List ℕ → Boundary → ℕ → List Slot → List Slot
seat_slots first z order b zero plan = plan
seat_slots first z order b (suc m) plan =
    let s = slot_after b in
    seat_slots first z order (slot_end s) m (seat_slot first s order (z (slot_end s) - z b) plan)

-- the whole plan: the units in order, and every slot up to the top boundary
unfoldable pub seats_of : ℕ → Boundary → (ℕ → Slot) → (ℕ → Slot) → (Boundary → ℕ) → List Slot
seats_of n top first last z = seat_slots first z (by_rank last n n (replicate n 0)) 0 top (replicate n 0)

-- ---- how many units it looks at

-- slot s, until it has its k units: it passes those that are seated or not open
unfoldable pub looks : (ℕ → Slot) → Slot → List ℕ → ℕ → List Slot → ℕ
looks first s [] k plan = 0
looks first s (u ∷ us) zero plan = 0
looks first s (u ∷ us) (suc k) plan =
    suc (cond (free_open (at plan) first s u) (looks first s us k (set plan u s)) (looks first s us (suc k) plan))

-- the m slots after boundary b, each from the front of the order
unfoldable pub looks_slots : (ℕ → Slot) → (Boundary → ℕ) → List ℕ → Boundary → ℕ → List Slot → ℕ
looks_slots first z order b zero plan = 0
looks_slots first z order b (suc m) plan =
    let s = slot_after b in
    let k = z (slot_end s) - z b in
    looks first s order k plan + looks_slots first z order (slot_end s) m (seat_slot first s order k plan)

-- all slots
unfoldable pub looks_of : ℕ → Boundary → (ℕ → Slot) → (ℕ → Slot) → (Boundary → ℕ) → ℕ
looks_of n top first last z = looks_slots first z (by_rank last n n (replicate n 0)) 0 top (replicate n 0)

-- ---- when it succeeds

-- the window lies between the boundaries a and b
abbrev pub inside : (ℕ → Slot) → (ℕ → Slot) → Boundary → Boundary → ℕ → Bool
inside first last a b j = ltb a (slot_end (first j)) && leb (slot_end (last j)) b

-- the counts z rise from 0 to n, and over each stretch by at least the number of windows inside it
pub record Problem (n : ℕ) (top : Boundary) (first last : ℕ → Slot) (z : Boundary → ℕ) : Type 0 where
  pub window : (j : ℕ) → j < n → (1 ≤ first j) × (first j ≤ last j) × (slot_end (last j) ≤ top)
  pub starts : z 0 ≡ 0
  pub rising : (a b : Boundary) → a ≤ b → b ≤ top → z a ≤ z b
  pub total : z top ≡ n
  pub room : (a b : Boundary) → a ≤ top → b ≤ top → count n (inside first last a b) ≤ z b - z a

-- has a seat by boundary b
abbrev pub seated_by : (ℕ → Slot) → Boundary → ℕ → Bool
seated_by x b j = ltb 0 (x j) && leb (slot_end (x j)) b

-- every unit has a seat in its window, z counts the seats, and of two units the one that comes first is seated first where both are open
pub record Complete (n : ℕ) (top : Boundary) (first last : ℕ → Slot) (z : Boundary → ℕ) (x : ℕ → Slot) : Type 0 where
  pub seated : (j : ℕ) → j < n → (first j ≤ x j) × (x j ≤ last j)
  pub counts : (b : Boundary) → b ≤ top → count n (seated_by x b) ≡ z b
  pub fair : (i j : ℕ) → i < n → j < n → x i < x j → first j ≤ x i → Before last i j
