-- Cut windows, over networks. Definitions only.
-- A unit's window f..l is cut to f..v. That adds a window to every stretch from a boundary b before the end of slot f to a boundary a from the end of
-- slot v on and before that of slot l, and to no other.
use Rattle.std.specs.Prelude.{◌≤◌, ◌<◌, ◌+ℤ◌, ◌≤ℤ◌}
use Rattle.slots.specs.Slots.{Slot, Boundary, slot_end}
use Rattle.network.specs.Network.{Weights, Potential, Feasible}

-- z keeps the arcs that the cut adds, with the weights E
abbrev pub Keeps : Weights → Slot → Slot → Slot → Potential → Type 0
Keeps E f v l z = (a b : Boundary) → b < slot_end f → slot_end v ≤ a → a < slot_end l → z b ≤ℤ (z a +ℤ E a b)

-- the network of the table D admits the cut: some feasible potential keeps its arcs
pub record Admits (top : Boundary) (D E : Weights) (f v l : Slot) : Type 0 where
  pub potential : Potential
  pub feasible : Feasible top D potential
  pub keeps : Keeps E f v l potential

-- v is the least cut of the window f..l that is admitted
pub record LeastCut (top : Boundary) (D E : Weights) (f l v : Slot) : Type 0 where
  pub inside : (f ≤ v) × (v ≤ l)
  pub admitted : Admits top D E f v l
  pub least : (u : Slot) → f ≤ u → u < v → Admits top D E f u l → ⊥
