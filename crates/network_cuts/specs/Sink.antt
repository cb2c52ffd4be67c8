-- The potential that the decider lowers until it keeps the arcs of a cut, or until none can. Definitions only.
use Rattle.std.specs.Prelude.{◌≡◌, ℕ, zero, suc, ◌+◌, ◌≤◌, pos, ◌+ℤ◌, ◌≤ℤ◌}
use Rattle.integers.specs.Parts.{up, Within}
use Rattle.slots.specs.Slots.{Slot, Boundary, slot_start}
use Rattle.network.specs.Network.{Weights, Potential, Feasible}
use Rattle.network.specs.Closure.{ClosedBelow}
use Rattle.network.specs.Bounds.{max_weight}
use Rattle.network_cuts.specs.Cut.{Keeps}

-- a closed table, with 0 from each boundary to itself, of entries no further from 0 than the largest weight
pub record Closed (top : Boundary) (D : Weights) : Type 0 where
  pub closed : ClosedBelow top (suc top) D
  pub diagonal : (a : Boundary) → a ≤ top → D a a ≡ pos 0
  pub small : (a b : Boundary) → a ≤ top → b ≤ top → Within max_weight (D a b)

-- z is feasible for D and 0 where the window starts, and no feasible potential that keeps the arcs rises more from there
pub record Sunk (top : Boundary) (D E : Weights) (f v l : Slot) (z : Potential) : Type 0 where
  pub feasible : Feasible top D z
  pub start : z (slot_start f) ≡ pos 0
  pub above : (y : Potential) → Feasible top D y → Keeps E f v l y → (c : Boundary) → c ≤ top → y c ≤ℤ (z c +ℤ y (slot_start f))

-- how far z lies above the least that the table D allows, all boundaries below k together
abbrev pub height : Weights → Boundary → Potential → ℕ → ℕ
height D g z zero = 0
height D g z (suc k) = up (z k +ℤ D k g) + height D g z k
