-- The decider's steps over lists. Definitions only.
-- A table's rows run over w boundaries, 0 to w - 1; `into w m` reads arcs that are listed by the boundary they lead into.
use Rattle.std.specs.Prelude.{◌≡◌, Bool, true, false, List, ℕ, suc, ◌+◌, ◌-◌, ◌*◌, ◌≤◌, ◌<◌, length, get_or, ℤ, pos, ◌+ℤ◌, ◌≤ℤ◌}
use Rattle.integers.specs.Parts.{Within}
use Rattle.slots.specs.Slots.{Slot, Boundary, slot_end, slot_start}
use Rattle.network.specs.Network.{Weights, Potential}
use Rattle.network.specs.Table.{max_boundaries, entry}
use Rattle.network.specs.Bounds.{max_weight}
use Rattle.network_cuts.specs.Cut.{Admits, LeastCut}
use Rattle.network_cuts.specs.Sink.{Closed, Sunk, height}
use Rattle.network_cuts.specs.declared.Settled.{Settled}
use Rattle.network_cuts.specs.declared.Settled.TheVariants.{Still, Lower, Lost}
use Rattle.network_cuts.specs.declared.CutWindow.{CutWindow}

abbrev pub value_at : List ℤ → Potential
value_at z c = get_or z c (pos 0)

abbrev pub into : ℕ → List ℤ → Weights
into w m a b = entry w m b a

-- every number is at most 1000 away from 0
abbrev pub Modest : List ℤ → Type 0
Modest xs = (i : ℕ) → i < length xs → Within 1000 (value_at xs i)

-- r is the sum of two numbers at one place, the least of the first n
pub record LeastSum (n : ℕ) (xs ys : List ℤ) (r : ℤ) : Type 0 where
  pub bound : (i : ℕ) → i < n → r ≤ℤ (value_at xs i +ℤ value_at ys i)
  pub place : ℕ
  pub inside : place < length xs
  pub attained : r ≡ value_at xs place +ℤ value_at ys place

-- the network that cuts are asked of: a closed table, and the arcs that cuts add, one less than weights
pub record CutNetwork (w : ℕ) (d m : List ℤ) : Type 0 where
  pub some : 1 ≤ w
  pub most : w ≤ max_boundaries
  pub size : w * w ≤ length d
  pub size_arcs : w * w ≤ length m
  pub closed : Closed (w - 1) (entry w d)
  pub small : (a b : ℕ) → a < w → b < w → Within (max_weight + 1) (entry w m a b)

-- v cuts the window f..l
abbrev pub Cuts : ℕ → Slot → Slot → Slot → Type 0
Cuts w f v l = (1 ≤ f) × (f ≤ v) × (v < l) × (slot_end l < w)

abbrev pub SunkAt : ℕ → List ℤ → List ℤ → Slot → Slot → Slot → List ℤ → Type 0
SunkAt w d m f v l z = Sunk (w - 1) (entry w d) (into w m) f v l (value_at z)

-- what the decider keeps: z, one number a boundary, is not yet too low
pub record Sinking (w : ℕ) (d m : List ℤ) (f v l : Slot) (z : List ℤ) : Type 0 where
  pub net : CutNetwork w d m
  pub cuts : Cuts w f v l
  pub long : length z ≡ w
  pub sunk : SunkAt w d m f v l z

abbrev pub AdmitsAt : ℕ → List ℤ → List ℤ → Slot → Slot → Slot → Type 0
AdmitsAt w d m f v l = Admits (w - 1) (entry w d) (into w m) f v l

abbrev pub height_at : ℕ → List ℤ → Slot → List ℤ → ℕ
height_at w d f z = height (entry w d) (slot_start f) (value_at z) (suc (w - 1))

-- what lowering z to the arcs into the boundaries from h to k leaves: nothing was to be done, or z fell, or no potential keeps the arcs
abbrev pub Settling : ℕ → List ℤ → List ℤ → Slot → Slot → Slot → Boundary → Boundary → List ℤ → List ℤ → Settled → Type 0
Settling w d m f v l h k z z' Still =
    (z' ≡ z) × ((a b : Boundary) → h ≤ b → b < k → slot_end v ≤ a → a < slot_end l → value_at z b ≤ℤ (value_at z a +ℤ into w m a b))
Settling w d m f v l h k z z' Lower = Sinking w d m f v l z' × (height_at w d f z' < height_at w d f z)
Settling w d m f v l h k z z' Lost = AdmitsAt w d m f v l → ⊥

-- no cut of the window f..l below g is admitted
abbrev pub Barred : ℕ → List ℤ → List ℤ → Slot → Slot → Slot → Type 0
Barred w d m f l g = (u : Slot) → f ≤ u → u < g → AdmitsAt w d m f u l → ⊥

abbrev pub LeastCutAt : ℕ → List ℤ → List ℤ → Slot → Slot → Slot → Type 0
LeastCutAt w d m f l v = LeastCut (w - 1) (entry w d) (into w m) f l v

-- the same of a cut as the code has it
abbrev pub Sinks : CutWindow → List ℤ → Type 0
Sinks c z = Sinking c.w c.d.now c.m.now c.f.0 c.v.0 c.l.0 z

abbrev pub Settles : CutWindow → Boundary → Boundary → List ℤ → List ℤ → Settled → Type 0
Settles c h k z z' r = Settling c.w c.d.now c.m.now c.f.0 c.v.0 c.l.0 h k z z' r

-- a sweep over boundaries says whether z fell
abbrev pub fell : Bool → Settled
fell true = Lower
fell false = Still

-- a flag decides a statement
abbrev pub Decides : Bool → Type 0 → Type 0
Decides true A = A
Decides false A = A → ⊥
