-- What the parts of the finder of negative cycles ask and leave. Definitions only.
use Rattle.std.specs.Prelude.{◌≡◌, List, ℕ, suc, ◌+◌, ◌-◌, ◌*◌, ◌≤◌, ◌<◌, T, length, get_or, take, drop, ℤ, pos, ◌+ℤ◌, ◌<ℤ◌}
use Rattle.std.specs.Int.{w16}
use Rattle.std.proofs.Common.{SFits}
use Rattle.network.specs.Network.{Potential, Feasible, is_negative_cycle}
use Rattle.network.specs.Table.{max_boundaries, entry}
use Rattle.network.specs.Bounds.{Small}
use Rattle.network_levels.specs.Levels.{level}
use Rattle.network.specs.Cycles.{Cycle}

-- no potential is feasible for the table
abbrev pub Infeasible : ℕ → List ℤ → Type 0
Infeasible w t = (z : Potential) → Feasible (w - 1) (entry w t) z → ⊥

-- what every step leaves, from prev, fits 16 bits
abbrev pub StepsFit : ℕ → List ℤ → List ℤ → Type 0
StepsFit w d prev = (u v : ℕ) → u < w → v < w → SFits w16 (get_or prev u (pos 0) +ℤ entry w d u v)

-- the levels 0 to k stand row by row
abbrev pub LevelsUpTo : ℕ → List ℤ → List ℤ → ℕ → Type 0
LevelsUpTo w d levels k = (i v : ℕ) → i ≤ k → v < w → get_or levels (i * w + v) (pos 0) ≡ level w (entry w d) i v

-- a table of weights whose levels fit 16 bits
pub record Weighed (w : ℕ) (d : List ℤ) : Type 0 where
  pub some : 2 ≤ w
  pub few : w ≤ max_boundaries
  pub room : w * w ≤ length d
  pub small : Small w d
  pub zeros : (a : ℕ) → a < w → entry w d a a ≡ pos 0

-- the same with its levels made
pub record Leveled (w : ℕ) (d levels : List ℤ) : Type 0 where
  pub weights : Weighed w d
  pub long : w * w + w ≤ length levels
  pub levels_are : LevelsUpTo w d levels w

-- v fell at the last level
pub record Fallen (w : ℕ) (d : List ℤ) (v : ℕ) : Type 0 where
  pub inside : v < w
  pub fell : level w (entry w d) (suc (w - 1)) v <ℤ level w (entry w d) (w - 1) v

-- the step from u gives v its level k + 1
pub record Source (w : ℕ) (d : List ℤ) (k v u : ℕ) : Type 0 where
  pub inside : u < w
  pub gives : (level w (entry w d) k u +ℤ entry w d u v) ≡ level w (entry w d) (suc k) v

-- a place of the least number
pub record Lowest (c : List ℕ) (r : ℕ) : Type 0 where
  pub inside : r < length c
  pub least : (j : ℕ) → j < length c → get_or c r 0 ≤ get_or c j 0

-- the stretch of the walk from a to b is a negative cycle
pub record Found (w : ℕ) (d : List ℤ) (a b : ℕ) (walk : List ℕ) : Type 0 where
  pub order : a ≤ b
  pub inside : b ≤ length walk
  pub short : b - a ≤ w
  pub cycle : Cycle (w - 1) (entry w d) (take (b - a) (drop a walk))

-- the first r places of out are a negative cycle of the weights; the others stay
pub record CycleAt (w : ℕ) (d : List ℤ) (before : List ℕ) (r : ℕ) (out : List ℕ) : Type 0 where
  pub short : r ≤ w
  pub cycle : T (is_negative_cycle (w - 1) (entry w d) (take r out))
  pub past : drop r out ≡ drop r before
