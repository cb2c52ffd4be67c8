-- Closed tables and the step that closes a table over one middle boundary (the Floyd-Warshall pass). Definitions only.
use Rattle.std.specs.Prelude.{◌≡◌, ℕ, suc, ◌≤◌, ◌<◌, ℤ, pos, ◌+ℤ◌, ◌≤ℤ◌}
use Rattle.integers.specs.Parts.{min_ℤ}
use Rattle.network.specs.Network.{Weights, Potential, Feasible}

-- every entry becomes the smaller of itself and the way over the middle boundary m
unfoldable pub step : ℕ → Weights → Weights
step m P a b = min_ℤ (P a b) (P a m +ℤ P m b)

-- no way over a middle boundary below m is shorter than the entry
abbrev pub ClosedBelow : ℕ → ℕ → Weights → Type 0
ClosedBelow top m P = (k a b : ℕ) → k < m → a ≤ top → b ≤ top → P a b ≤ℤ (P a k +ℤ P k b)

-- what the pass keeps: P is the table of the weights d with the middle boundaries below m done, and no diagonal entry fell below 0
pub record Level (top : ℕ) (d : Weights) (m : ℕ) (P : Weights) : Type 0 where
  pub closed : ClosedBelow top m P
  pub diagonal : (a : ℕ) → a ≤ top → pos 0 ≤ℤ P a a
  pub below : (a b : ℕ) → a ≤ top → b ≤ top → P a b ≤ℤ d a b
  pub sound : (z : Potential) → Feasible top d z → Feasible top P z

-- a finished table D of the weights d
pub record Finished (top : ℕ) (d D : Weights) : Type 0 where
  pub closed : ClosedBelow top (suc top) D
  pub diagonal : (a : ℕ) → a ≤ top → D a a ≡ pos 0
  pub below : (a b : ℕ) → a ≤ top → b ≤ top → D a b ≤ℤ d a b

-- the potential that rises by k from a to b, as high as a finished table D lets it
unfoldable pub between : Weights → ℕ → ℕ → ℤ → Potential
between D a b k v = min_ℤ (D a v) (k +ℤ D b v)
