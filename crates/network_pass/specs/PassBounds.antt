-- How large the numbers of a pass can get. Definitions only.
use Rattle.std.specs.Prelude.{◌≡◌, ◌⊎◌, List, ℕ, ◌≤◌, ◌<◌, ℤ, pos, ◌≤ℤ◌}
use Rattle.network.specs.Network.{Weights}
use Rattle.network.specs.Closure.{Level}
use Rattle.network.specs.Table.{entry}
use Rattle.network.specs.Bounds.{Small}
use Rattle.network_pass.specs.Pass.{finished, pass_from}

-- weights such as a sheet's limits: small, not below 0 forward, 0 from a boundary to itself
pub record Limited (w : ℕ) (t : List ℤ) : Type 0 where
  pub small : Small w t
  pub forward : (a b : ℕ) → a < b → b < w → pos 0 ≤ℤ entry w t a b
  pub diagonal : (a : ℕ) → a < w → entry w t a a ≡ pos 0

-- every table at which one of k middle boundaries from m on begins is small
abbrev pub StaysSmall : ℕ → ℕ → ℕ → List ℤ → Type 0
StaysSmall w m k t = (j : ℕ) (u : List ℤ) → j < k → pass_from j m w t ≡ finished u → Small w u

-- an entry into a boundary that is not yet done is its weight, or no less than an entry of its row into a boundary that is done
abbrev pub Behind : ℕ → Weights → ℕ → Weights → Type 0
Behind top d m P = (a b : ℕ) → a ≤ top → m ≤ b → b ≤ top → (P a b ≡ d a b) ⊎ ((k : ℕ) × (k < m) × (P a k ≤ℤ P a b))

-- what the pass over limits keeps
pub record Held (top : ℕ) (d : Weights) (m : ℕ) (P : Weights) : Type 0 where
  pub level : Level top d m P
  pub behind : Behind top d m P
