-- Boundaries of a list, none twice, and a negative cycle wherever it starts. Definitions only.
use Rattle.std.specs.Prelude.{List, [], ◌∷◌, ℕ, ◌≤◌, length, pos, ◌<ℤ◌}
use Rattle.lists.specs.Members.{In}
use Rattle.network.specs.Network.{Weights, around}

-- every boundary of the list is one of those up to top
abbrev pub Upto : ℕ → List ℕ → Type 0
Upto top [] = Unit {0}
Upto top (b ∷ bs) = (b ≤ top) × Upto top bs

-- no boundary stands in the list twice
abbrev pub Distinct : List ℕ → Type 0
Distinct [] = Unit {0}
Distinct (a ∷ bs) = (In a bs → ⊥) × Distinct bs

-- two or more boundaries, none twice, whose weights around add up to less than 0
pub record Cycle (top : ℕ) (d : Weights) (c : List ℕ) : Type 0 where
  pub long : 2 ≤ length c
  pub upto : Upto top c
  pub apart : Distinct c
  pub negative : around d c <ℤ pos 0
