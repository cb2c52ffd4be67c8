-- The cuts of the units' windows, from above and from below. Definitions only.
use Rattle.std.specs.Prelude.{List, ℕ, ◌-◌, ◌<◌, length, get_or, ℤ}
use Rattle.lists.specs.Values.{Filled}
use Rattle.network.specs.Table.{entry}
use Rattle.network_cuts.specs.Cut.{Admits, LeastCut}
use Rattle.network_cuts.specs.Decider.{into, AdmitsAt, LeastCutAt}
use Rattle.plan_marks.specs.declared.Side.{Side}
use Rattle.plan_marks.specs.Marks.{seen, seen_at}
use Rattle.plan_arcs.specs.Arcs.{mirrored}

-- each unit's slot is an admitted cut of its window
abbrev pub Admitted : Side → ℕ → List ℤ → List ℤ → List ℕ → List ℕ → List ℕ → Type 0
Admitted side w d m opens closes plan =
    (j : ℕ) → j < length opens → AdmitsAt w d m (seen_at side w opens j) (seen_at side w plan j) (seen_at side w closes j)

-- the first n places of a list are as P says, and the others as they were
pub record Prefixed (n : ℕ) (P : ℕ → ℕ → Type 0) (xs xs' : List ℕ) : Type 0 where
  pub value : ℕ → ℕ
  pub each : (j : ℕ) → j < n → P j (value j)
  pub filled : Filled value n xs xs'

-- each unit's least cut
abbrev pub LeastCuts : Side → ℕ → List ℤ → List ℤ → List ℕ → List ℕ → List ℕ → List ℕ → Type 0
LeastCuts side w d m opens closes out out' =
    Prefixed (length opens) (λ j v. LeastCutAt w d m (seen_at side w opens j) (seen_at side w closes j) (seen side w v)) out out'

-- ---- cuts from below, as cuts from above in the network seen from its end

-- each unit's window f..l may be cut to v..l, where v is its slot
abbrev pub AdmittedLate : ℕ → List ℤ → List ℤ → List ℕ → List ℕ → List ℕ → Type 0
AdmittedLate w d m first last plan = (j : ℕ) → j < length first
    → Admits (w - 1) (mirrored (w - 1) (entry w d)) (mirrored (w - 1) (into w m)) (w - get_or last j 0) (w - get_or plan j 0) (w - get_or first j 0)

-- the greatest such cut of each unit's window
abbrev pub GreatestCuts : ℕ → List ℤ → List ℤ → List ℕ → List ℕ → List ℕ → List ℕ → Type 0
GreatestCuts w d m first last out out' = Prefixed (length first)
    (λ j v. LeastCut (w - 1) (mirrored (w - 1) (entry w d)) (mirrored (w - 1) (into w m)) (w - get_or last j 0) (w - get_or first j 0) (w - v)) out out'
