-- What a finished pass over a sheet's limits leaves behind, and what seating and narrowing rest on. Definitions only.
use Rattle.std.specs.Prelude.{ℕ, ◌≤◌, ◌<◌, length, get_or}
use Rattle.lists.specs.Members.{In}
use Rattle.network.specs.Network.{Weights, Potential, Feasible}
use Rattle.network.specs.Closure.{Finished}
use Rattle.sheet.specs.Sheet.{Rule, Sheet, no_window, top, limit}

-- windows and stretches lie within the slots and the carried place, first slot first
pub record Valid (s : Sheet) : Type 0 where
  pub spans : 1 ≤ top s
  pub windows : (j : ℕ) → j < length s.units →
      (1 ≤ (get_or s.units j no_window).first) × ((get_or s.units j no_window).first ≤ (get_or s.units j no_window).last)
      × ((get_or s.units j no_window).last ≤ top s)
  pub stretches : (r : Rule) → In r s.rules → (1 ≤ r.from) × (r.from ≤ r.to) × (r.to ≤ top s)

-- D is the finished table of the limits of s: closed, and respected by every feasible potential
pub record Solved (s : Sheet) (D : Weights) : Type 0 where
  pub valid : Valid s
  pub finished : Finished (top s) (limit s) D
  pub sound : (z : Potential) → Feasible (top s) (limit s) z → Feasible (top s) D z
