-- What seating and narrowing are given: a sheet's units, and its finished table in a room. Definitions only.
use Rattle.std.specs.Prelude.{◌≡◌, List, ◌++◌, ℕ, ◌*◌, ◌≤◌, T, length, drop, ℤ}
use Rattle.network.specs.Table.{entry}
use Rattle.sheet.specs.Sheet.{Sheet, printed_plan, looked, earliest_slots, latest_slots, boundaries}
use Rattle.sheet.specs.Questions.{windows_of, accepted}
use Rattle.sheet.specs.Solved.{Solved}

pub record Ready (s : Sheet) (w : ℕ) (first last : List ℕ) (table : List ℤ) : Type 0 where
  pub sheet : T (accepted s)
  pub units : s.units ≡ windows_of first last
  pub lists : length last ≡ length first
  pub size : boundaries s ≡ w
  pub room : w * w ≤ length table
  pub solved : Solved s (entry w table)

-- what seating and narrowing leave, and how many units seating looked at
pub record PlanFilled (s : Sheet) (plan earliest latest : List ℕ) (looks : ℕ) (planAfter earliestAfter latestAfter : List ℕ) : Type 0 where
  pub seen : looks ≡ looked s
  pub seats : planAfter ≡ printed_plan s ++ drop (length s.units) plan
  pub early : earliestAfter ≡ earliest_slots s ++ drop (length s.units) earliest
  pub late : latestAfter ≡ latest_slots s ++ drop (length s.units) latest
