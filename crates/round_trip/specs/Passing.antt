-- Which units and rules the lines of a house can say. Definitions only.
use Rattle.std.specs.Prelude.{ℕ, T}
use Rattle.sheet.specs.Sheet.{Rule, SheetUnit}
use Rattle.sheet.specs.Questions.{rising}
use Rattle.sheet.proofs.WrittenLaws.{FitUnit, FitRule}
use Rattle.forms.specs.declared.House.{House}
use Rattle.read_steps.specs.Steps.{last_place}
use Rattle.round_trip.specs.WrittenContents.{LowKept}

-- a unit and a rule that a house's lines can say
pub record OutUnit (h : House) (span : ℕ) (u : SheetUnit) : Type 0 where
  pub fits : FitUnit span u
  pub inside : T (rising 1 span (last_place h span) u.window.first u.window.last)

pub record OutRule (h : House) (span : ℕ) (r : Rule) : Type 0 where
  pub fits : FitRule span r
  pub low_kept : LowKept h r
