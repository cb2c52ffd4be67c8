-- What the reader's code answers for a unit: questions 5, 7, 16 and 9 after the sheet so far, and the chains in which it keeps the unit's loader number.
-- Definitions only.
use Rattle.std.specs.Prelude.{ℕ, ◌+◌, ◌≤◌, ◌≡◌, not, cond, List, length, eqb, ltb, Result, Ok, Err}
use Rattle.sheet.specs.Sizes.{max_slots, max_units}
use Rattle.sheet.specs.Questions.{rising, is_new}
use Rattle.sheet.specs.declared.Sheet.{Sheet}
use Rattle.loaders.specs.Chains.{Linked}
use Rattle.forms.specs.declared.House.{House}
use Rattle.read_steps.specs.Steps.{last_place, counted}
use Rattle.questions.specs.declared.Question.{Question}
use Rattle.questions.specs.declared.Question.TheVariants.{SheetLine, Stretch, Units, Loader}

-- 5, 7, 16 and 9, after units with these loader numbers
abbrev pub unit_step : House → List ℕ → Sheet → ℕ → ℕ → ℕ → Result Sheet Question
unit_step h ks s k f l =
    cond (not (eqb s.span 0)) (cond (rising 1 s.span (last_place h s.span) f l) (cond (is_new ks k)
    (cond (ltb s.units max_units) (Ok (counted s.span (s.units + 1) s.rules)) (Err Units)) (Err Loader)) (Err Stretch)) (Err SheetLine)

-- ---- the chains by which a loader number is searched

-- The sheet so far is within its sizes, its loader numbers are in their chains, and there is room for those of every unit that a sheet may have.
pub record Chained (s : Sheet) (numbers heads nexts : List ℕ) : Type 0 where
  pub few_slots : s.span ≤ max_slots
  pub few_units : s.units ≤ max_units
  pub in_numbers : max_units ≤ length numbers
  pub in_nexts : length nexts ≡ max_units
  pub linked : Linked numbers s.units heads nexts

-- with the form, if it passes
abbrev pub ChainedBy : Result Sheet Question → List ℕ → List ℕ → List ℕ → Type 0
ChainedBy (Err q) numbers heads nexts = Unit {0}
ChainedBy (Ok s) numbers heads nexts = Chained s numbers heads nexts
