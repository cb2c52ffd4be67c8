-- What the reader's code answers for a sheet form and for a rule: questions 5 to 8 and 10 after the sheet so far, and where it keeps the form's numbers. A
-- unit's are in `read_unit`. Definitions only.
use Rattle.std.specs.Prelude.{ℕ, ◌+◌, not, cond, List, set, eqb, ltb, Result, Ok, Err}
use Rattle.sheet.specs.Sizes.{max_rules, carried_place}
use Rattle.sheet.specs.Questions.{is_span, is_stretch, is_count}
use Rattle.sheet.specs.declared.Sheet.{Sheet}
use Rattle.forms.specs.declared.House.{House}
use Rattle.forms.specs.declared.House.TheVariants.{Ours, Partner}
use Rattle.questions.specs.declared.Question.{Question}
use Rattle.questions.specs.declared.Question.TheVariants.{SheetLine, Span, Stretch, Counts, Rules}

-- the last place that a window may end in: ours may be carried over into the next wave, a partner's job may not
abbrev pub last_place : House → ℕ → ℕ
last_place Ours span = carried_place span
last_place Partner span = span

-- ---- a form after those of a sheet so far

-- a span, which is 0 before the sheet form, and so many units and rules
abbrev pub counted : ℕ → ℕ → ℕ → Sheet
counted p u r = record { span = p; units = u; rules = r }

-- 5 and 6
abbrev pub sheet_step : Sheet → ℕ → Result Sheet Question
sheet_step s p = cond (eqb s.span 0) (cond (is_span p) (Ok (counted p s.units s.rules)) (Err Span)) (Err SheetLine)

-- 5, 7, 8 and 10
abbrev pub rule_step : Sheet → ℕ → ℕ → ℕ → ℕ → Result Sheet Question
rule_step s a b lo hi =
    cond (not (eqb s.span 0)) (cond (is_stretch s.span a b) (cond (is_count lo hi)
    (cond (ltb s.rules max_rules) (Ok (counted s.span s.units (s.rules + 1))) (Err Rules)) (Err Counts)) (Err Stretch)) (Err SheetLine)

-- an array with a number of the form at its place; a form that is refused adds nothing
abbrev pub put_by : Result Sheet Question → List ℕ → ℕ → ℕ → List ℕ
put_by (Err q) array at x = array
put_by (Ok s) array at x = set array at x
