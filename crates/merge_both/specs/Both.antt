-- Two sheets in one set of lists, the first's numbers in front, and what asking about both comes to. Definitions only.
use Rattle.std.specs.Prelude.{ℕ, ◌+◌, ◌≤◌, ◌≡◌, List, ◌++◌, map, length, take, Result, IfOk}
use Rattle.questions.specs.Questions.{no, all_yes, first_no}
use Rattle.questions.specs.declared.Refusal.{Refusal}
use Rattle.sheet.specs.Sizes.{max_units, max_rules}
use Rattle.sheet.specs.Sheet.{Rule, WrittenSheet, loaders}
use Rattle.sheet.specs.declared.Sheet.{Sheet}
use Rattle.read_questions.specs.Reading.{concluded}
use Rattle.merge_sheets.specs.Merge.{merged}
use Rattle.merge_rules.specs.Columns.{Columns, AtFront}
use Rattle.merge_questions.specs.Merging.{join_questions, blamed, joined_reply, joined_blame}
use Rattle.merge_questions.specs.declared.Blamed.{Blamed}

-- a refusal with the sheet that it is of, once the first has passed its own questions
abbrev pub blamed_by : Refusal → Blamed
blamed_by f = record { refusal = f; sheet = blamed all_yes (no f.number f.line) }

-- the numbers of a sheet that was read
pub record Counted (s : Sheet) (w : WrittenSheet) : Type 0 where
  pub span : s.span ≡ w.span
  pub units : s.units ≡ length w.units
  pub rules : s.rules ≡ length w.rules
  pub few_units : s.units ≤ max_units
  pub few_rules : s.rules ≤ max_rules

-- so many rules at the front of four columns
pub record RulesIn (rs : List Rule) (n : ℕ) (c : Columns) : Type 0 where
  pub from : take n c.from ≡ map (λ r. r.from) rs
  pub to : take n c.to ≡ map (λ r. r.to) rs
  pub low : take n c.low ≡ map (λ r. r.low) rs
  pub high : take n c.high ≡ map (λ r. r.high) rs

-- four columns have places for so many rules
pub record Rooms (n : ℕ) (c : Columns) : Type 0 where
  pub from : n ≤ length c.from
  pub to : n ≤ length c.to
  pub low : n ≤ length c.low
  pub high : n ≤ length c.high

-- two sheets that were read: the loader numbers, then the rules in columns, and columns for the combined rules
pub record BothRead (wa wb : WrittenSheet) (a b : Sheet) (numbers : List ℕ) (given room : Columns) : Type 0 where
  pub first : Counted a wa
  pub second : Counted b wb
  pub loader : take (a.units + b.units) numbers ≡ loaders wa ++ loaders wb
  pub rules : RulesIn (wa.rules ++ wb.rules) (a.rules + b.rules) given
  pub rooms : Rooms (a.rules + b.rules) room

-- of a merged sheet: its numbers of units and rules, and the combined rules at the front of the columns
pub record RulesLeft (s : Sheet) (wa wb : WrittenSheet) (before now : Columns) : Type 0 where
  pub units : s.units ≡ length wa.units + length wb.units
  pub at_front : AtFront (merged wa wb).rules s.rules before now

abbrev pub LeavesRules : Result Sheet Blamed → WrittenSheet → WrittenSheet → Columns → Columns → Type 0
LeavesRules r wa wb before now = IfOk r (λ s. RulesLeft s wa wb before now)

-- the reply, which sheet it blames, and what is left in the columns
pub record AsksBoth (r : Result Sheet Blamed) (wa wb : WrittenSheet) (two : List ℕ) (before now : Columns) : Type 0 where
  pub reply : joined_reply r ≡ concluded (first_no (join_questions two wa wb)) (merged wa wb)
  pub blames : joined_blame r ≡ blamed all_yes (first_no (join_questions two wa wb))
  pub left : LeavesRules r wa wb before now
