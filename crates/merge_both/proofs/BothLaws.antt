-- From two sheets in one set of lists to the questions about both.
-- Key idea: the parts of the lists that the calls are lent are the two sheets' own numbers, so that what they ask is what is asked of the sheets; and the
-- first no of one list of questions behind another is the first's, or else the second's.
use Prim.Native.Nat.{ℕ, ◌+◌, ◌-◌, ◌≤◌}
use mathlib.Core.Path.{◌≡◌, refl, sym, ap, ap₂, ◌∙◌}
use mathlib.Core.Bool.{◌&&◌, cond}
use mathlib.Core.List.{List, ◌++◌, map}
use native.Mathlib.Omega.{arith}
use lib.Dec.{eqb}
use lib.ListN.{length, take, drop, length-append, length-map}
use lib.Seq.{take_at, drop_at}
use Rattle.questions.specs.Questions.{Verdict, no, all_yes, first_no}
use Rattle.questions.proofs.FirstNoLaws.{first_then}
use Rattle.questions.specs.declared.Refusal.{Refusal}
use Rattle.sheet.specs.Sizes.{max_units}
use Rattle.sheet.specs.Sheet.{Rule, WrittenSheet, loaders}
use Rattle.sheet.specs.Questions.{rules_of}
use Rattle.sheet.specs.declared.Sheet.{Sheet}
use Rattle.read_questions.specs.Reading.{concluded}
use Rattle.merge_sheets.specs.Merge.{merged_rules, merged}
use Rattle.merge_rules.specs.Columns.{Columns, AtFront}
use Rattle.sheet.proofs.WrittenLaws.{rules_back}
use Rattle.merge_questions.specs.Merging.{unit_questions, rule_questions, join_questions, blamed}
use Rattle.std.specs.Prelude.{Ok, Err}
use Rattle.merge_questions.specs.declared.Blamed.{Blamed}
use Rattle.merge_both.specs.Both.{BothRead, AsksBoth, blamed_by}
use Rattle.merge_both.proofs.PartLaws.{both_fit, first_part, second_part}

module _ (wa wb : WrittenSheet) (a b : Sheet) (numbers : List ℕ) (given room : Columns) (h : BothRead wa wb a b numbers given room) where
  -- ---- the loader numbers
  ones_long : length (loaders wa) ≡ a.units
  ones_long = length-map wa.units (λ u. u.loader) ∙ sym h.first.units

  twos_long : length (loaders wb) ≡ b.units
  twos_long = length-map wb.units (λ u. u.loader) ∙ sym h.second.units

  pub numbers_fit : a.units + b.units ≤ length numbers
  numbers_fit = both_fit (loaders wa) (loaders wb) numbers a.units b.units ones_long twos_long h.loader

  pub ones_are : take a.units numbers ≡ loaders wa
  ones_are = first_part (loaders wa) (loaders wb) numbers a.units b.units ones_long twos_long h.loader

  pub twos_are : take (a.units + b.units - a.units) (drop a.units numbers) ≡ loaders wb
  twos_are = second_part (loaders wa) (loaders wb) numbers a.units b.units ones_long twos_long h.loader

  pub units_few : (length (take a.units numbers) ≤ max_units) × (length (take (a.units + b.units - a.units) (drop a.units numbers)) ≤ max_units)
  units_few =
      (omega (arith, ap length ones_are, ones_long, h.first.few_units), omega (arith, ap length twos_are, twos_long, h.second.few_units))

  pub units_asked : (two : List ℕ) → first_no (unit_questions two a.span b.span (take a.units numbers)
      (take (a.units + b.units - a.units) (drop a.units numbers)))
      ≡ first_no (unit_questions two wa.span wb.span (loaders wa) (loaders wb))
  units_asked two = rw (h.first.span, h.second.span, ones_are, twos_are) refl

  -- ---- the rules
  abbrev all : List Rule
  all = wa.rules ++ wb.rules

  abbrev r : ℕ
  r = a.rules + b.rules

  all_long : length all ≡ r
  all_long = omega (arith, length-append wa.rules wb.rules, h.first.rules, h.second.rules)

  -- a column is as long as there are rules
  column_long : (f : Rule → ℕ) (array : List ℕ) → take r array ≡ map f all → length (take r array) ≡ r
  column_long f array e = ap length e ∙ length-map all f ∙ all_long

  pub from_long : length (take r given.from) ≡ r
  from_long = column_long (λ q. q.from) given.from h.rules.from

  pub to_long : length (take r given.to) ≡ r
  to_long = column_long (λ q. q.to) given.to h.rules.to

  pub low_long : length (take r given.low) ≡ r
  low_long = column_long (λ q. q.low) given.low h.rules.low

  pub high_long : length (take r given.high) ≡ r
  high_long = column_long (λ q. q.high) given.high h.rules.high

  pub all_rules : rules_of (take r given.from) (take r given.to) (take r given.low) (take r given.high) ≡ all
  all_rules = rw (h.rules.from, h.rules.to, h.rules.low, h.rules.high) (rules_back all)

  pub rules_asked : (two : List ℕ) (rs : List Rule) → rs ≡ all → first_no (rule_questions two (take a.rules rs) (drop a.rules rs))
      ≡ first_no (rule_questions two wa.rules wb.rules)
  rules_asked two rs e =
      ap (λ (xs : List Rule). first_no (rule_questions two (take a.rules xs) (drop a.rules xs))) e
      ∙ ap₂ (λ (xs ys : List Rule). first_no (rule_questions two xs ys))
      (take_at wa.rules wb.rules a.rules (sym h.first.rules)) (drop_at wa.rules wb.rules a.rules (sym h.first.rules))

  -- ---- what both come to
  module _ (two : List ℕ) where
    abbrev units_ask : Verdict
    units_ask = first_no (unit_questions two wa.span wb.span (loaders wa) (loaders wb))

    abbrev rules_ask : Verdict
    rules_ask = first_no (rule_questions two wa.rules wb.rules)

    module _ (before now : Columns) where
      refused_as : (f : Refusal) → first_no (join_questions two wa wb) ≡ no f.number f.line → AsksBoth (Err (blamed_by f)) wa wb two before now
      refused_as f e =
          record { reply = ap (λ v. concluded v (merged wa wb)) (sym e); blames = ap (blamed all_yes) (sym e); left = tt }

      pub refused_units : (f : Refusal) → units_ask ≡ no f.number f.line → AsksBoth (Err (blamed_by f)) wa wb two before now
      refused_units f e = refused_as f (first_then (unit_questions two wa.span wb.span (loaders wa) (loaders wb)) _ (no f.number f.line) e)

      module _ (passed : units_ask ≡ all_yes) where
        asked_rules : first_no (join_questions two wa wb) ≡ rules_ask
        asked_rules = first_then (unit_questions two wa.span wb.span (loaders wa) (loaders wb)) (rule_questions two wa.rules wb.rules) all_yes passed

        pub refused_rules : (f : Refusal) → rules_ask ≡ no f.number f.line → AsksBoth (Err (blamed_by f)) wa wb two before now
        refused_rules f e = refused_as f (asked_rules ∙ e)

        pub merged_as : (s : Sheet) → s.span ≡ a.span → s.units ≡ a.units + b.units → rules_ask ≡ all_yes
            → AtFront (merged_rules all) s.rules before now → AsksBoth (Ok s) wa wb two before now
        unfolding merged
        merged_as s p u e m =
            let n : s.units ≡ length (wa.units ++ wb.units) = omega (arith, length-append wa.units wb.units, h.first.units, h.second.units) in
            record {
              reply = rw (asked_rules ∙ e) (rw (p ∙ h.first.span, n, m.count) refl);
              blames = ap (blamed all_yes) (sym (asked_rules ∙ e));
              left = record { units = omega (arith, h.first.units, h.second.units); at_front = m };
            }
