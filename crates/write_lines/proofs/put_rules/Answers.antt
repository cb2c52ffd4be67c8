-- The next line is that of the rule at place j.
use Rattle.std.proofs.Common.{◌≡◌, List, ◌∷◌, map, ℕ, ◌+◌, ◌<◌, ◌≤◌, length, get_or, drop, arith}
use Rattle.forms.specs.declared.House.{House}
use Rattle.sheet.specs.Sheet.{no_rule}
use Rattle.sheet.specs.Questions.{rules_of}
use Rattle.sheet.proofs.QuestionLaws.{rules_of_length, rules_of_at}
use Rattle.sheet_texts.specs.SheetText.{rule_text}
use Rattle.print_bytes.specs.Writing.{Written}
use Rattle.print_bytes.proofs.WritingLaws.{Pending, pending_room, pending_after}
use Rattle.write_entries.specs.Lines.{rule_with, Stretches}
use Rattle.write_lines.specs.LinesLaws.{texts_next, texts_end}
use Rattle.write_lines.proofs.put_rules.Goals as goal

module _ (h : House) (from to low high : List ℕ) (fit : Stretches from to × (length low ≡ length from) × (length high ≡ length from)) where
  rules_length : length (rules_of from to low high) ≡ length from
  rules_length = rules_of_length from to low high fit.0.paired fit.1 fit.2

  module _ {page₀ : List ℕ} {at₀ : ℕ} {whole page : List ℕ} {at : ℕ} (j : ℕ)
      (l : Pending page₀ at₀ whole page at (map (rule_text h) (drop j (rules_of from to low high)))) where
    next : j < length from
        → Pending page₀ at₀ whole page at (rule_text h (rule_with (get_or from j 0) (get_or to j 0) (get_or low j 0) (get_or high j 0))
        ∷ map (rule_text h) (drop (j + 1) (rules_of from to low high)))
    next less =
        texts_next (rule_text h) no_rule (rules_of from to low high) j _ (rules_of_at from to low high fit.0.paired fit.1 fit.2 j less)
        (omega (arith, rules_length)) l

    none : length from ≤ j → Written page₀ at₀ whole page at
    none more = texts_end (rule_text h) no_rule (rules_of from to low high) j (omega (arith, rules_length)) l

pub put_rule-next-requires-clause-room : goal.put_rule-next-requires-clause-room
put_rule-next-requires-clause-room c = pending_room (next _ _ _ _ _ c.requires.stretches _ c.loop-j.invariant c.loop-j-test.true)

pub loop-j-preserved : goal.loop-j-preserved
loop-j-preserved c = pending_after (next _ _ _ _ _ c.requires.stretches _ c.loop-j.invariant c.loop-j-test.true) c.put_rule-next.ensures

pub returns : goal.returns
returns c = none _ _ _ _ _ c.requires.stretches _ c.loop-j.invariant c.loop-j-test.false
