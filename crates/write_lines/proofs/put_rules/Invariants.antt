-- The lines of the rules from j on are left to write.
use Rattle.std.proofs.Common.{map, drop}
use Rattle.sheet.specs.Questions.{rules_of}
use Rattle.sheet_texts.specs.SheetText.{rule_text, rule_texts}
use Rattle.print_bytes.proofs.WritingLaws.{Pending}
use Rattle.write_lines.proofs.put_rules.Given as goal

abbrev pub invariant-loop-j : goal.invariant-loop-j
invariant-loop-j l =
    let rules = rules_of l.from l.to l.low l.high in
    Pending l.fn.page l.at (rule_texts l.house rules) l.page l.next (map (rule_text l.house) (drop l.j rules))
