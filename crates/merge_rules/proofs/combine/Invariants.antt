-- Key idea: before the turn of rule i the columns hold the merged rules of those before it.
use Rattle.sheet.specs.Questions.{rules_of}
use Rattle.merge_rules.specs.Columns.{columns}
use Rattle.merge_rules.proofs.CombiningLaws.{Combining}
use Rattle.merge_rules.proofs.combine.Given as goal

abbrev pub invariant-loop-i : goal.invariant-loop-i
invariant-loop-i l =
    let s = l.initial in
    Combining (rules_of l.from l.to l.low l.high) (columns s.froms s.tos s.lows s.highs) l.i l.count l.past (columns l.froms l.tos l.lows l.highs)
