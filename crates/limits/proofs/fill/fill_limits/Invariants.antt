-- Key idea: the table has the limits of the sheet with its rules from line k on.
use Rattle.sheet.specs.Sizes.{boundaries_of}
use Rattle.sheet.specs.Sheet.{limit}
use Rattle.limit_places.specs.LentTableLaws.{TableFilled}
use Rattle.limits.proofs.Rules.{ruled_from}
use Rattle.limits.proofs.fill.fill_limits.Given as goal

abbrev pub invariant-loop-k : goal.invariant-loop-k
invariant-loop-k l =
    let i = l.lists-inside in
    TableFilled (boundaries_of i.span) (limit (ruled_from i.span i.first.now i.last.now i.from.now i.to.now i.low.now i.high.now l.k)) l.initial.t l.t
