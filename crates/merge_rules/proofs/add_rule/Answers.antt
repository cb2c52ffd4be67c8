-- Key idea: the place that the search found is the first of the rules on the stretch, or none is (`tightens`, `stands_behind`).
use Rattle.std.proofs.Common.{sym, arith, rules}
use Rattle.merge_rules.proofs.ColumnLaws.{tightens, stands_behind}
use Rattle.merge_rules.proofs.add_rule.Goals as goal

pub returns-in-Some : goal.returns-in-Some
returns-in-Some c = λ qs before held.
    let a = c.args in
    tightens a.from a.to a.low a.high a.n a.froms.now a.tos.now a.lows.now a.highs.now qs before held c.in-Some.p c.in-Some.ensures.1 c.in-Some.ensures.0
    _ _ (search rules) (search rules)

pub returns : goal.returns
returns c = λ qs before held.
    let a = c.args in
    stands_behind a.from a.to a.low a.high a.n a.froms.now a.tos.now a.lows.now a.highs.now qs before held a.n (sym c.in_default.ensures) (omega arith) c.requires
