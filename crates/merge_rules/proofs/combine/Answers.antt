-- Key idea: the call adds rule i to the merged rules of those before it (`still_fit`, `too_many_lem`).
use Rattle.std.proofs.Common.{arith, ◌<◌, length, get_or, take}
use Rattle.sheet.specs.Sheet.{no_rule}
use Rattle.sheet.specs.Questions.{rules_of}
use Rattle.sheet.proofs.QuestionLaws.{rules_of_length, rules_of_at}
use Rattle.merge_sheets.specs.Merge.{merged_rules, with_rule}
use Rattle.merge_rules.specs.Columns.{columns, AtFront}
use Rattle.merge_rules.proofs.CombiningLaws.{combining_none, few, still_fit, too_many_lem, all_held, all_passed}
use Rattle.merge_rules.proofs.combine.Goals as goal
use Rattle.merge_rules.proofs.combine.Goals.{After-loop-i, then-count-le-MAX_RULES, else-count-le-MAX_RULES}

pub loop-i-init : goal.loop-i-init
loop-i-init c = combining_none _ _

pub add_rule-count-requires : goal.add_rule-count-requires
add_rule-count-requires c =
    let a = c.args in
    let l = c.loop-i in
    let m = few (rules_of a.from.now a.to.now a.low.now a.high.now) (columns a.froms.now a.tos.now a.lows.now a.highs.now) l.i l.count l.past
    (columns l.froms l.tos l.lows l.highs) l.invariant in
    (omega arith, omega arith, omega arith, omega arith)

pub loop-i-preserved : goal.loop-i-preserved
loop-i-preserved c =
    let a = c.args in
    let l = c.loop-i in
    let k = c.add_rule-count in
    let rs = rules_of a.from.now a.to.now a.low.now a.high.now in
    let before = columns a.froms.now a.tos.now a.lows.now a.highs.now in
    let now = columns l.froms l.tos l.lows l.highs in
    let next = columns k.new.froms k.new.tos k.new.lows k.new.highs in
    let g = c.requires.agree in
    let h : l.i < length rs = omega (arith, rules_of_length a.from.now a.to.now a.low.now a.high.now g.0 g.1 g.2) in
    let more : AtFront (with_rule (merged_rules (take l.i rs)) (get_or rs l.i no_rule)) k.result before next =
    rw (rules_of_at a.from.now a.to.now a.low.now a.high.now g.0 g.1 g.2 l.i (omega arith)) (k.ensures (merged_rules (take l.i rs)) before l.invariant.held) in
    elim c.if-count-le-MAX_RULES.branch [
      | then-count-le-MAX_RULES w ↦ rw w.past-is (still_fit rs before l.i l.count l.past now l.invariant h k.result next more (omega arith))
      | else-count-le-MAX_RULES w ↦ rw w.past-is (too_many_lem rs before l.i l.count l.past now l.invariant h k.result next more (omega arith))
    ]

-- all rules are combined
held : (c : After-loop-i) → let a = c.args in let l = c.loop-i in
    AtFront (merged_rules (rules_of a.from.now a.to.now a.low.now a.high.now)) l.count (columns a.froms.now a.tos.now a.lows.now a.highs.now)
    (columns l.froms l.tos l.lows l.highs)
held c =
    let a = c.args in
    let l = c.loop-i in
    let rs = rules_of a.from.now a.to.now a.low.now a.high.now in
    let g = c.requires.agree in
    all_held rs (columns a.froms.now a.tos.now a.lows.now a.highs.now) l.i l.count l.past (columns l.froms l.tos l.lows l.highs) l.invariant
    (omega (arith, rules_of_length a.from.now a.to.now a.low.now a.high.now g.0 g.1 g.2))

pub returns-clause-count : goal.returns-clause-count
returns-clause-count c = (held (goal.at.returns-clause-count c).After-loop-i).count

pub returns-clause-past : goal.returns-clause-past
returns-clause-past c =
    let a = c.args in
    let l = c.loop-i in
    let rs = rules_of a.from.now a.to.now a.low.now a.high.now in
    let g = c.requires.agree in
    all_passed rs (columns a.froms.now a.tos.now a.lows.now a.highs.now) l.i l.count l.past (columns l.froms l.tos l.lows l.highs) l.invariant
    (omega (arith, rules_of_length a.from.now a.to.now a.low.now a.high.now g.0 g.1 g.2))

pub returns-clause-froms : goal.returns-clause-froms
returns-clause-froms c = (held (goal.at.returns-clause-froms c).After-loop-i).froms

pub returns-clause-tos : goal.returns-clause-tos
returns-clause-tos c = (held (goal.at.returns-clause-tos c).After-loop-i).tos

pub returns-clause-lows : goal.returns-clause-lows
returns-clause-lows c = (held (goal.at.returns-clause-lows c).After-loop-i).lows

pub returns-clause-highs : goal.returns-clause-highs
returns-clause-highs c = (held (goal.at.returns-clause-highs c).After-loop-i).highs
