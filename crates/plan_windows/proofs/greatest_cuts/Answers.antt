-- Key idea: a greatest cut is a least cut of the network seen from its end.
use Rattle.std.proofs.Common.{◌*◌, ◌≤◌, arith, length}
use Rattle.plan_marks.specs.MarkLaws.{square_most}
use Rattle.plan_windows.proofs.MirrorLaws.{network_mirrored, late_turned, turned_greatest, turned_units}
use Rattle.plan_windows.proofs.greatest_cuts.Goals as goal
use Rattle.plan_windows.proofs.greatest_cuts.Goals.{After-mirror-2}

-- both mirrored tables have room for the network
long : (c : After-mirror-2) → let w = c.args.w in (w * w ≤ length c.mirror.new.out) × (w * w ≤ length c.mirror-2.new.out)
long c = omega (arith, square_most c.args.w c.requires.cut_network.0.most, c.mirror.auto.out, c.mirror-2.auto.out)

pub least_cuts-requires-clause-cut_network : goal.least_cuts-requires-clause-cut_network
least_cuts-requires-clause-cut_network c =
    let a = c.args in
    let n = c.requires.cut_network in
    let l = long (goal.at.least_cuts-requires-clause-cut_network c).After-mirror-2 in (
      network_mirrored a.w a.d.now a.m.now c.mirror.new.out c.mirror-2.new.out n.0 l.0 l.1 c.mirror.ensures c.mirror-2.ensures,
      turned_units a.w a.first.now a.last.now a.plan.now n.1,
      omega (arith, n.1.paired),
    )

pub least_cuts-requires-clause-admitted : goal.least_cuts-requires-clause-admitted
least_cuts-requires-clause-admitted c =
    let a = c.args in
    let n = c.requires.cut_network in
    let l = long (goal.at.least_cuts-requires-clause-admitted c).After-mirror-2 in
    late_turned a.w a.d.now a.m.now c.mirror.new.out c.mirror-2.new.out n.0 l.0 l.1 c.mirror.ensures c.mirror-2.ensures a.first.now a.last.now a.plan.now n.1
    c.requires.admitted_late

pub returns : goal.returns
returns c =
    let a = c.args in
    let n = c.requires.cut_network in
    let l = long (goal.at.returns c).After-mirror-2 in
    turned_greatest a.w a.d.now a.m.now c.mirror.new.out c.mirror-2.new.out n.0 l.0 l.1 c.mirror.ensures c.mirror-2.ensures a.first.now a.last.now a.plan.now
    n.1 a.out.now c.least_cuts.new.out c.least_cuts.ensures
