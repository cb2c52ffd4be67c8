-- Key idea: a unit's earliest slot is its least cut, and its latest the greatest; both are of the closed network that the pass left.
use Rattle.std.proofs.Common.{◌*◌, ◌≤◌, arith, length}
use Rattle.plan_marks.specs.MarkLaws.{square_most}
use Rattle.plan_windows.proofs.NarrowLaws.{windows_fit_lem, units_of_lem, network_of, admitted_of, admitted_late_of, earliest_room_lem, latest_room_lem}
use Rattle.plan_windows.proofs.narrow.Goals as goal
use Rattle.plan_windows.proofs.narrow.Goals.{After-cut_arcs}

-- the arcs have room for the network
long : (c : After-cut_arcs) → c.args.w * c.args.w ≤ length c.cut_arcs.new.out
long c = omega (arith, square_most c.args.w c.requires.narrowable.1.most, c.cut_arcs.auto.out)

pub cut_arcs-requires : goal.cut_arcs-requires
cut_arcs-requires c = let h = c.requires.narrowable.1 in (windows_fit_lem h, square_most c.args.w h.most)

pub least_cuts-requires-clause-cut_network : goal.least_cuts-requires-clause-cut_network
least_cuts-requires-clause-cut_network c =
    let h = c.requires.narrowable.1 in
    let l = long (goal.at.least_cuts-requires-clause-cut_network c).After-cut_arcs in
    (network_of h c.cut_arcs.new.out l c.cut_arcs.ensures, units_of_lem h, c.requires.rooms.0)

pub least_cuts-requires-clause-admitted : goal.least_cuts-requires-clause-admitted
least_cuts-requires-clause-admitted c =
    admitted_of c.requires.narrowable.1 c.cut_arcs.new.out (long (goal.at.least_cuts-requires-clause-admitted c).After-cut_arcs) c.cut_arcs.ensures

pub greatest_cuts-requires-clause-cut_network : goal.greatest_cuts-requires-clause-cut_network
greatest_cuts-requires-clause-cut_network c =
    let h = c.requires.narrowable.1 in
    let l = long (goal.at.greatest_cuts-requires-clause-cut_network c).After-cut_arcs in
    (network_of h c.cut_arcs.new.out l c.cut_arcs.ensures, units_of_lem h, c.requires.rooms.1)

pub greatest_cuts-requires-clause-admitted_late : goal.greatest_cuts-requires-clause-admitted_late
greatest_cuts-requires-clause-admitted_late c =
    admitted_late_of c.requires.narrowable.1 c.cut_arcs.new.out (long (goal.at.greatest_cuts-requires-clause-admitted_late c).After-cut_arcs) c.cut_arcs.ensures

pub returns-clause-early : goal.returns-clause-early
returns-clause-early c = λ s h.
    earliest_room_lem h c.cut_arcs.new.out (long (goal.at.returns-clause-early c).After-cut_arcs) c.cut_arcs.ensures c.args.earliest.now c.least_cuts.new.out
    c.least_cuts.ensures

pub returns-clause-late : goal.returns-clause-late
returns-clause-late c = λ s h.
    latest_room_lem h c.cut_arcs.new.out (long (goal.at.returns-clause-late c).After-cut_arcs) c.cut_arcs.ensures c.args.latest.now c.greatest_cuts.new.out
    c.greatest_cuts.ensures
