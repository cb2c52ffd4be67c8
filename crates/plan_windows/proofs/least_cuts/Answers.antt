-- Key idea: each window is marked, the marked ones are cut, and each unit's cut is read from its window's mark.
use Rattle.sheet.specs.Sizes.{max_cells}
use Rattle.plan_marks.specs.MarkLaws.{zeros, square_most}
use Rattle.plan_windows.proofs.MarkedCutLaws.{cuts_least}
use Rattle.plan_windows.proofs.least_cuts.Goals as goal

pub mark-requires-clause-room : goal.mark-requires-clause-room
mark-requires-clause-room c = let n = c.requires.cut_network.0 in (n.most, square_most c.args.w n.most, zeros max_cells)

pub returns : goal.returns
returns c =
    let a = c.args in
    let u = c.requires.cut_network.1 in
    cuts_least u a.d.now a.m.now c.requires.admitted c.mark.ensures c.cut_windows.new.marks c.cut_windows.ensures a.out.now c.read_marks.new.out
    c.read_marks.ensures
