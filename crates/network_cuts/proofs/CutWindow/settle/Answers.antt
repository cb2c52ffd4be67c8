-- What the arcs at b ask is a sum of entries, so lowering to it stays above every potential sought; a number below 0 before the window ends the search.
use Rattle.std.proofs.Common.{get_or, pos, rules, FitsSigned, w16, to_z-of_z}
use Rattle.integers.specs.Parts.{ints}
use Rattle.network_cuts.proofs.SettleLaws.{least_asks, relax_asks, settled_still, settled_lost, settled_lower}
use Rattle.network_cuts.proofs.CutWindow.settle.Goals as goal

pub least_sum-asked-requires : goal.least_sum-asked-requires
least_sum-asked-requires c = rw (c.end-from.ensures, c.end-to.ensures) (least_asks c.requires.0 c.args.b.0 c.requires.1)

pub returns-then-asked-z : goal.returns-then-asked-z
returns-then-asked-z c =
    let a = c.args in
    let least = rw (c.end-from.ensures, c.end-to.ensures) at c.least_sum-asked.ensures in
    let f : FitsSigned w16 c.least_sum-asked.result = search rules in
    let g : FitsSigned w16 (get_or a.z.now a.b.0 (pos 0)) = search rules in
    let h = simp (to_z-of_z f, to_z-of_z g) at c.if-asked-z.true in
    settled_still c.requires.0 a.b.0 c.requires.1 least (omega ints)

pub relax_row-requires : goal.relax_row-requires
relax_row-requires c =
    let least = rw (c.end-from.ensures, c.end-to.ensures) at c.least_sum-asked.ensures in
    let f : FitsSigned w16 c.least_sum-asked.result = search rules in
    simp (to_z-of_z f) (relax_asks c.requires.0 c.args.b.0 c.requires.1 least)

pub returns-then-lost : goal.returns-then-lost
returns-then-lost c =
    let least = rw (c.end-from.ensures, c.end-to.ensures) at c.least_sum-asked.ensures in
    let f : FitsSigned w16 c.least_sum-asked.result = search rules in
    let g : FitsSigned w16 (get_or c.relax_row.new.row c.start.result.0 (pos 0)) = search rules in
    let h = rw c.start.ensures at (simp (to_z-of_z g) at c.if-lost.true) in
    settled_lost c.requires.0 c.args.b.0 c.requires.1 least (simp (to_z-of_z f) at c.relax_row.ensures) h

pub returns : goal.returns
returns c =
    let a = c.args in
    let least = rw (c.end-from.ensures, c.end-to.ensures) at c.least_sum-asked.ensures in
    let f : FitsSigned w16 c.least_sum-asked.result = search rules in
    let fb : FitsSigned w16 (get_or a.z.now a.b.0 (pos 0)) = search rules in
    let g : FitsSigned w16 (get_or c.relax_row.new.row c.start.result.0 (pos 0)) = search rules in
    let low = simp (to_z-of_z f, to_z-of_z fb) at c.if-asked-z.false in
    let h = rw c.start.ensures at (simp (to_z-of_z g) at c.if-lost.false) in
    settled_lower c.requires.0 a.b.0 c.requires.1 least (simp (to_z-of_z f) at c.relax_row.ensures) (omega ints) h
