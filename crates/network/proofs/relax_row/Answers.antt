-- A store puts the smaller number at its place: `min` is the definition's, once its two numbers are read as they were passed.
use Rattle.std.proofs.Common.{◌≡◌, pos, arith, get_or, length, ◌+ℤ◌, to_z, of_z, FitsSigned, w16, to_z-of_z, rules, ap, ◌∙◌}
use Rattle.integers.specs.Parts.{min_ℤ}
use Rattle.lists.specs.Values.{filled_old, filled_all}
use Rattle.lists.specs.Fill.{fill_next, fill_end}
use Rattle.network.specs.RowStep.{relaxed_at}
use Rattle.network.proofs.relax_row.Goals as goal

pub loop-b-preserved : goal.loop-b-preserved
loop-b-preserved c =
    let l = c.loop-b in
    let am = to_z w16 (of_z w16 c.args.am) in
    let g = relaxed_at am c.args.mid.now c.args.row.now in
    let old = filled_old g l.b c.args.row.now l.row l.invariant.form l.b (pos 0) (omega arith) in
    let fx : FitsSigned w16 (get_or l.row l.b (pos 0)) = search rules in
    let fm : FitsSigned w16 (get_or c.args.mid.now l.b (pos 0)) = search rules in
    let fs = c.requires.1 l.b (omega arith) in
    let fr : FitsSigned w16 c.min.result = search rules in
    let e = simp (to_z-of_z c.ranges.am, to_z-of_z fx, to_z-of_z fm, to_z-of_z fs) at c.min.ensures.value in
    let v : to_z w16 (of_z w16 c.min.result) ≡ g l.b =
    simp (to_z-of_z c.ranges.am, to_z-of_z fr) (e ∙ ap (λ x. min_ℤ x (c.args.am +ℤ get_or c.args.mid.now l.b (pos 0))) old) in
    fill_next l.invariant v (omega arith) (omega arith)

pub returns : goal.returns
returns c =
    let l = c.loop-b in
    let row = c.args.row.now in
    let g = relaxed_at (to_z w16 (of_z w16 c.args.am)) c.args.mid.now row in
    simp (to_z-of_z c.ranges.am) at (filled_all g (length row) row l.row (fill_end l.invariant (omega arith)) (omega arith))
