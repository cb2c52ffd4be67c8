-- Each boundary's steps take the least over the boundaries before it to the least over it too.
use Rattle.std.proofs.Common.{◌+◌, ◌*◌, ◌-◌, length, get_or, pos, arith, ap, ◌∙◌, rules, to_z, of_z, FitsSigned, w16, to_z-of_z}
use Rattle.lists.specs.Values.{length_list_of}
use Rattle.network.proofs.TableLaws.{row_inside}
use Rattle.network_levels.proofs.NextLevelLaws.{reached_by, reached_start, reached_next}
use Rattle.network_levels.proofs.make_level.Goals as goal

pub loop-u-init : goal.loop-u-init
loop-u-init c =
    let e = c.copy_from_slice.ensures.after in
    (omega (arith, c.requires, ap length e), e ∙ reached_start c.args.w c.args.d.now c.args.prev.now c.requires.2)

pub loop-u-preserved : goal.loop-u-preserved
loop-u-preserved c =
    let a = c.args in
    let u = c.loop-u.u in
    let row = c.loop-u.row in
    let inside = row_inside u a.w (omega arith) in
    let f : FitsSigned w16 (get_or a.prev.now u (pos 0)) = search rules in
    let e = c.relax_row.ensures ∙ reached_next a.w u (u * a.w + a.w - u * a.w) a.d.now a.prev.now row (to_z w16 (of_z w16 (get_or a.prev.now u (pos 0))))
    (omega arith) (omega arith) (omega arith) (to_z-of_z f) c.loop-u.invariant.1 in
    (ap length e ∙ length_list_of (reached_by a.w a.d.now a.prev.now (u + 1)) a.w, e)
