-- The sum at a place fits, and the smaller of it and the least so far is the least of one place more.
use Rattle.std.proofs.Common.{pos, get_or, arith, rules, FitsSigned, w16, to_z, to_z-of_z}
use Rattle.network_cuts.specs.Decider.{value_at}
use Rattle.network_cuts.proofs.SumLaws.{sum_fits, least_more}
use Rattle.network_cuts.proofs.least_sum.Goals as goal

pub overflow_add-xs : goal.overflow_add-xs
overflow_add-xs c =
    let xs = c.args.xs.now in
    let ys = c.args.ys.now in
    let i = c.loop-i.i in
    let fx : FitsSigned w16 (get_or xs i (pos 0)) = search rules in
    let fy : FitsSigned w16 (get_or ys i (pos 0)) = search rules in
    rw (to_z-of_z fx, to_z-of_z fy) (sum_fits (value_at xs i) (value_at ys i) (c.requires.2 i (omega arith)) (c.requires.3 i (omega arith)))

pub loop-i-preserved : goal.loop-i-preserved
loop-i-preserved c =
    let xs = c.args.xs.now in
    let ys = c.args.ys.now in
    let i = c.loop-i.i in
    let fx : FitsSigned w16 (get_or xs i (pos 0)) = search rules in
    let fy : FitsSigned w16 (get_or ys i (pos 0)) = search rules in
    let fs = sum_fits (value_at xs i) (value_at ys i) (c.requires.2 i (omega arith)) (c.requires.3 i (omega arith)) in
    let fr : FitsSigned w16 c.min-least.result = search rules in
    let e = simp (to_z-of_z fx, to_z-of_z fy, to_z-of_z fs) at c.min-least.ensures.value in
    simp (to_z-of_z fr) (rw e (least_more i xs ys (to_z w16 c.loop-i.least-bits) (omega arith) c.loop-i.invariant))
