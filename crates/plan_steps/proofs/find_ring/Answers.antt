-- The table of the limits, filled in once more, has no feasible potential, so the finder shows a negative cycle of it: a ring of the sheet.
use Rattle.std.proofs.Common.{◌*◌, ◌≤◌, arith, mul-le-mul}
use Rattle.sheet.specs.Sizes.{max_cells}
use Rattle.sheet.specs.Lists.{given}
use Rattle.plan_steps.specs.ClosingLaws.{span_read, boundaries_read, filled_room}
use Rattle.plan_steps.specs.RingLaws.{weighed, no_potential, ring_found}
use Rattle.plan_steps.proofs.find_ring.Goals as goal

pub boundaries-w-requires : goal.boundaries-w-requires
boundaries-w-requires c = span_read _ _ c.lists.view_is c.requires.0.ok

pub negative_cycle-n-requires : goal.negative_cycle-n-requires
negative_cycle-n-requires c =
    let s = given c.args.lists.now in
    let p = c.requires.0 in
    let n = boundaries_read _ _ c.lists.view_is p.ok _ c.boundaries-w.ensures in (
      weighed s p.ok c.args.table.now _ p.fits c.fill_limits.ensures _ n.0,
      no_potential s p.ok c.args.table.now _ p.fits c.fill_limits.ensures _ n.0 c.requires.2,
      omega (arith, c.requires.1, n.0),
    )

pub overflow_mul-w : goal.overflow_mul-w
overflow_mul-w c =
    let n = boundaries_read _ _ c.lists.view_is c.requires.0.ok _ c.boundaries-w.ensures in
    let m : c.boundaries-w.result * c.boundaries-w.result ≤ max_cells = mul-le-mul n.1 n.1 in
    omega (arith, m)

pub clear-requires : goal.clear-requires
clear-requires c =
    let p = c.requires.0 in
    let n = boundaries_read _ _ c.lists.view_is p.ok _ c.boundaries-w.ensures in
    filled_room (given c.args.lists.now) c.args.table.now _ _ n.0 p.fits c.fill_limits.ensures

pub returns : goal.returns
returns c =
    let p = c.requires.0 in
    let n = boundaries_read _ _ c.lists.view_is p.ok _ c.boundaries-w.ensures in
    let f = c.negative_cycle-n in
    ring_found (given c.args.lists.now) p.ok c.args.table.now _ p.fits c.fill_limits.ensures _ n.0 c.args.ring.now
    f.result f.new.out c.clear.new.t (omega (arith, f.auto.out, c.requires.1, n.0)) f.ensures c.clear.ensures
