-- The table holds the limits, which are limited weights, so the pass over it is the pass of the sheet.
use Rattle.std.proofs.Common.{arith}
use Rattle.sheet.specs.Lists.{given}
use Rattle.plan_steps.specs.ClosingLaws.{span_read, boundaries_read, filled_room, filled_limited, limits_closed}
use Rattle.plan_steps.proofs.close_limits.Goals as goal

pub boundaries-requires : goal.boundaries-requires
boundaries-requires c = span_read _ _ c.lists.view_is c.requires.ok

pub pass-requires : goal.pass-requires
pass-requires c =
    let s = given c.args.lists.now in
    let n = boundaries_read _ _ c.lists.view_is c.requires.ok _ c.boundaries.ensures in
    let room = filled_room s c.args.table.now _ _ n.0 c.requires.fits c.fill_limits.ensures in
    let L = filled_limited s c.requires.ok c.args.table.now _ _ n.0 c.fill_limits.ensures in
    (omega (arith, n.0), n.1, room, L)

pub returns : goal.returns
returns c =
    let n = boundaries_read _ _ c.lists.view_is c.requires.ok _ c.boundaries.ensures in
    limits_closed (given c.args.lists.now) c.args.table.now _ c.pass.result c.pass.new.t _ n.0 c.fill_limits.ensures c.pass.ensures
