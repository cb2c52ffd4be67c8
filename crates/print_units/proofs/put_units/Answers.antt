-- The next line is that of unit j.
use Rattle.std.proofs.Common.{◌≡◌, ap, map, length, ◌-◌, arith}
use Rattle.lists.specs.Lists.{run, joined}
use Rattle.pages.specs.Page.{unit_line_at, unit_lines}
use Rattle.print_bytes.proofs.WritingLaws.{pending_whole, pending_room, pending_after, lines_next, lines_end}
use Rattle.print_units.proofs.put_units.Goals as goal

pub loop-j-init : goal.loop-j-init
unfolding unit_lines
loop-j-init c =
    let a = c.args in
    let n = length a.plan.now in
    let e : n ≡ n - 0 = omega arith in
    pending_whole _ (ap (λ k. joined (map (unit_line_at a.span a.loader.now a.plan.now a.earliest.now a.latest.now) (run 0 k))) e) c.requires.room

pub put_placed-next-requires : goal.put_placed-next-requires
unfolding unit_line_at
put_placed-next-requires c = pending_room (lines_next _ c.loop-j.j (length c.args.plan.now) c.loop-j-test.true c.loop-j.invariant)

pub loop-j-preserved : goal.loop-j-preserved
unfolding unit_line_at
loop-j-preserved c = pending_after (lines_next _ c.loop-j.j (length c.args.plan.now) c.loop-j-test.true c.loop-j.invariant) c.put_placed-next.ensures

pub returns : goal.returns
returns c = lines_end _ c.loop-j.j (length c.args.plan.now) c.loop-j-test.false c.loop-j.invariant
