-- The next line is that of the step from place i on.
use Rattle.std.proofs.Common.{◌≡◌, ap, ◌∙◌, map, length, ◌-◌, arith}
use Rattle.lists.specs.Lists.{run, joined}
use Rattle.network.specs.Table.{entry}
use Rattle.pages.proofs.PageLaws.{step_at, ring_steps}
use Rattle.print_bytes.proofs.WritingLaws.{pending_whole, pending_room, pending_after, lines_next, lines_end}
use Rattle.print_none.proofs.put_steps.Goals as goal

pub loop-i-init : goal.loop-i-init
loop-i-init c =
    let a = c.args in
    let d = entry a.w a.limits.now in
    let n = length a.ring.now in
    let e : n ≡ n - 0 = omega arith in
    pending_whole _ (ap joined (ring_steps d a.ring.now c.requires.ring_fits.some ∙ ap (λ k. map (step_at d a.ring.now) (run 0 k)) e)) c.requires.room

pub put_step-next-requires-clause-room : goal.put_step-next-requires-clause-room
put_step-next-requires-clause-room c =
    let s = c.step_at.ensures in
    rw (s.0, s.1) (pending_room (lines_next _ c.loop-i.i (length c.args.ring.now) c.loop-i-test.true c.loop-i.invariant))

pub loop-i-preserved : goal.loop-i-preserved
loop-i-preserved c =
    let s = c.step_at.ensures in
    pending_after (lines_next _ c.loop-i.i (length c.args.ring.now) c.loop-i-test.true c.loop-i.invariant) (rw (s.0, s.1) at c.put_step-next.ensures)

pub returns : goal.returns
returns c = lines_end _ c.loop-i.i (length c.args.ring.now) c.loop-i-test.false c.loop-i.invariant
