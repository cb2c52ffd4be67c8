-- The next line is that of slot t.
use Rattle.std.proofs.Common.{refl, suc, ◌+◌, arith}
use Rattle.pages.specs.Page.{slot_line_at, slot_lines}
use Rattle.print_bytes.proofs.WritingLaws.{pending_whole, pending_room, pending_after, lines_next, lines_end}
use Rattle.print_slots.proofs.put_slots.Goals as goal

pub loop-t-init : goal.loop-t-init
unfolding slot_lines
loop-t-init c = pending_whole _ refl c.requires.room

pub put_slot-next-requires : goal.put_slot-next-requires
unfolding slot_line_at
put_slot-next-requires c =
    let r = c.range_of-range.ensures in
    rw (r.least, r.greatest) (pending_room (lines_next _ c.loop-t.t (suc c.args.span) (omega arith) c.loop-t.invariant))

pub loop-t-preserved : goal.loop-t-preserved
unfolding slot_line_at
loop-t-preserved c =
    let r = c.range_of-range.ensures in
    pending_after (lines_next _ c.loop-t.t (suc c.args.span) (omega arith) c.loop-t.invariant) (rw (r.least, r.greatest) at c.put_slot-next.ensures)

pub returns : goal.returns
returns c = lines_end _ c.loop-t.t (suc c.args.span) (omega arith) c.loop-t.invariant

pub returns-2 : goal.returns-2
unfolding slot_line_at
returns-2 c =
    let r = c.range_of-range.ensures in
    let next = lines_next _ c.loop-t.t (suc c.args.span) (omega arith) c.loop-t.invariant in
    lines_end _ (c.loop-t.t + 1) (suc c.args.span) (omega arith) (pending_after next (rw (r.least, r.greatest) at c.put_slot-next.ensures))
