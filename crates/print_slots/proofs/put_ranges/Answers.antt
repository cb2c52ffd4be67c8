-- The next line is that of slot slot.
use Rattle.std.proofs.Common.{refl, suc, ◌+◌, arith}
use Rattle.pages.specs.Page.{range_line_at, range_lines}
use Rattle.print_bytes.proofs.WritingLaws.{pending_whole, pending_room, pending_after, lines_next, lines_end}
use Rattle.print_slots.proofs.put_ranges.Goals as goal

pub loop-slot-init : goal.loop-slot-init
unfolding range_lines
loop-slot-init c = pending_whole _ refl c.requires.room

pub put_range-next-requires : goal.put_range-next-requires
unfolding range_line_at
put_range-next-requires c =
    let r = c.range_of-range.ensures in
    rw (r.least, r.greatest) (pending_room (lines_next _ c.loop-slot.slot (suc c.args.span) (omega arith) c.loop-slot.invariant))

pub loop-slot-preserved : goal.loop-slot-preserved
unfolding range_line_at
loop-slot-preserved c =
    let r = c.range_of-range.ensures in
    pending_after (lines_next _ c.loop-slot.slot (suc c.args.span) (omega arith) c.loop-slot.invariant) (rw (r.least, r.greatest) at c.put_range-next.ensures)

pub returns : goal.returns
returns c = lines_end _ c.loop-slot.slot (suc c.args.span) (omega arith) c.loop-slot.invariant

pub returns-2 : goal.returns-2
unfolding range_line_at
returns-2 c =
    let r = c.range_of-range.ensures in
    let next = lines_next _ c.loop-slot.slot (suc c.args.span) (omega arith) c.loop-slot.invariant in
    lines_end _ (c.loop-slot.slot + 1) (suc c.args.span) (omega arith) (pending_after next (rw (r.least, r.greatest) at c.put_range-next.ensures))
