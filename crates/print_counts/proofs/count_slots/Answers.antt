-- A store raises one slot's count, and the unit's slot is that one.
use Rattle.std.proofs.Common.{sym, subst, ◌+◌, length, get_or, arith}
use Rattle.print_counts.proofs.SlotCountLaws.{Counted, counted_none, counted_small, counted_store, counted_pass, counted_all}
use Rattle.print_counts.proofs.count_slots.Goals as goal
use Rattle.print_counts.proofs.count_slots.Goals.{then-slot-counts, else-slot-counts}

pub loop-slot-init : goal.loop-slot-init
loop-slot-init c = counted_none _ _ c.requires.0

pub overflow_add-counts : goal.overflow_add-counts
overflow_add-counts c =
    let l = c.loop-slot in
    let counted = l.invariant in
    let slot = get_or c.args.plan.now l.slot-index 0 in
    omega (arith, counted_small counted slot (omega (arith, c.if-slot-counts.true, counted.long)), c.loop-slot-test.true)

pub loop-slot-preserved : goal.loop-slot-preserved
loop-slot-preserved c =
    let counted = c.loop-slot.invariant in
    let less = c.loop-slot-test.true in
    elim c.if-slot-counts.branch [
      | then-slot-counts w ↦ subst (Counted _ _) (sym w.counts-is) (counted_store less counted (omega (arith, w.if-slot-counts.true, counted.long)))
      | else-slot-counts w ↦ subst (Counted _ _) (sym w.counts-is) (counted_pass less counted (omega (arith, w.if-slot-counts.false, counted.long)))
    ]

pub returns : goal.returns
returns c = counted_all c.loop-slot-test.false c.loop-slot.invariant
