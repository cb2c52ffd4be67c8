-- After so many units each count is that of these.
use Rattle.print_counts.proofs.SlotCountLaws.{Counted}
use Rattle.print_counts.proofs.count_slots.Given as goal

abbrev pub invariant-loop-slot : goal.invariant-loop-slot
invariant-loop-slot l = Counted l.plan l.slot-index l.counts
