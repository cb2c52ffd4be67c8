-- The measure is twice the bytes that are left, and one more for the list reader, which calls the item reader at its own place.
-- The list reader's invariant: what stands past the list is the same, read from here on as from its start.
use Rattle.std.proofs.Common.{◌≡◌, ◌+◌, ◌-◌, ◌*◌, ◌≤◌, length, drop}
use Rattle.read_notes.specs.Readers.{after_list}
use Rattle.read_notes.proofs.+item_end_list_end.Given as goal

abbrev pub decreases-item_end : goal.decreases-item_end
decreases-item_end l = 2 * (length l.s.now - l.at)

abbrev pub decreases-list_end : goal.decreases-list_end
decreases-list_end l = 2 * (length l.s.now - l.at) + 1

abbrev pub invariant-list_end-loop-here : goal.invariant-list_end-loop-here
invariant-list_end-loop-here l = (l.at ≤ l.here) × (after_list (drop l.here l.s) 0 l.depth ≡ after_list (drop l.at l.s) 0 l.depth)

abbrev pub decreases-list_end-loop-here : goal.decreases-list_end-loop-here
decreases-list_end-loop-here l = length l.s - l.here
