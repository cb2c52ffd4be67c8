-- A step and the step back lead to where one was.
use Rattle.std.specs.Prelude.{◌≡◌, ◌<◌}
use Rattle.std.proofs.Common.{arith}
use Rattle.slots.specs.Slots.{Slot, Boundary, slot_end, slot_start, slot_before, slot_after}

pub end_of_before : (b : Boundary) → slot_end (slot_before b) ≡ b
end_of_before b = omega arith

pub start_of_after : (b : Boundary) → slot_start (slot_after b) ≡ b
start_of_after b = omega arith

pub before_end : (t : Slot) → slot_before (slot_end t) ≡ t
before_end t = omega arith

pub after_start : (t : Slot) → 0 < t → slot_after (slot_start t) ≡ t
after_start t h = omega arith
