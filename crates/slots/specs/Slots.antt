-- Slots and boundaries are counted apart: slots from 1 on, boundaries from 0 on, and boundary b is the end of slot b. Definitions only.
-- Both are numbers here, and these four are the steps between them.
use Rattle.std.specs.Prelude.{ℕ, suc, ◌-◌}

abbrev pub Slot : Type 0
Slot = ℕ

abbrev pub Boundary : Type 0
Boundary = ℕ

-- where a slot ends, and where it starts
abbrev pub slot_end : Slot → Boundary
slot_end t = t

abbrev pub slot_start : Slot → Boundary
slot_start t = slot_end t - 1

-- and back: the slot that ends at a boundary, and the one that starts there
abbrev pub slot_before : Boundary → Slot
slot_before b = b

abbrev pub slot_after : Boundary → Slot
slot_after b = suc b
