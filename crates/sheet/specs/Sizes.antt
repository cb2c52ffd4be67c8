-- The sizes of a sheet, as its associated constants state them: the one place in specs where they stand. Boundaries are network's `max_boundaries`, which
-- `boundaries_max` ties to the slots, and a weight is at most network's `max_weight`, which `weight_max` ties to the counts.
use Rattle.std.specs.Prelude.{ℕ, suc, ◌+◌, ◌*◌, ◌≡◌, refl}
use Rattle.slots.specs.Slots.{Slot, Boundary, slot_end}
use Rattle.network.specs.Table.{max_boundaries}
use Rattle.network.specs.Bounds.{max_weight}

abbrev pub max_slots : ℕ
max_slots = 48

abbrev pub max_units : ℕ
max_units = 300

abbrev pub max_rules : ℕ
max_rules = 60

-- the largest count a rule may name
abbrev pub max_count : ℕ
max_count = 300

-- the largest loader number
abbrev pub max_loader : ℕ
max_loader = 9999

-- the longest text
abbrev pub max_bytes : ℕ
max_bytes = 16000

-- the entries of the largest table
abbrev pub max_cells : ℕ
max_cells = max_boundaries * max_boundaries

-- the carried place of a span: it follows the last slot, and a unit that has it is carried over into the next wave
abbrev pub carried_place : Slot → Slot
carried_place span = suc span

-- the top boundary of a span, which is the end of the carried place, and how many boundaries it has: the one place where the two are counted from the slots
abbrev pub top_of : Slot → Boundary
top_of span = slot_end (carried_place span)

abbrev pub boundaries_of : Slot → ℕ
boundaries_of span = top_of span + 1

-- the network's constant is the number of boundaries of the longest span
pub boundaries_max : max_boundaries ≡ boundaries_of max_slots
boundaries_max = refl

-- the network's largest weight is the largest count
pub weight_max : max_weight ≡ max_count
weight_max = refl
