-- The ends of stretches, in the lists of a call, and a unit and a rule by their numbers. Definitions only.
use Rattle.std.specs.Prelude.{◌≡◌, List, ℕ, ◌≤◌, ◌<◌, length, get_or}
use Rattle.slots.specs.Slots.{Slot}
use Rattle.sheet.specs.Sizes.{max_slots, carried_place}
use Rattle.sheet.specs.Sheet.{Rule, SheetUnit}

-- a stretch ends where it starts or later, in a slot or at the carried place
pub record Ends (first last : Slot) : Type 0 where
  pub ordered : first ≤ last
  pub most : last ≤ carried_place max_slots

-- so it is at each place of two lists
pub record Stretches (first last : List Slot) : Type 0 where
  pub paired : length last ≡ length first
  pub each : (j : ℕ) → j < length first → Ends (get_or first j 0) (get_or last j 0)

abbrev pub unit_with : ℕ → Slot → Slot → SheetUnit
unit_with k f l = record { loader = k; window = record { first = f; last = l } }

abbrev pub rule_with : Slot → Slot → ℕ → ℕ → Rule
rule_with f t l h = record { from = f; to = t; low = l; high = h }
