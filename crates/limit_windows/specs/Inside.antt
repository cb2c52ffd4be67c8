-- Units' windows in a table: the windows inside each stretch, and those that are exactly it. Definitions only.
use Rattle.std.specs.Prelude.{◌≡◌, Bool, ◌&&◌, List, ℕ, ◌≤◌, ◌<◌, eqb, length, get_or, pos, neg_ℤ}
use Rattle.lists.specs.Lists.{how_many}
use Rattle.network.specs.Network.{Weights}
use Rattle.sheet.specs.Sizes.{max_units}
use Rattle.slots.specs.Slots.{Slot, slot_end, slot_after, slot_before}
use Rattle.sheet.specs.Sheet.{Window, inside_of}

-- the units' windows, as first and last slots: at most `max_units`, each 1 ≤ first ≤ last, and last ends at one of w boundaries
pub record WindowsFit (w : ℕ) (first last : List Slot) : Type 0 where
  pub paired : length last ≡ length first
  pub few : length first ≤ max_units
  pub each : (j : ℕ) → j < length first → (1 ≤ get_or first j 0) × (get_or first j 0 ≤ get_or last j 0) × (slot_end (get_or last j 0) < w)

-- minus the number of windows inside the slots b+1 to a; none is inside where a ≤ b
unfoldable pub inside_weights : List Window → Weights
inside_weights ws a b = neg_ℤ (pos (how_many (inside_of (slot_after b) (slot_before a)) ws))

-- the window is exactly the slots f to t
abbrev pub exactly : Slot → Slot → Window → Bool
exactly f t w = eqb w.first f && eqb w.last t

-- minus the number of windows that are exactly the slots b+1 to a
unfoldable pub exact_weights : List Window → Weights
exact_weights ws a b = neg_ℤ (pos (how_many (exactly (slot_after b) (slot_before a)) ws))
