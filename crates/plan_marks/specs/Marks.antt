-- Windows by first and last slot, and what is known of each: one slot a window, at place first * w + last of a list, 0 where no unit has it.
-- Definitions only.
use Rattle.std.specs.Prelude.{◌≡◌, ◌⊎◌, List, ℕ, ◌+◌, ◌-◌, ◌*◌, ◌≤◌, ◌<◌, length, get_or}
use Rattle.plan_marks.specs.declared.Side.{Side}
use Rattle.plan_marks.specs.declared.Side.TheVariants.{Front, End}

-- what stands for the window f..l
abbrev pub slot : ℕ → List ℕ → ℕ → ℕ → ℕ
slot w marks f l = get_or marks (f * w + l) 0

-- a slot as a side has it: as it is, or from the end, where slot x is w - x
abbrev pub seen : Side → ℕ → ℕ → ℕ
seen Front w x = x
seen End w x = w - x

abbrev pub seen_at : Side → ℕ → List ℕ → ℕ → ℕ
seen_at side w xs j = seen side w (get_or xs j 0)

-- units with windows within w boundaries, each with a slot of its window; all are seen from the side given
pub record Units (side : Side) (w : ℕ) (opens closes plan : List ℕ) : Type 0 where
  pub paired : length closes ≡ length opens
  pub seats : length opens ≤ length plan
  pub inside : (j : ℕ) → j < length opens → (1 ≤ seen_at side w opens j) × (seen_at side w opens j ≤ seen_at side w plan j)
      × (seen_at side w plan j ≤ seen_at side w closes j) × (seen_at side w closes j < w)

-- each window of the first n units is marked with the slot of a unit that has it, and no other window is marked
pub record Marked (n w : ℕ) (first last plan : ℕ → ℕ) (marks : List ℕ) : Type 0 where
  pub found : (j : ℕ) → j < n → 0 < slot w marks (first j) (last j)
  pub from : (f l : ℕ) → f < w → l < w → (slot w marks f l ≡ 0) ⊎ ((j : ℕ) × (j < n) × (first j ≡ f) × (last j ≡ l) × (slot w marks f l ≡ plan j))

-- unit j's window lies within w boundaries, and so does the slot that stands for it
pub record Reads (side : Side) (w : ℕ) (opens closes marks : List ℕ) (j : ℕ) : Type 0 where
  pub raw : (get_or opens j 0 ≤ w) × (get_or closes j 0 ≤ w)
  pub window : (seen_at side w opens j < w) × (seen_at side w closes j < w)
  pub mark : slot w marks (seen_at side w opens j) (seen_at side w closes j) ≤ w
