-- Rules in four arrays, one a column. Definitions only.
use Rattle.std.specs.Prelude.{◌≡◌, Bool, ◌&&◌, List, map, ℕ, eqb, length, get_or}
use Rattle.lists.specs.Lists.{on_front}
use Rattle.slots.specs.Slots.{Slot}
use Rattle.sheet.specs.Sheet.{Rule}

pub record Columns : Type 0 where
  pub from : List Slot
  pub to : List Slot
  pub low : List ℕ
  pub high : List ℕ

abbrev pub columns : List Slot → List Slot → List ℕ → List ℕ → Columns
columns fs ts ls hs = record { from = fs; to = ts; low = ls; high = hs }

abbrev pub rule_of : Slot → Slot → ℕ → ℕ → Rule
rule_of f t l h = record { from = f; to = t; low = l; high = h }

-- the stretch at place j is the slots f to t
abbrev pub stretch_at : List Slot → List Slot → Slot → Slot → ℕ → Bool
stretch_at froms tos f t j = eqb (get_or froms j 0) f && eqb (get_or tos j 0) t

-- the n rules stand at the front of the columns; the places past them are as they were before
pub record AtFront (rs : List Rule) (n : ℕ) (before now : Columns) : Type 0 where
  pub count : n ≡ length rs
  pub froms : now.from ≡ on_front (map (λ r. r.from) rs) before.from
  pub tos : now.to ≡ on_front (map (λ r. r.to) rs) before.to
  pub lows : now.low ≡ on_front (map (λ r. r.low) rs) before.low
  pub highs : now.high ≡ on_front (map (λ r. r.high) rs) before.high
