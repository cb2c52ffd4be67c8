-- The table of a sheet's limits, as code fills it. Definitions only.
use Rattle.std.specs.Prelude.{◌≡◌, cond, List, ◌++◌, ℕ, ◌*◌, ◌≤◌, T, ltb, get_or, set, drop, ℤ, pos}
use Rattle.integers.specs.Parts.{min_ℤ}
use Rattle.network.specs.Network.{Weights}
use Rattle.network.specs.Table.{table_of}
use Rattle.network_pass.specs.Pass.{finished, pass_from}
use Rattle.slots.specs.Slots.{Boundary}
use Rattle.sheet.specs.Sheet.{Sheet, boundaries, limit}
use Rattle.sheet.specs.Questions.{sheet_of, lists_agree, accepted}
use Rattle.sheet.specs.Lists.{Lists}

-- the limits of all steps, in front of what stands past them
abbrev pub limit_table : Sheet → List ℤ → List ℤ
limit_table s t = table_of (boundaries s) (limit s) ++ drop (boundaries s * boundaries s) t

-- the pass over the limits begins middle boundary m with the table t; at the last, it ends with it
abbrev pub Begins : Sheet → Boundary → List ℤ → Type 0
Begins s m t = pass_from m 0 (boundaries s) (table_of (boundaries s) (limit s)) ≡ finished t

-- n on every forward step, and the other steps as they are
unfoldable pub with_forward : ℕ → Weights → Weights
with_forward n d a b = cond (ltb a b) (pos n) (d a b)

-- the number at a place made the smaller of itself and v
abbrev pub tightened_at : ℕ → ℤ → List ℤ → List ℤ
tightened_at at v t = set t at (min_ℤ (get_or t at (pos 0)) v)

-- what filling the table asks: lists that agree, an accepted sheet, and room for the table
pub record Fillable (span : ℕ) (first last from to low high : List ℕ) (room : ℕ) : Type 0 where
  pub agree : T (lists_agree first last from to low high)
  pub ok : T (accepted (sheet_of span first last from to low high))
  pub fits : boundaries (sheet_of span first last from to low high) * boundaries (sheet_of span first last from to low high) ≤ room

-- the same of lists that a call is lent
abbrev pub CanFill : Lists → ℕ → Type 0
CanFill l room = Fillable l.span l.first l.last l.from l.to l.low l.high room
