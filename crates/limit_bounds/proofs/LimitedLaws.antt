-- How large the numbers are that the pass over a sheet's limits makes, and a sheet that reaches the largest sum.
-- Key idea: limits are counts, so they are small and forward not below 0, and of such weights `PassBoundLaws` says that a pass keeps them small.
use Rattle.std.specs.Prelude.{◌≡◌, refl, List, [], ◌++◌, ℕ, ◌≤◌, ◌<◌, T, ℤ, pos, ◌+ℤ◌, ◌≤ℤ◌}
use Rattle.std.proofs.Common.{◌∙◌, subst, append-nil, arith}
use Rattle.integers.specs.Parts.{Within, ints}
use Rattle.network.specs.Closure.{step}
use Rattle.network.specs.Table.{table_of, entry, middle}
use Rattle.network.proofs.TableLaws.{entry_front}
use Rattle.network_pass.specs.Pass.{after_rows, pass_from}
use Rattle.network_pass.specs.PassBounds.{Limited}
use Rattle.network_pass.proofs.PassBoundLaws.{begins_small, begins_diagonal, begins_sums, begins_steps}
use Rattle.slots.specs.Slots.{Boundary}
use Rattle.sheet.specs.Sheet.{Sheet, top, boundaries, at_most, at_least, limit}
use Rattle.sheet.proofs.LimitLaws.{limit_fwd, limit_same}
use Rattle.sheet.specs.Questions.{accepted, span_fits, units_fit, rules_fit, windows_fit, stretches_fit, counts_fit}
use Rattle.limit_bounds.specs.Full.{full}
use Rattle.limits.specs.LimitTable.{Begins}
use Rattle.limits.specs.LimitTableLaws.{limit_small}

-- ---- the limits are limited weights, also at the front of a longer room
pub limits_limited_room : (s : Sheet) → T (accepted s) → (rest : List ℤ) → Limited (boundaries s) (table_of (boundaries s) (limit s) ++ rest)
limits_limited_room s ok rest =
    let w = boundaries s in
    let at : (a b : ℕ) → a < w → b < w → entry w (table_of w (limit s) ++ rest) a b ≡ limit s a b = entry_front w (limit s) rest in
    record {
      small = λ a b ha hb. rw (at a b ha hb) (limit_small s ok a b);
      forward = λ a b h hb. omega (ints, at a b (omega arith) hb, limit_fwd s a b h);
      diagonal = λ a h. at a a h h ∙ limit_same s a;
    }

pub limits_limited : (s : Sheet) → T (accepted s) → Limited (boundaries s) (table_of (boundaries s) (limit s))
limits_limited s ok =
    subst (Limited (boundaries s)) (append-nil (table_of (boundaries s) (limit s))) (limits_limited_room s ok [])

-- ---- what an accepted sheet's pass makes: the table t at which it begins the middle boundary m, which may be the one that stops it
module _ (s : Sheet) (ok : T (accepted s)) (m : Boundary) (t : List ℤ) (begins : Begins s m t) where
  abbrev D : Boundary → Boundary → ℤ
  D = entry (boundaries s) t

  abbrev start : List ℤ
  start = table_of (boundaries s) (limit s)

  -- Every number is within 300; so too in the table that a finished pass leaves.
  pub numbers_within : m ≤ boundaries s → (a b : Boundary) → a ≤ top s → b ≤ top s → Within 300 (D a b)
  numbers_within hm a b ha hb = begins_small (boundaries s) (omega arith) start (limits_limited s ok) m hm t begins a b (omega arith) (omega arith)

  -- No diagonal entry is below 0.
  pub diagonal_not_below : m ≤ boundaries s → (a : Boundary) → a ≤ top s → pos 0 ≤ℤ D a a
  diagonal_not_below hm a ha = begins_diagonal (boundaries s) (omega arith) start (limits_limited s ok) m hm t begins a (omega arith)

  module _ (hm : m ≤ top s) (a b : Boundary) (ha : a ≤ top s) (hb : b ≤ top s) where
    -- Every sum made over this middle boundary is within 600,
    pub sums_within : Within 600 (D a m +ℤ D m b)
    sums_within =
        begins_sums (boundaries s) (omega arith) start (limits_limited s ok) m (omega arith) t begins (omega arith) a b (omega arith) (omega arith)

    -- and so is every number that takes a place of the table, row by row.
    pub rewritten_within : Within 600 (step m D a b)
    rewritten_within =
        begins_steps (boundaries s) (omega arith) start (limits_limited s ok) m (omega arith) t begins (omega arith) a b (omega arith) (omega arith)

-- ---- the bound is reached

-- an accepted sheet whose pass finishes, and makes the sum z on the way from a to b over the middle boundary m
pub record Reached (z : ℤ) : Type 0 where
  pub sheet : Sheet
  pub ok : T (accepted sheet)
  pub m : Boundary
  pub table : List ℤ
  pub begins : Begins sheet m table
  pub a : Boundary
  pub b : Boundary
  pub sum : (entry (boundaries sheet) table a m +ℤ entry (boundaries sheet) table m b) ≡ z
  pub left : List ℤ
  pub finishes : Begins sheet (boundaries sheet) left

full_accepted : T (accepted full)
unfolding accepted span_fits units_fit rules_fit windows_fit stretches_fit counts_fit top
full_accepted = tt

-- its tables: where the middle boundaries 1 and 2 begin, and what the pass leaves
abbrev second : List ℤ
second = middle (boundaries full) 0 (table_of (boundaries full) (limit full))

abbrev last : List ℤ
last = middle (boundaries full) 2 (middle (boundaries full) 1 second)

second_begins : Begins full 1 second
unfolding pass_from after_rows middle step limit at_most at_least top
second_begins = refl

last_begins : Begins full (boundaries full) last
unfolding pass_from after_rows middle step limit at_most at_least top
last_begins = refl

second_sum : (entry (boundaries full) second 0 1 +ℤ entry (boundaries full) second 1 2) ≡ pos 600
unfolding middle step limit at_most at_least top
second_sum = refl

-- Some sheet's pass makes a sum of exactly 600.
pub sum_reached : Reached (pos 600)
sum_reached = record {
  sheet = full;
  ok = full_accepted;
  m = 1;
  table = second;
  begins = second_begins;
  a = 0;
  b = 2;
  sum = second_sum;
  left = last;
  finishes = last_begins;
}
