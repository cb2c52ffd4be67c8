-- The pass over the table of a network, and what it leaves. Definitions only.
use Rattle.std.specs.Prelude.{◌≡◌, cond, List, ℕ, zero, suc, ◌*◌, length, drop, ℤ, pos, Result, Ok, Err}
use Rattle.std.specs.Int.Signed.{lt_z}
use Rattle.network.specs.Closure.{step}
use Rattle.network.specs.Table.{entry, middle, cleared}
use Rattle.network_pass.specs.declared.NegativeCycle.{NegativeCycle}

-- how a pass ends: with its table, or at a diagonal entry below 0
pub data Passed : Type 0 where
  finished : List ℤ → Passed
  stopped : Passed

-- k rows from row a on, in order, over middle boundary m of the table t: each has its new diagonal entry not below 0, or ends the pass
unfoldable pub after_rows : ℕ → ℕ → ℕ → ℕ → List ℤ → Passed → Passed
after_rows zero a w m t next = next
after_rows (suc k) a w m t next = cond (lt_z (step m (entry w t) a a) (pos 0)) stopped (after_rows k (suc a) w m t next)

-- k middle boundaries from m on
unfoldable pub pass_from : ℕ → ℕ → ℕ → List ℤ → Passed
pass_from zero m w t = finished t
pass_from (suc k) m w t = after_rows w 0 w m t (pass_from k (suc m) w (middle w m t))

-- the whole pass
abbrev pub pass_of : ℕ → List ℤ → Passed
pass_of w t = pass_from w 0 w t

-- the answer of a pass, and the table that it leaves where t was lent: zeros where it did not finish
abbrev pub Outcome : Type 0
Outcome = Result (Unit {0}) NegativeCycle

abbrev pub outcome_of : Passed → Outcome
outcome_of (finished t) = Ok tt
outcome_of stopped = Err (record {})

abbrev pub table_after : ℕ → List ℤ → Passed → List ℤ
table_after w t (finished u) = u
table_after w t stopped = cleared (w * w) t

-- the answer r and the list u that a pass p leaves where t was lent
pub record After (w : ℕ) (t : List ℤ) (p : Passed) (r : Outcome) (u : List ℤ) : Type 0 where
  pub outcome : r ≡ outcome_of p
  pub table : u ≡ table_after w t p

-- what the loops of the pass leave: the table of a pass that finishes; past the table nothing changes
pub record Ran (w : ℕ) (t : List ℤ) (p : Passed) (r : Outcome) (u : List ℤ) : Type 0 where
  pub outcome : r ≡ outcome_of p
  pub table : (x : List ℤ) → p ≡ finished x → u ≡ x
  pub long : length u ≡ length t
  pub past : drop (w * w) u ≡ drop (w * w) t
