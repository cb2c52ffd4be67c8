-- A pass over a table that stands at the front of a longer room is the pass over the table alone, with the room's other places behind it.
-- Key idea: everything that the pass reads lies inside the table, so each definition agrees on the two lists, and the rest is carried along.
use Rattle.std.specs.Prelude.{◌≡◌, Bool, true, false, length, ℤ, pos}
use Rattle.std.proofs.Math.Path.{refl, sym, ap, ap₂}
use Rattle.std.proofs.Common.{◌∙◌, arith, drop_at}
use Rattle.std.proofs.Math.Bool.{cond}
use mathlib.Core.List.{List, [], ◌++◌, append-nil}
use Prim.Native.Nat.{ℕ, zero, suc, ◌+◌, ◌*◌, ◌≤◌, ◌<◌}
use Rattle.std.proofs.Math.ListN.{drop, drop_of_length-le, get_or-append}
use Rattle.std.proofs.Math.IntN.{◌+ℤ◌}
use Rattle.std.specs.Int.Signed.{lt_z}
use Rattle.lists.specs.Lists.{joined}
use Rattle.lists.specs.Values.{list_of, values_same, list_of_same}
use Rattle.integers.specs.Parts.{min_ℤ}
use Rattle.network.specs.Network.{Weights}
use Rattle.network.specs.Closure.{step}
use Rattle.network.specs.Table.{table_of, entry, middle}
use Rattle.network.proofs.TableLaws.{length_middle, row_inside}
use Rattle.network_pass.specs.Pass.{Passed, finished, stopped, after_rows, pass_from, pass_of}

-- ---- tables that agree place by place
pub table_of_same : (w : ℕ) (f g : Weights) → ((a b : ℕ) → a < w → b < w → f a b ≡ g a b) → table_of w f ≡ table_of w g
table_of_same w f g h =
    ap joined
    (values_same (λ a. list_of w (f a)) (λ a. list_of w (g a)) 0 w (λ a l k. list_of_same w (f a) (g a) (λ b hb. h a b (omega arith) hb)))

-- ---- the table t with other places r behind it
abbrev pub with_rest : List ℤ → Passed → Passed
with_rest r (finished t) = finished (t ++ r)
with_rest r stopped = stopped

module _ (w m : ℕ) (hm : m < w) (t r : List ℤ) (size : length t ≡ w * w) where
  entry_same : (a b : ℕ) → a < w → b < w → entry w (t ++ r) a b ≡ entry w t a b
  entry_same a b ha hb = get_or-append t r (pos 0) (a * w + b) (omega (arith, row_inside a w ha))

  step_same : (a b : ℕ) → a < w → b < w → step m (entry w (t ++ r)) a b ≡ step m (entry w t) a b
  unfolding step
  step_same a b ha hb = ap₂ min_ℤ (entry_same a b ha hb) (ap₂ ◌+ℤ◌ (entry_same a m ha hm) (entry_same m b hm hb))

  middle_front : middle w m (t ++ r) ≡ middle w m t ++ r
  unfolding middle
  middle_front =
      let T = table_of w (step m (entry w t)) in
      let none : drop (w * w) t ≡ [] = drop_of_length-le t {i = w * w} (omega arith) in
      ap₂ ◌++◌ (table_of_same w (step m (entry w (t ++ r))) (step m (entry w t)) step_same) (drop_at t r (w * w) size)
      ∙ sym (ap (λ (x : List ℤ). (T ++ x) ++ r) none ∙ ap (λ (x : List ℤ). x ++ r) (append-nil T))

  chosen : (low : Bool) (next : Passed) → cond low stopped (with_rest r next) ≡ with_rest r (cond low stopped next)
  chosen true next = refl
  chosen false next = refl

  rows_front : (k a : ℕ) → a + k ≤ w → (next : Passed) → after_rows k a w m (t ++ r) (with_rest r next) ≡ with_rest r (after_rows k a w m t next)
  unfolding after_rows
  rows_front zero a h next = refl
  rows_front (suc k) a h next =
      let low = lt_z (step m (entry w t) a a) (pos 0) in
      ap (λ (z : ℤ). cond (lt_z z (pos 0)) stopped (after_rows k (suc a) w m (t ++ r) (with_rest r next))) (step_same a a (omega arith) (omega arith))
      ∙ ap (cond low stopped) (rows_front k (suc a) (omega arith) next)
      ∙ chosen low (after_rows k (suc a) w m t next)

from_front : (w k m : ℕ) → m + k ≤ w → (t r : List ℤ) → length t ≡ w * w → pass_from k m w (t ++ r) ≡ with_rest r (pass_from k m w t)
unfolding pass_from
from_front w zero m h t r size = refl
from_front w (suc k) m h t r size =
    let n = middle w m t in
    ap (λ (x : List ℤ). after_rows w 0 w m (t ++ r) (pass_from k (suc m) w x)) (middle_front w m (omega arith) t r size)
    ∙ ap (after_rows w 0 w m (t ++ r)) (from_front w k (suc m) (omega arith) n r (length_middle w m t (omega arith) ∙ size))
    ∙ rows_front w m (omega arith) t r size w 0 (omega arith) (pass_from k (suc m) w n)

pub pass_front : (w : ℕ) (t r : List ℤ) → length t ≡ w * w → pass_of w (t ++ r) ≡ with_rest r (pass_of w t)
pass_front w t r size = from_front w w 0 (omega arith) t r size
