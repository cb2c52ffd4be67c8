-- Counting by one store a unit.
-- Key idea: one unit more raises the count of its own slot by one and no other, and so does the store.
use mathlib.Core.Path.{◌≡◌, refl, sym, ap, ◌∙◌}
use mathlib.Core.Bool.{Bool}
use mathlib.Core.List.{List, [], ◌∷◌, ◌++◌}
use Prim.Native.Nat.{ℕ, ◌+◌, ◌≤◌, ◌<◌}
use native.Mathlib.Omega.{arith}
use native.Mathlib.Decide.{ℕ_discrete}
use native.Mathlib.Numerals.{add-one}
use lib.Dec.{eqb}
use lib.ListN.{length, get_or, take, set, replicate, length-set, length-take, get_or-replicate}
use lib.Seq.{take-suc, take_all, get_or-set_same, get_or-set_other, ext_get_or}
use borrow.Author.Tests.{eq-eqb, ne_eqb}
use Rattle.lists.specs.Lists.{how_many, one_if}
use Rattle.lists.specs.Counts.{how_many_count, count_most}
use Rattle.network.specs.Table.{max_boundaries}
use Rattle.pages.specs.Page.{units_at, slot_counts}
use Rattle.pages.proofs.PageLaws.{counts_at, counts_length}

how_many_last : (t : ℕ → Bool) (xs : List ℕ) (x : ℕ) → how_many t (xs ++ (x ∷ [])) ≡ how_many t xs + one_if (t x)
how_many_last t [] x = omega arith
how_many_last t (y ∷ ys) x = omega (arith, how_many_last t ys x)

-- the counts of the first j units
pub record Counted (plan : List ℕ) (j : ℕ) (counts : List ℕ) : Type 0 where
  pub long : length counts ≡ max_boundaries
  pub each : (t : ℕ) → t < max_boundaries → get_or counts t 0 ≡ units_at (take j plan) t

pub counted_none : (plan counts : List ℕ) → counts ≡ replicate max_boundaries 0 → Counted plan 0 counts
counted_none plan counts e = record {
  long = ap length e;
  each = λ t h. ap (λ c. get_or c t 0) e ∙ get_or-replicate max_boundaries t 0 0 h;
}

pub counted_small : {plan : List ℕ} {j : ℕ} {counts : List ℕ} → Counted plan j counts → (t : ℕ) → t < max_boundaries → get_or counts t 0 ≤ j
counted_small {plan} {j} {counts} c t h =
    let front = take j plan in
    omega (arith, c.each t h, how_many_count (eqb t) 0 front, count_most (length front) (λ i. eqb t (get_or front i 0)), length-take j plan)

module _ {plan : List ℕ} {j : ℕ} {counts : List ℕ} (less : j < length plan) (c : Counted plan j counts) where
  one_more : (t : ℕ) → units_at (take (j + 1) plan) t ≡ units_at (take j plan) t + one_if (eqb t (get_or plan j 0))
  one_more t = rw (add-one j, take-suc plan j 0 less) (how_many_last (eqb t) (take j plan) (get_or plan j 0))

  -- the unit's slot has a count
  pub counted_store : get_or plan j 0 < max_boundaries → Counted plan (j + 1) (set counts (get_or plan j 0) (get_or counts (get_or plan j 0) 0 + 1))
  counted_store h = record { long = length-set counts _ _ ∙ c.long; each = each }
    where
      each : (t : ℕ) → t < max_boundaries → get_or (set counts (get_or plan j 0) (get_or counts (get_or plan j 0) 0 + 1)) t 0 ≡ units_at (take (j + 1) plan) t
      each t g = elim (ℕ_discrete t (get_or plan j 0)) [
        | yes e ↦ rw e (get_or-set_same counts (get_or plan j 0) (get_or counts (get_or plan j 0) 0 + 1) 0 (omega (arith, c.long))
            ∙ omega (arith, c.each (get_or plan j 0) h, one_more (get_or plan j 0), ap one_if (eq-eqb (get_or plan j 0) (get_or plan j 0) refl)))
        | no n ↦ get_or-set_other counts (get_or plan j 0) t (get_or counts (get_or plan j 0) 0 + 1) 0 n
            ∙ omega (arith, c.each t g, one_more t, ap one_if (ne_eqb t (get_or plan j 0) n))
      ]

  -- it has none
  pub counted_pass : max_boundaries ≤ get_or plan j 0 → Counted plan (j + 1) counts
  counted_pass h = record {
    long = c.long;
    each = λ t g. omega (arith, c.each t g, one_more t, ap one_if (ne_eqb t (get_or plan j 0) (λ e. omega arith)));
  }

-- all units are counted
pub counted_all : {plan : List ℕ} {j : ℕ} {counts : List ℕ} → length plan ≤ j → Counted plan j counts → counts ≡ slot_counts plan
counted_all {plan} {j} {counts} e c =
    ext_get_or 0 counts (slot_counts plan) (c.long ∙ sym (counts_length plan))
    (λ t h. let k : t < max_boundaries = omega (arith, c.long) in c.each t k ∙ ap (λ p. units_at p t) (take_all j plan e) ∙ sym (counts_at plan t k))
