-- The numbers of a pass stay small.
-- Key idea: entries only fall, so none is above its weight. Where b is done, there and back from a over b costs at least 0, so an entry into b is no lower than
-- minus the entry back. Where b is not done, the last step into b came from a boundary below it and went forward, so it cost at least 0: the entry is
-- a weight itself, or no less than an entry into a boundary that is done.
use Rattle.std.specs.Prelude.{◌≡◌, refl, ◌⊎◌, List, ℕ, suc, ◌+◌, ◌-◌, ◌≤◌, ◌<◌, ℤ, pos, negsuc, ◌+ℤ◌, ◌≤ℤ◌, ◌<ℤ◌}
use Rattle.std.proofs.Common.{ap, ◌∙◌, subst}
use Rattle.std.proofs.Math.Logic.{inl, inr, ⊎_elim}
use native.Mathlib.Omega.{arith}
use Rattle.std.proofs.Math.Decide.{dec_le}
use Rattle.integers.specs.Parts.{up, dn, Within, ints, sum, min_ℤ, min_is, min≤l, min≤r}
use Rattle.network.specs.Network.{Weights}
use Rattle.network.specs.Closure.{step, Level}
use Rattle.network.proofs.ClosureLaws.{level_start}
use Rattle.network.specs.Table.{entry, middle}
use Rattle.network.proofs.TableLaws.{entry_middle}
use Rattle.network.specs.Bounds.{max_weight, max_sum, Small}
use Rattle.network.proofs.BoundLaws.{sum_within, step_within}
use Rattle.network_pass.specs.Pass.{Passed, finished, stopped, pass_from}
use Rattle.network_pass.proofs.PassLaws.{finished_keeps, middle_level}
use Rattle.network_pass.specs.PassBounds.{Limited, StaysSmall, Behind, Held}

-- ---- what the pass keeps, and the bound that follows from it
module _ (top : ℕ) (d : Weights) where
  behind_start : Behind top d 0 d
  behind_start a b ha hm hb = inl refl

  behind_step : ((a b : ℕ) → a < b → b ≤ top → pos 0 ≤ℤ d a b) → (m : ℕ) (P : Weights) → m ≤ top → Behind top d m P → Behind top d (suc m) (step m P)
  unfolding step
  behind_step forward m P hm h a b ha hb ht =
      ⊎_elim
      (λ (p : (min_ℤ (P a b) (P a m +ℤ P m b) ≡ P a b) × (P a b ≤ℤ (P a m +ℤ P m b))).
      ⊎_elim
      (λ (e : P a b ≡ d a b). inl (p.0 ∙ e))
      (λ (q : (k : ℕ) × (k < m) × (P a k ≤ℤ P a b)).
      inr (q.0, omega (arith, q.1), omega (ints, q.2, p.0, min≤l (P a q.0) (P a m +ℤ P m q.0))))
      (h a b ha (omega arith) ht))
      (λ (p : (min_ℤ (P a b) (P a m +ℤ P m b) ≡ (P a m +ℤ P m b)) × ((P a m +ℤ P m b) <ℤ P a b)).
      ⊎_elim
      (λ (e : P m b ≡ d m b).
      inr (m, omega arith, omega (ints, p.0, e, forward m b hb ht, sum (P a m) (P m b), min≤l (P a m) (P a m +ℤ P m m))))
      (λ (q : (k : ℕ) × (k < m) × (P m k ≤ℤ P m b)).
      inr (
        q.0,
        omega (arith, q.1),
        omega (
          ints,
          q.2,
          p.0,
          sum (P a m) (P m b),
          sum (P a m) (P m q.0),
          min≤r (P a q.0) (P a m +ℤ P m q.0),
        ),
      ))
      (h m b hm (omega arith) ht))
      (min_is (P a b) (P a m +ℤ P m b))

  behind_agree : (m : ℕ) (P Q : Weights) → m ≤ suc top → ((a b : ℕ) → a ≤ top → b ≤ top → Q a b ≡ P a b) → Behind top d m P → Behind top d m Q
  behind_agree m P Q hm e h a b ha hb ht = ⊎_elim
      (λ (x : P a b ≡ d a b). inl (e a b ha ht ∙ x))
      (λ (q : (k : ℕ) × (k < m) × (P a k ≤ℤ P a b)).
      inr (q.0, q.1, omega (ints, q.2, e a b ha ht, e a q.0 ha (omega (arith, q.1)))))
      (h a b ha hb ht)

  module _ (H : ℕ) (small : (a b : ℕ) → a ≤ top → b ≤ top → Within H (d a b)) (m : ℕ) (P : Weights) (l : Level top d m P) (h : Behind top d m P) where
    most : (a b : ℕ) → a ≤ top → b ≤ top → up (P a b) ≤ H + dn (P a b)
    most a b ha hb = omega (ints, l.below a b ha hb, small a b ha hb)

    low_done : (a b : ℕ) → a ≤ top → b ≤ top → b < m → dn (P a b) ≤ H + up (P a b)
    low_done a b ha hb hm = omega (ints, l.closed b a a hm ha ha, l.diagonal a ha, sum (P a b) (P b a), most b a hb ha)

    low : (a b : ℕ) → a ≤ top → b ≤ top → dn (P a b) ≤ H + up (P a b)
    low a b ha hb = elim (dec_le m b) [
      | no g ↦ low_done a b ha hb (omega arith)
      | yes g ↦ ⊎_elim
          (λ (e : P a b ≡ d a b). omega (ints, e, small a b ha hb))
          (λ (q : (k : ℕ) × (k < m) × (P a k ≤ℤ P a b)).
          omega (ints, q.2, low_done a q.0 ha (omega (arith, q.1)) q.1))
          (h a b ha g hb)
    ]

    parts : (z : ℤ) → up z ≤ H + dn z → dn z ≤ H + up z → Within H z
    parts (pos n) p q = (omega arith, omega arith)
    parts (negsuc n) p q = (omega arith, omega arith)

    within : (a b : ℕ) → a ≤ top → b ≤ top → Within H (P a b)
    within a b ha hb = parts (P a b) (most a b ha hb) (low a b ha hb)

-- ---- one middle boundary: a small table is all that it asks for
pub small_one : (w m : ℕ) (t : List ℤ) → Small w t → StaysSmall w m 1 t
unfolding pass_from
small_one w m t S j u h e =
    let z : j ≡ 0 = omega arith in
    let q : finished t ≡ finished u = rw z at e in
    subst (Small w) (ap list_in q) S
  where
    list_in : Passed → List ℤ
    list_in (finished x) = x
    list_in stopped = t

-- ---- the pass over limits, however many boundaries there are: the table at which it begins the middle boundary m, which may be the one that stops it
module _ (w : ℕ) (some : 0 < w) (t : List ℤ) (L : Limited w t) (m : ℕ) (hm : m ≤ w) (u : List ℤ) (begins : pass_from m 0 w t ≡ finished u) where
  abbrev top : ℕ
  top = w - 1

  size : w ≡ suc top
  size = omega arith

  keeps : (j : ℕ) (x : List ℤ) → j < w → Held top (entry w t) j (entry w x) → ((a : ℕ) → a < w → pos 0 ≤ℤ step j (entry w x) a a)
      → Held top (entry w t) (suc j) (entry w (middle w j x))
  keeps j x hj H fine = record {
    level = middle_level top w size (entry w t) j x hj H.level fine;
    behind = behind_agree top (entry w t) (suc j) (step j (entry w x)) (entry w (middle w j x)) (omega arith)
        (λ a b ha hb. entry_middle w j x a b (omega arith) (omega arith))
        (behind_step top (entry w t) (λ a b l hb. L.forward a b l (omega arith)) j (entry w x) (omega arith) H.behind);
  }

  held : Held top (entry w t) m (entry w u)
  held = let z : 0 + m ≡ m = omega arith in
      subst (λ (i : ℕ). Held top (entry w t) i (entry w u)) z
      (finished_keeps w (Held top (entry w t)) keeps m 0 t u (omega arith) (record {
        level = level_start top (entry w t) (λ a ha. let z = L.diagonal a (omega arith) in omega ints);
        behind = behind_start top (entry w t);
      }) begins)

  -- every number is small,
  pub begins_small : Small w u
  begins_small a b ha hb =
      within top (entry w t) max_weight (λ a b ha hb. L.small a b (omega arith) (omega arith)) m (entry w u) held.level held.behind
      a b (omega arith) (omega arith)

  -- no diagonal entry is below 0,
  pub begins_diagonal : (a : ℕ) → a < w → pos 0 ≤ℤ entry w u a a
  begins_diagonal a ha = held.level.diagonal a (omega arith)

  module _ (inside : m < w) (a b : ℕ) (ha : a < w) (hb : b < w) where
    -- every sum made over m is of two small numbers,
    pub begins_sums : Within max_sum (entry w u a m +ℤ entry w u m b)
    begins_sums = sum_within w m inside u begins_small a b ha hb

    -- and so is every number that takes its place.
    pub begins_steps : Within max_sum (step m (entry w u) a b)
    begins_steps = step_within w m inside u begins_small a b ha hb

pub stays_small : (w : ℕ) (t : List ℤ) → Limited w t → StaysSmall w 0 w t
stays_small w t L j u h e = begins_small w (omega arith) t L j (omega arith) u e
