-- The laws of levels.
-- Key idea: a level that no step lowers any more is a feasible potential. So where there is none, every level falls somewhere, the last one too. The
-- boundary u from which a boundary's level came had itself fallen one level earlier, or the later fall would have come earlier.
use Rattle.std.specs.Prelude.{◌≡◌, refl, ◌⊎◌, ℕ, zero, suc, ◌+◌, ◌<◌, ℤ, pos, ◌+ℤ◌, ◌≤ℤ◌, ◌<ℤ◌}
use Rattle.std.proofs.Common.{sym, ap, ◌∙◌, inl, inr, arith, eq-or-lt_of_le, le_of_suc-le-suc}
use Rattle.std.proofs.Math.Logic.{⊎_elim}
use Rattle.std.specs.Int.Signed.{≤ℤ_refl}
use Rattle.integers.specs.Parts.{ints, sum, min_ℤ, min_cases, min_is, min≤l, min≤r}
use Rattle.network.specs.Network.{Weights, Feasible}
use Rattle.network_levels.specs.Levels.{least_over, level}

-- ---- the smallest of several
least_start : (n : ℕ) (g : ℕ → ℤ) (z : ℤ) → least_over n g z ≤ℤ z
least_start zero g z = ≤ℤ_refl z
least_start (suc n) g z = omega (ints, min≤l (least_over n g z) (g n), least_start n g z)

pub least_at : (n : ℕ) (g : ℕ → ℤ) (z : ℤ) (u : ℕ) → u < n → least_over n g z ≤ℤ g u
least_at zero g z u h = absurd (omega arith)
least_at (suc n) g z u h = ⊎_elim
    (λ (e : u ≡ n). omega (ints, min≤r (least_over n g z) (g n), ap g e))
    (λ l. omega (ints, min≤l (least_over n g z) (g n), least_at n g z u l)) (eq-or-lt_of_le (le_of_suc-le-suc h))

pub record Attained (n : ℕ) (g : ℕ → ℤ) (x : ℤ) : Type 0 where
  pub place : ℕ
  pub inside : place < n
  pub value : g place ≡ x

pub least_attained : (n : ℕ) (g : ℕ → ℤ) (z : ℤ) → (least_over n g z ≡ z) ⊎ Attained n g (least_over n g z)
least_attained zero g z = inl refl
least_attained (suc n) g z = ⊎_elim
    (λ p. ⊎_elim (λ e. inl (p.0 ∙ e))
    (λ (r : Attained n g (least_over n g z)). inr (record { place = r.place; inside = omega (arith, r.inside); value = r.value ∙ sym p.0 }))
    (least_attained n g z))
    (λ p. inr (record { place = n; inside = omega arith; value = sym p.0 })) (min_is (least_over n g z) (g n))

-- what holds of all of them holds of the smallest
pub least_among : (n : ℕ) (g : ℕ → ℤ) (z : ℤ) (Q : ℤ → Type 0) → Q z → ((u : ℕ) → u < n → Q (g u)) → Q (least_over n g z)
least_among zero g z Q q f = q
least_among (suc n) g z Q q f =
    min_cases (least_over n g z) (g n) Q (λ _. least_among n g z Q q (λ u h. f u (omega arith))) (λ _. f n (omega arith))

-- the same numbers have the same smallest one
pub least_same : (n : ℕ) (g h : ℕ → ℤ) (z : ℤ) → ((u : ℕ) → u < n → g u ≡ h u) → least_over n g z ≡ least_over n h z
least_same zero g h z f = refl
least_same (suc n) g h z f =
    ap (λ (x : ℤ). min_ℤ x (g n)) (least_same n g h z (λ u l. f u (omega arith))) ∙ ap (λ (x : ℤ). min_ℤ (least_over n h z) x) (f n (omega arith))

-- ---- levels
module _ (w : ℕ) (d : Weights) where
  pub level_falls : (k v : ℕ) → level w d (suc k) v ≤ℤ level w d k v
  unfolding level
  level_falls k v = least_start w (λ u. level w d k u +ℤ d u v) (level w d k v)

  pub level_step : (k u v : ℕ) → u < w → level w d (suc k) v ≤ℤ (level w d k u +ℤ d u v)
  unfolding level
  level_step k u v h = least_at w (λ u. level w d k u +ℤ d u v) (level w d k v) u h

  pub level_sinks : (k j v : ℕ) → level w d (j + k) v ≤ℤ level w d k v
  level_sinks k zero v = let e : 0 + k ≡ k = omega arith in omega (ints, ap (λ (n : ℕ). level w d n v) e)
  level_sinks k (suc j) v =
      let e : suc j + k ≡ suc (j + k) = omega arith in
      omega (ints, ap (λ (n : ℕ). level w d n v) e, level_falls (j + k) v, level_sinks k j v)

  -- the boundary from which a level comes
  pub level_source : (k v : ℕ) → v < w → d v v ≡ pos 0 → Attained w (λ u. level w d k u +ℤ d u v) (level w d (suc k) v)
  unfolding level
  level_source k v h z = ⊎_elim
      (λ e. record { place = v; inside = h; value = omega (ints, sum (level w d k v) (d v v)) })
      (λ r. r) (least_attained w (λ u. level w d k u +ℤ d u v) (level w d k v))

  -- a level that does not fall is feasible
  pub level_feasible : (top k : ℕ) → w ≡ suc top → ((v : ℕ) → v < w → level w d k v ≤ℤ level w d (suc k) v) → Feasible top d (level w d k)
  level_feasible top k e f a b ha hb = omega (ints, f b (omega arith), level_step k a b (omega arith))

  -- a boundary that fell, and the boundary from which its level came
  pub fell_earlier : (k u v : ℕ) → u < w → level w d (suc (suc k)) v <ℤ level w d (suc k) v → (level w d (suc k) u +ℤ d u v) ≡ level w d (suc (suc k)) v
      → level w d (suc k) u <ℤ level w d k u
  fell_earlier k u v h l e = omega (ints, level_step k u v h, sum (level w d (suc k) u) (d u v), sum (level w d k u) (d u v))
