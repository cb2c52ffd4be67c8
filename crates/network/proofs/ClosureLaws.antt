-- The laws of the step and of closed tables.
-- Key idea: closing over one more middle boundary m keeps what is closed below m, because a way that uses m twice goes around a closed walk at m, and
-- the diagonal says that this costs nothing. A closed table's rows are feasible potentials, and so is the smaller of two rows, one of them shifted:
-- this one formula reaches every rise from the least to the greatest.
use Rattle.std.specs.Prelude.{◌≡◌, ℕ, suc, ◌≤◌, ◌<◌, ℤ, pos, neg_ℤ, ◌+ℤ◌, ◌≤ℤ◌, ◌<ℤ◌}
use Rattle.std.proofs.Common.{sym, ◌∙◌, subst, arith, eq-or-lt_of_le, le_of_suc-le-suc}
use Rattle.std.proofs.Math.Logic.{⊎_elim}
use Rattle.std.specs.Int.Signed.{≤ℤ_refl}
use Rattle.integers.specs.Parts.{ints, sum, neg, min_ℤ, min_cases, min_is, min≤l, min≤r}
use Rattle.network.specs.Network.{Weights, Potential, Feasible}
use Rattle.network.proofs.NetworkLaws.{lesser_feasible}
use Rattle.network.specs.Closure.{step, ClosedBelow, Level, Finished, between}

le_sum_min : (x p q r s : ℤ) → x ≤ℤ (p +ℤ r) → x ≤ℤ (p +ℤ s) → x ≤ℤ (q +ℤ r) → x ≤ℤ (q +ℤ s) → x ≤ℤ (min_ℤ p q +ℤ min_ℤ r s)
le_sum_min x p q r s e f g h =
    min_cases p q (λ z. x ≤ℤ (z +ℤ min_ℤ r s))
    (λ _. min_cases r s (λ z. x ≤ℤ (p +ℤ z)) (λ _. e) (λ _. f))
    (λ _. min_cases r s (λ z. x ≤ℤ (q +ℤ z)) (λ _. g) (λ _. h))

-- ---- one step
step_below : (m : ℕ) (P : Weights) (a b : ℕ) → step m P a b ≤ℤ P a b
unfolding step
step_below m P a b = min≤l (P a b) (P a m +ℤ P m b)

pub step_sound : (top m : ℕ) (P : Weights) (z : Potential) → m ≤ top → Feasible top P z → Feasible top (step m P) z
unfolding step
step_sound top m P z hm f a b ha hb =
    min_cases (P a b) (P a m +ℤ P m b) (λ x. z b ≤ℤ (z a +ℤ x)) (λ _. f a b ha hb) (λ _. omega (
      ints,
      f a m ha hm,
      f m b hm hb,
      sum (z a) (P a m),
      sum (z m) (P m b),
      sum (z a) (P a m +ℤ P m b),
      sum (P a m) (P m b),
    ))

module _ (top m : ℕ) (P : Weights) (hm : m ≤ top) (d : pos 0 ≤ℤ P m m) where
  over_middle : (a b : ℕ) → step m P a b ≤ℤ (step m P a m +ℤ step m P m b)
  unfolding step
  over_middle a b =
      let am = P a m in
      let mm = P m m in
      let mb = P m b in
      let low = min≤r (P a b) (am +ℤ mb) in
      le_sum_min (min_ℤ (P a b) (am +ℤ mb)) am (am +ℤ mm) mb (mm +ℤ mb)
      low
      (omega (ints, sum am (mm +ℤ mb), sum mm mb, sum am mb))
      (omega (ints, sum (am +ℤ mm) mb, sum am mm, sum am mb))
      (omega (ints, sum (am +ℤ mm) (mm +ℤ mb), sum am mm, sum mm mb, sum am mb))

  over_earlier : (c : ClosedBelow top m P) (k a b : ℕ) → k < m → a ≤ top → b ≤ top → step m P a b ≤ℤ (step m P a k +ℤ step m P k b)
  unfolding step
  over_earlier c k a b hk ha hb =
      let am = P a m in
      let mb = P m b in
      let ak = P a k in
      let kb = P k b in
      let mk = P m k in
      let km = P k m in
      let straight = min≤l (P a b) (am +ℤ mb) in
      let round = min≤r (P a b) (am +ℤ mb) in
      le_sum_min (min_ℤ (P a b) (am +ℤ mb)) ak (am +ℤ mk) kb (km +ℤ mb)
      (omega (ints, c k a b hk ha hb))
      (omega (ints, c k a m hk ha hm, sum ak km, sum ak (km +ℤ mb), sum km mb, sum am mb))
      (omega (ints, c k m b hk hm hb, sum mk kb, sum (am +ℤ mk) kb, sum am mk, sum am mb))
      (omega (ints, c k m m hk hm hm, sum mk km, sum (am +ℤ mk) (km +ℤ mb), sum am mk, sum km mb, sum am mb))

  step_closed : ClosedBelow top m P → ClosedBelow top (suc m) (step m P)
  step_closed c k a b hk ha hb =
      ⊎_elim (λ (e : k ≡ m). subst (λ j. step m P a b ≤ℤ (step m P a j +ℤ step m P j b)) (sym e) (over_middle a b))
      (λ h. over_earlier c k a b h ha hb) (eq-or-lt_of_le (le_of_suc-le-suc hk))

-- ---- the levels of the pass
pub level_start : (top : ℕ) (d : Weights) → ((a : ℕ) → a ≤ top → pos 0 ≤ℤ d a a) → Level top d 0 d
level_start top d h = record {
  closed = λ k a b hk ha hb. absurd (omega arith);
  diagonal = h;
  below = λ a b ha hb. ≤ℤ_refl (d a b);
  sound = λ z f. f;
}

pub level_step : (top : ℕ) (d : Weights) (m : ℕ) (P : Weights) → m ≤ top → Level top d m P → ((a : ℕ) → a ≤ top → pos 0 ≤ℤ step m P a a)
    → Level top d (suc m) (step m P)
level_step top d m P hm l h = record {
  closed = step_closed top m P hm (l.diagonal m hm) l.closed;
  diagonal = h;
  below = λ a b ha hb. omega (ints, l.below a b ha hb, step_below m P a b);
  sound = λ z f. step_sound top m P z hm (l.sound z f);
}

-- a diagonal entry that falls below 0 leaves no feasible potential
pub level_stop : (top : ℕ) (d : Weights) (m : ℕ) (P : Weights) (a : ℕ) → m ≤ top → a ≤ top → Level top d m P → step m P a a <ℤ pos 0
    → (z : Potential) → Feasible top d z → ⊥
level_stop top d m P a hm ha l h z f = omega (ints, step_sound top m P z hm (l.sound z f) a a ha ha, sum (z a) (step m P a a))

pub level_finished : (top : ℕ) (d P : Weights) → ((a : ℕ) → a ≤ top → d a a ≡ pos 0) → Level top d (suc top) P → Finished top d P
level_finished top d P e l = record {
  closed = l.closed;
  diagonal = λ a ha. omega (ints, l.diagonal a ha, l.below a a ha ha, e a ha);
  below = l.below;
}

-- two tables that agree at the boundaries are at the same level
pub level_agree : (top : ℕ) (d : Weights) (m : ℕ) (P Q : Weights) → m ≤ suc top → ((a b : ℕ) → a ≤ top → b ≤ top → Q a b ≡ P a b)
    → Level top d m P → Level top d m Q
level_agree top d m P Q hm e l = record {
  closed = λ k a b hk ha hb.
      omega (ints, l.closed k a b hk ha hb, e a b ha hb, e a k ha (omega arith), e k b (omega arith) hb, sum (P a k) (P k b), sum (Q a k) (Q k b));
  diagonal = λ a ha. omega (ints, l.diagonal a ha, e a a ha ha);
  below = λ a b ha hb. omega (ints, l.below a b ha hb, e a b ha hb);
  sound = λ z f a b ha hb. omega (ints, l.sound z f a b ha hb, e a b ha hb, sum (z a) (P a b), sum (z a) (Q a b));
}

-- ---- finished tables
module _ (top : ℕ) (d D : Weights) (f : Finished top d D) where
  pub row_feasible : (a : ℕ) → a ≤ top → Feasible top d (D a)
  row_feasible a ha v w hv hw =
      omega (ints, f.below v w hv hw, f.closed v a w (omega arith) ha hw, sum (D a v) (D v w), sum (D a v) (d v w))

  -- there and back costs nothing less than 0, so the least rise is at most the greatest
  pub there_and_back : (a b : ℕ) → a ≤ top → b ≤ top → neg_ℤ (D b a) ≤ℤ D a b
  there_and_back a b ha hb = omega (ints, f.closed b a a (omega arith) ha ha, f.diagonal a ha, sum (D a b) (D b a), neg (D b a))

  module _ (a b : ℕ) (ha : a ≤ top) (hb : b ≤ top) (k : ℤ) where
    pub between_feasible : Feasible top d (between D a b k)
    unfolding between
    between_feasible = lesser_feasible top d (D a) (D b) k (row_feasible a ha) (row_feasible b hb)

    pub between_start : neg_ℤ (D b a) ≤ℤ k → between D a b k a ≡ pos 0
    unfolding between
    between_start h = ⊎_elim (λ p. p.0 ∙ f.diagonal a ha)
        (λ p. let t : ⊥ = omega (ints, p.1, f.diagonal a ha, sum k (D b a), neg (D b a)) in absurd t) (min_is (D a a) (k +ℤ D b a))

    pub between_end : k ≤ℤ D a b → between D a b k b ≡ k
    unfolding between
    between_end h = ⊎_elim (λ p. omega (ints, f.diagonal b hb, sum k (D b b))) (λ p. omega (ints, f.diagonal b hb, sum k (D b b)))
        (min_is (D a b) (k +ℤ D b b))

  -- row 0 starts at 0 and is the greatest potential that does
  pub greatest : (z : Potential) → z 0 ≡ pos 0 → Feasible top D z → (v : ℕ) → v ≤ top → z v ≤ℤ D 0 v
  greatest z e g v hv = omega (ints, g 0 v (omega arith) hv, sum (z 0) (D 0 v))
