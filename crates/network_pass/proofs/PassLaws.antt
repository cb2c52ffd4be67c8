-- What the pass over a list says of the network whose table it is.
-- Key idea: each middle boundary takes the table one level up (ClosureLaws), since its entries are the step's. So a pass that finishes leaves a finished
-- table, which every feasible potential respects, and one that stops shows that there is no feasible potential.
use Rattle.std.specs.Prelude.{◌≡◌, refl, ◌⊎◌, Bool, true, false, cond, length, drop, ℤ, pos, ◌≤ℤ◌, ◌<ℤ◌}
use Rattle.std.proofs.Common.{ap, ◌∙◌, inl, inr, eq-or-lt_of_le}
use Rattle.std.proofs.Math.Path.{subst}
use Rattle.std.proofs.Math.Logic.{⊎_elim}
use mathlib.Core.List.{List}
use Prim.Native.Nat.{ℕ, zero, suc, ◌+◌, ◌*◌, ◌≤◌, ◌<◌}
use native.Mathlib.Omega.{arith}
use Rattle.std.specs.Int.Signed.{lt_z}
use Rattle.integers.specs.Parts.{ints}
use Rattle.network.specs.Network.{Weights, Potential, Feasible}
use Rattle.network.specs.Closure.{step, Level, Finished}
use Rattle.network.proofs.ClosureLaws.{level_start, level_step, level_stop, level_finished, level_agree}
use Rattle.network.specs.Table.{entry, middle}
use Rattle.network.proofs.TableLaws.{entry_middle, length_middle, drop_middle}
use Rattle.network_pass.specs.Pass.{Passed, finished, stopped, after_rows, pass_from, pass_of}

-- ---- the rows of one middle boundary
-- the rows from a to a + k are passed by: no new diagonal entry of theirs is below 0
record PassedBy (w m : ℕ) (t : List ℤ) (k a : ℕ) (next p : Passed) : Type 0 where
  on : next ≡ p
  fine : (b : ℕ) → a ≤ b → b < a + k → pos 0 ≤ℤ step m (entry w t) b b

-- a row has a new diagonal entry below 0
record StoppedAt (w m : ℕ) (t : List ℤ) (k a : ℕ) (p : Passed) : Type 0 where
  is : stopped ≡ p
  row : ℕ
  inside : row < a + k
  low : step m (entry w t) row row <ℤ pos 0

row_cases : (l : Bool) (more p : Passed) → cond l stopped more ≡ p → ((l ≡ false) × (more ≡ p)) ⊎ ((l ≡ true) × (stopped ≡ p))
row_cases true more p e = inr (refl, e)
row_cases false more p e = inl (refl, e)

rows_cases : (w m : ℕ) (t : List ℤ) (k a : ℕ) (next p : Passed) → after_rows k a w m t next ≡ p → PassedBy w m t k a next p ⊎ StoppedAt w m t k a p
unfolding after_rows
rows_cases w m t zero a next p e = inl (record { on = e; fine = λ b h l. absurd (omega arith) })
rows_cases w m t (suc k) a next p e =
    ⊎_elim (λ (x : (lt_z (step m (entry w t) a a) (pos 0) ≡ false) × (after_rows k (suc a) w m t next ≡ p)).
    ⊎_elim (λ (y : PassedBy w m t k (suc a) next p). inl (record {
      on = y.on;
      fine = λ b h l. ⊎_elim (λ (q : a ≡ b). let f = x.0 in subst (λ (i : ℕ). pos 0 ≤ℤ step m (entry w t) i i) q (omega ints))
          (λ (q : a < b). y.fine b q (omega arith)) (eq-or-lt_of_le h);
    }))
    (λ (y : StoppedAt w m t k (suc a) p). inr (record { is = y.is; row = y.row; inside = omega (arith, y.inside); low = y.low }))
    (rows_cases w m t k (suc a) next p x.1))
    (λ (x : (lt_z (step m (entry w t) a a) (pos 0) ≡ true) × (stopped ≡ p)). let f = x.0 in
    inr (record { is = x.1; row = a; inside = omega arith; low = omega ints }))
    (row_cases (lt_z (step m (entry w t) a a) (pos 0)) (after_rows k (suc a) w m t next) p e)

never : {X : Type 0} → ◌≡◌ {A = ℕ} 0 1 → X
never e = let f : ⊥ = omega arith in absurd f

-- ---- what each middle boundary keeps, a pass that finishes keeps
module _ (w : ℕ) (Q : ℕ → Weights → Type 0)
    (keep : (m : ℕ) (t : List ℤ) → m < w → Q m (entry w t) → ((a : ℕ) → a < w → pos 0 ≤ℤ step m (entry w t) a a) → Q (suc m) (entry w (middle w m t))) where
  pub finished_keeps : (k m : ℕ) (t u : List ℤ) → m + k ≤ w → Q m (entry w t) → pass_from k m w t ≡ finished u → Q (m + k) (entry w u)
  unfolding pass_from
  finished_keeps zero m t u h l e =
      let i : m ≡ m + 0 = omega arith in
      let q : t ≡ u = cc in
      subst (λ (j : ℕ). Q j (entry w u)) i (subst (λ (x : List ℤ). Q m (entry w x)) q l)
  finished_keeps (suc k) m t u h l e =
      let i : suc m + k ≡ m + suc k = omega arith in
      ⊎_elim (λ (y : PassedBy w m t w 0 (pass_from k (suc m) w (middle w m t)) (finished u)). subst (λ (j : ℕ). Q j (entry w u)) i
      (finished_keeps k (suc m) (middle w m t) u (omega arith) (keep m t (omega arith) l (λ a ha. y.fine a (omega arith) (omega arith))) y.on))
      (λ (y : StoppedAt w m t w 0 (finished u)). let q = y.is in never (cc))
      (rows_cases w m t w 0 (pass_from k (suc m) w (middle w m t)) (finished u) e)

-- ---- levels
module _ (top w : ℕ) (size : w ≡ suc top) (d : Weights) where
  pub middle_level : (m : ℕ) (t : List ℤ) → m < w → Level top d m (entry w t) → ((a : ℕ) → a < w → pos 0 ≤ℤ step m (entry w t) a a)
      → Level top d (suc m) (entry w (middle w m t))
  middle_level m t hm l f = level_agree top d (suc m) (step m (entry w t)) (entry w (middle w m t)) (omega arith)
      (λ a b ha hb. entry_middle w m t a b (omega arith) (omega arith)) (level_step top d m (entry w t) (omega arith) l (λ a ha. f a (omega arith)))

  -- k middle boundaries that finish take the table k levels up
  finished_level : (k m : ℕ) (t u : List ℤ) → m + k ≤ w → Level top d m (entry w t) → pass_from k m w t ≡ finished u → Level top d (m + k) (entry w u)
  finished_level = finished_keeps w (Level top d) middle_level

  stopped_infeasible_from : (k m : ℕ) (t : List ℤ) → m + k ≤ w → Level top d m (entry w t) → pass_from k m w t ≡ stopped
      → (z : Potential) → Feasible top d z → ⊥
  unfolding pass_from
  stopped_infeasible_from zero m t h l e = never (cc)
  stopped_infeasible_from (suc k) m t h l e =
      ⊎_elim (λ (y : PassedBy w m t w 0 (pass_from k (suc m) w (middle w m t)) stopped).
      stopped_infeasible_from k (suc m) (middle w m t) (omega arith) (middle_level m t (omega arith) l (λ a ha. y.fine a (omega arith) (omega arith))) y.on)
      (λ (y : StoppedAt w m t w 0 stopped). level_stop top d m (entry w t) y.row (omega arith) (omega (arith, y.inside)) l y.low)
      (rows_cases w m t w 0 (pass_from k (suc m) w (middle w m t)) stopped e)

-- ---- the whole pass
module _ (top w : ℕ) (size : w ≡ suc top) (t : List ℤ) (zeros : (a : ℕ) → a ≤ top → entry w t a a ≡ pos 0) where
  start : Level top (entry w t) 0 (entry w t)
  start = level_start top (entry w t) (λ a ha. let z = zeros a ha in omega ints)

  last : (u : List ℤ) → pass_of w t ≡ finished u → Level top (entry w t) (suc top) (entry w u)
  last u e = let i : 0 + w ≡ suc top = omega arith in
      subst (λ (j : ℕ). Level top (entry w t) j (entry w u)) i (finished_level top w size (entry w t) w 0 t u (omega arith) start e)

  pub pass_finished : (u : List ℤ) → pass_of w t ≡ finished u → Finished top (entry w t) (entry w u)
  pass_finished u e = level_finished top (entry w t) (entry w u) zeros (last u e)

  pub pass_sound : (u : List ℤ) → pass_of w t ≡ finished u → (z : Potential) → Feasible top (entry w t) z → Feasible top (entry w u) z
  pass_sound u e = (last u e).sound

  pub stopped_infeasible : pass_of w t ≡ stopped → (z : Potential) → Feasible top (entry w t) z → ⊥
  stopped_infeasible e = stopped_infeasible_from top w size (entry w t) w 0 t (omega arith) start e

-- ---- the list that a pass leaves: as long as before, and the same past the table
pub record PastKept (w : ℕ) (t u : List ℤ) : Type 0 where
  pub long : length u ≡ length t
  pub past : drop (w * w) u ≡ drop (w * w) t

pub finished_kept : (w k m : ℕ) (t u : List ℤ) → w * w ≤ length t → pass_from k m w t ≡ finished u → PastKept w t u
unfolding pass_from
finished_kept w zero m t u h e = let q : u ≡ t = cc in record { long = ap length q; past = ap (drop (w * w)) q }
finished_kept w (suc k) m t u h e =
    ⊎_elim (λ (y : PassedBy w m t w 0 (pass_from k (suc m) w (middle w m t)) (finished u)).
    let r = finished_kept w k (suc m) (middle w m t) u (omega (arith, length_middle w m t h)) y.on in
    record { long = r.long ∙ length_middle w m t h; past = r.past ∙ drop_middle w m t })
    (λ (y : StoppedAt w m t w 0 (finished u)). let q = y.is in never (cc))
    (rows_cases w m t w 0 (pass_from k (suc m) w (middle w m t)) (finished u) e)

-- ---- one middle boundary more
rows_fine : (w m : ℕ) (t : List ℤ) (next : Passed) (k a : ℕ) → ((b : ℕ) → a ≤ b → b < a + k → pos 0 ≤ℤ step m (entry w t) b b) → after_rows k a w m t next ≡ next
unfolding after_rows
rows_fine w m t next zero a f = refl
rows_fine w m t next (suc k) a f =
    let q = f a (omega arith) (omega arith) in
    let e : lt_z (step m (entry w t) a a) (pos 0) ≡ false = omega ints in
    ap (λ (b : Bool). cond b stopped (after_rows k (suc a) w m t next)) e ∙ rows_fine w m t next k (suc a) (λ b h l. f b (omega arith) (omega arith))

pub pass_more : (w j m : ℕ) (t u : List ℤ) → pass_from j m w t ≡ finished u
    → pass_from (suc j) m w t ≡ after_rows w 0 w (m + j) u (finished (middle w (m + j) u))
unfolding pass_from
pass_more w zero m t u e =
    let q : t ≡ u = cc in
    let i : m ≡ m + 0 = omega arith in
    subst (λ (x : List ℤ). after_rows w 0 w m t (finished (middle w m t)) ≡ after_rows w 0 w (m + 0) x (finished (middle w (m + 0) x))) q
    (ap (λ (n : ℕ). after_rows w 0 w n t (finished (middle w n t))) i)
pass_more w (suc j) m t u e =
    let i : suc m + j ≡ m + suc j = omega arith in
    ⊎_elim (λ (y : PassedBy w m t w 0 (pass_from j (suc m) w (middle w m t)) (finished u)).
    rows_fine w m t (pass_from (suc j) (suc m) w (middle w m t)) w 0 y.fine ∙ pass_more w j (suc m) (middle w m t) u y.on
    ∙ ap (λ (n : ℕ). after_rows w 0 w n u (finished (middle w n u))) i)
    (λ (y : StoppedAt w m t w 0 (finished u)). let q = y.is in never (cc))
    (rows_cases w m t w 0 (pass_from j (suc m) w (middle w m t)) (finished u) e)
