-- A finished table's entries are the greatest and the least counts of lawful plans, and every count between them is some lawful plan's.
-- Key idea: a lawful plan's deliveries are a feasible potential, and every feasible potential respects the table. The other way round, the potential that
-- rises by k from a to b is feasible for each k between the entries, and is the deliveries of a lawful plan.
use Rattle.std.specs.Prelude.{◌≡◌, ◌↔◌, T, ℤ, neg_ℤ, ◌≤ℤ◌}
use Rattle.std.proofs.Math.Path.{ap}
use Rattle.std.proofs.Common.{◌∙◌, arith}
use mathlib.Core.List.{List, map}
use Prim.Native.Nat.{ℕ, zero, suc, ◌≤◌, ◌<◌}
use Rattle.std.proofs.Math.IntN.{pos}
use Rattle.integers.specs.Parts.{ints, sum, neg}
use Rattle.lists.specs.Members.{in_map, map_in}
use Rattle.lists.specs.Extremes.{greatest_is, least_is}
use Rattle.network.specs.Network.{Weights, Potential}
use Rattle.network.specs.Closure.{step, Level, between}
use Rattle.network.proofs.ClosureLaws.{step_sound, level_start, level_step, level_finished}
use Rattle.network.proofs.ClosureLaws.{row_feasible, there_and_back, between_feasible, between_start, between_end}
use Rattle.sheet.specs.Sheet.{Sheet, top, count_in, lawful, lawful_plans, least_in, greatest_in, limit}
use Rattle.sheet.proofs.PlanLaws.{in_lawful_plans, least_in_bound, greatest_in_bound}
use Rattle.sheet.proofs.LimitLaws.{count_in_split, limit_same}
use Rattle.sheet.proofs.PotentialLaws.{lawful_feasible}
use Rattle.plans.proofs.FeasibleLaws.{feasible_lawful}
use Rattle.sheet.specs.Solved.{Valid, Solved}

-- ---- a finished table
module _ (s : Sheet) (D : Weights) (S : Solved s D) where
  -- leaves some lawful plan
  pub solved_plan : (x : List ℕ) × T (lawful s x)
  solved_plan =
      let r = feasible_lawful s S.valid (D 0) (row_feasible (top s) (limit s) D S.finished 0 (omega arith)) in
      (r.0, r.1)

  module _ (a b : ℕ) (h : a < b) (hb : b ≤ top s) where
    ha : a ≤ top s
    ha = omega arith

    -- the counts of lawful plans in the stretch lie between the entries
    bounds : (x : List ℕ) → T (lawful s x) → (pos (count_in (suc a) b x) ≤ℤ D a b) × (neg_ℤ (pos (count_in (suc a) b x)) ≤ℤ D b a)
    bounds x l =
        let g = S.sound (λ v. pos (count_in 1 v x)) (lawful_feasible s x l (top s)) in
        let ca = count_in 1 a x in
        let cb = count_in 1 b x in
        let e = count_in_split a b (omega arith) x in
        (omega (ints, g a b ha hb, sum (pos ca) (D a b)), omega (ints, g b a hb ha, sum (pos cb) (D b a), neg (pos (count_in (suc a) b x))))

    -- each number between the entries is the count of a lawful plan
    reached : (k : ℤ) → neg_ℤ (D b a) ≤ℤ k → k ≤ℤ D a b → (x : List ℕ) × T (lawful s x) × (pos (count_in (suc a) b x) ≡ k)
    reached k low high =
        let z = between D a b k in
        let r = feasible_lawful s S.valid z (between_feasible (top s) (limit s) D S.finished a b ha hb k) in
        let n = count_in (suc a) b r.0 in (
          r.0,
          r.1,
          omega (
            ints,
            r.3 a b (omega arith) hb,
            between_start (top s) (limit s) D S.finished a b ha hb k low,
            between_end (top s) (limit s) D S.finished a b ha hb k high,
            sum (z a) (pos n),
          ),
        )

    crossed : neg_ℤ (D b a) ≤ℤ D a b
    crossed = there_and_back (top s) (limit s) D S.finished a b ha hb

    pub greatest_entry : pos (greatest_in s (suc a) b) ≡ D a b
    unfolding greatest_in
    greatest_entry =
        let count : List ℕ → ℕ = count_in (suc a) b in
        let r = reached (D a b) crossed (omega ints) in
        ap pos (greatest_is (count r.0) (map count (lawful_plans s)) (map_in count r.0 (lawful_plans s) ((in_lawful_plans s r.0).1 r.1))
        (λ n m. let p = in_map count n (lawful_plans s) m in
        let q = bounds p.0 ((in_lawful_plans s p.0).0 p.1) in
        omega (ints, q.0, p.2, r.2))) ∙ r.2

    pub least_entry : neg_ℤ (pos (least_in s (suc a) b)) ≡ D b a
    unfolding least_in
    least_entry =
        let count : List ℕ → ℕ = count_in (suc a) b in
        let r = reached (neg_ℤ (D b a)) (omega ints) crossed in
        let e = least_is (count r.0) (map count (lawful_plans s)) (map_in count r.0 (lawful_plans s) ((in_lawful_plans s r.0).1 r.1))
        (λ n m. let p = in_map count n (lawful_plans s) m in
        let q = bounds p.0 ((in_lawful_plans s p.0).0 p.1) in
        omega (ints, q.1, p.2, r.2, neg (pos (count p.0)), neg (D b a))) in
        omega (ints, e, r.2, neg (D b a), neg (pos (least_in s (suc a) b)))

    -- the counts of lawful plans are all numbers from the least to the greatest
    pub range : (k : ℕ) → ((x : List ℕ) × T (lawful s x) × (count_in (suc a) b x ≡ k)) ↔ ((least_in s (suc a) b ≤ k) × (k ≤ greatest_in s (suc a) b))
    range k = (
      λ p. (omega (arith, p.2, least_in_bound s p.0 p.1 (suc a) b), omega (arith, p.2, greatest_in_bound s p.0 p.1 (suc a) b)),
      λ p.
          let low = p.0 in
          let high = p.1 in
          let r = reached (pos k) (omega (ints, least_entry, neg (pos (least_in s (suc a) b)), neg (D b a))) (omega (ints, greatest_entry)) in
          (r.0, r.1, omega (ints, r.2)),
    )

-- ---- where some plan is lawful there is a finished table
module _ (s : Sheet) (ok : Valid s) (x : List ℕ) (l : T (lawful s x)) where
  closed : ℕ → Weights
  closed zero = limit s
  closed (suc m) = step m (closed m)

  z : Potential
  z b = pos (count_in 1 b x)

  levels : (m : ℕ) → m ≤ suc (top s) → Level (top s) (limit s) m (closed m)
  unfolding closed z
  levels zero h = level_start (top s) (limit s) (λ a ha. omega (ints, limit_same s a))
  levels (suc m) h =
      let L = levels m (omega arith) in
      level_step (top s) (limit s) m (closed m) (omega arith) L (λ a ha. omega (
        ints,
        step_sound (top s) m (closed m) z (omega arith) (L.sound z (lawful_feasible s x l (top s))) a a ha ha,
        sum (z a) (step m (closed m) a a),
      ))

  pub lawful_solved : (D : Weights) × Solved s D
  lawful_solved = let L = levels (suc (top s)) (omega arith) in (
    closed (suc (top s)),
    record { valid = ok; finished = level_finished (top s) (limit s) (closed (suc (top s))) (λ a ha. limit_same s a) L; sound = L.sound },
  )
