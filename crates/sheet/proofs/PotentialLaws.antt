-- A lawful plan's deliveries by the end of each slot are a feasible potential of the sheet's limits. So a ring leaves no lawful plan.
use Rattle.std.specs.Prelude.{◌≡◌, List, ℕ, suc, ◌≤◌, ◌<◌, T, length, get_or, pos}
use Rattle.std.proofs.Common.{ap, ◌∙◌, subst, ⊎_elim, arith, eq-or-lt_of_le}
use Rattle.std.proofs.Math.Decide.{dec_le}
use Rattle.integers.specs.Parts.{ints, sum, neg}
use Rattle.network.specs.Network.{Feasible}
use Rattle.network.proofs.NetworkLaws.{cycle_infeasible}
use Rattle.lists.specs.Lists.{within, every}
use Rattle.lists.specs.Counts.{how_many_most}
use Rattle.lists.specs.Members.{In, left, right, within_iff, every_in}
use Rattle.sheet.specs.Sheet.{Rule, Sheet, no_window, top, count_in, in_windows, obeys, lawful, at_most, at_least, limit, is_ring}
use Rattle.sheet.proofs.PlanLaws.{in_windows_seated}
use Rattle.sheet.proofs.LimitLaws.{count_in_split, inside_count, limit_fwd, limit_back, limit_same, at_most_ge, at_least_le}
use Rattle.sheet.specs.Solved.{Valid}

-- ---- a lawful plan's deliveries are a feasible potential
module _ (s : Sheet) (x : List ℕ) (l : T (lawful s x)) where
  sits : T (in_windows s.units x)
  unfolding lawful
  sits = left (in_windows s.units x) (every (obeys x) s.rules) l

  kept : (r : Rule) → In r s.rules → (r.low ≤ count_in r.from r.to x) × (count_in r.from r.to x ≤ r.high)
  unfolding lawful
  kept r m = (within_iff r.low r.high (count_in r.from r.to x)).0
      (every_in (obeys x) r s.rules m (right (in_windows s.units x) (every (obeys x) s.rules) l))

  most : (a b : ℕ) → count_in (suc a) b x ≤ at_most s (suc a) b
  most a b = at_most_ge s (suc a) b (count_in (suc a) b x) (omega (arith, how_many_most (within (suc a) b) x, (in_windows_seated s.units x sits).size))
      (λ r m e f. subst (λ (t : ℕ). count_in (suc a) t x ≤ r.high) f (subst (λ (u : ℕ). count_in u r.to x ≤ r.high) e (kept r m).1))

  fewest : (a b : ℕ) → at_least s (suc a) b ≤ count_in (suc a) b x
  fewest a b = at_least_le s (suc a) b (count_in (suc a) b x) (inside_count (suc a) b s.units x sits)
      (λ r m e f. subst (λ (t : ℕ). r.low ≤ count_in (suc a) t x) f (subst (λ (u : ℕ). r.low ≤ count_in u r.to x) e (kept r m).0))

  pub lawful_feasible : (top : ℕ) → Feasible top (limit s) (λ b. pos (count_in 1 b x))
  lawful_feasible top v w hv hw =
      let cv = count_in 1 v x in
      let cw = count_in 1 w x in
      elim (dec_le w v) [
        | no g ↦ omega (ints, sum (pos cv) (limit s v w), limit_fwd s v w (omega arith), most v w, count_in_split v w (omega arith) x)
        | yes h ↦ ⊎_elim
            (λ (e : w ≡ v). omega (ints, sum (pos cv) (limit s v w), ap (λ (u : ℕ). limit s v u) e ∙ limit_same s v, ap (λ (u : ℕ). count_in 1 u x) e))
            (λ (g : w < v). omega (ints, sum (pos cv) (limit s v w), limit_back s v w g, neg (pos (at_least s (suc w) v)), fewest w v, count_in_split w v h x))
            (eq-or-lt_of_le h)
      ]

-- A ring contradicts: where the sheet's limits have one, no plan is lawful.
pub ring_contradicts : (s : Sheet) (ring : List ℕ) → T (is_ring s ring) → (x : List ℕ) → T (lawful s x) → ⊥
unfolding is_ring
ring_contradicts s ring h x l = cycle_infeasible (limit s) (top s) (λ b. pos (count_in 1 b x)) (lawful_feasible s x l (top s)) ring h
