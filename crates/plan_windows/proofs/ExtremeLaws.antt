-- The least cut is the earliest slot, and the least cut of the mirrored window is the latest.
-- Key idea: a lawful plan that seats unit j by slot v gives a potential that keeps the arcs of the cut, and such a potential gives such a plan. So the least
-- cut that is admitted is the least slot that j has in a lawful plan. The latest slot is the same, seen from the end.
use mathlib.Core.Path.{◌≡◌, refl, sym, subst}
use mathlib.Core.List.{List}
use Prim.Native.Nat.{ℕ, suc, ◌-◌, ◌≤◌, ◌<◌}
use native.Mathlib.Omega.{arith}
use native.Mathlib.Decide.{dec_le}
use lib.Dec.{T}
use lib.ListN.{length, get_or}
use lib.IntN.{ℤ, pos, ◌+ℤ◌}
use lib.Signed.{◌≤ℤ◌}
use Rattle.integers.specs.Parts.{ints, sum, neg}
use Rattle.network.specs.Network.{Weights, Potential, Feasible}
use Rattle.sheet.specs.Sheet.{Window, Sheet, no_window, top, count_in, lawful, limit, earliest, latest}
use Rattle.sheet.proofs.PlanLaws.{lawful_iff, earliest_bound, earliest_attained, latest_bound, latest_attained}
use Rattle.sheet.proofs.PotentialLaws.{lawful_feasible}
use Rattle.plans.proofs.FeasibleLaws.{feasible_lawful}
use Rattle.network_cuts.specs.Cut.{Admits, LeastCut}
use Rattle.plan_arcs.specs.Arcs.{mirrored}
use Rattle.plan_windows.specs.CutSheet.{added_arc, cut_to}
use Rattle.plan_windows.proofs.CutSheetLaws.{Gains, cut_lawful, cut_valid, plan_gains, gains_feasible}
use Rattle.plan_windows.proofs.MirrorLaws.{turned, turned_feasible, mirrored_back}
use Rattle.sheet.specs.Solved.{Solved}

module _ (s : Sheet) (D E : Weights) (solved : Solved s D)
    (arcs : (a b : ℕ) → b < a → a ≤ top s → E a b ≡ added_arc s a b) (j : ℕ) (hj : j < length s.units) where
  abbrev own : Window
  own = get_or s.units j no_window

  -- ---- plans and potentials, for any smaller window
  module _ (u : Window) (hf : own.first ≤ u.first) (h : u.first ≤ u.last) (hl : u.last ≤ own.last) where
    abbrev KeepsGains : Potential → Type 0
    KeepsGains z = (a b : ℕ) → a ≤ top s → b < a → Gains own u a b → z b ≤ℤ (z a +ℤ E a b)

    plan_potential : (x : List ℕ) → T (lawful s x) → u.first ≤ get_or x j 0 → get_or x j 0 ≤ u.last
        → Feasible (top s) D (λ b. pos (count_in 1 b x)) × KeepsGains (λ b. pos (count_in 1 b x))
    plan_potential x t p q = (
      solved.sound (λ b. pos (count_in 1 b x)) (lawful_feasible s x t (top s)),
      λ a b ha hb g. subst (λ (e : ℤ). pos (count_in 1 b x) ≤ℤ (pos (count_in 1 a x) +ℤ e)) (sym (arcs a b hb ha))
          (plan_gains s j hj u x ((cut_lawful s j hj u hf hl x).1 (t, (p, q))) a b (omega arith) g),
    )

    potential_plan : (z : Potential) → Feasible (top s) D z → KeepsGains z → (x : List ℕ) × T (lawful s x) × (u.first ≤ get_or x j 0) × (get_or x j 0 ≤ u.last)
    unfolding top
    potential_plan z f g =
        let f' : Feasible (top s) (limit s) z = (λ a b ha hb. omega (
          ints,
          f a b ha hb,
          solved.finished.below a b ha hb,
          sum (z a) (D a b),
          sum (z a) (limit s a b),
        )) in
        let g' : (a b : ℕ) → a ≤ top s → b ≤ a → Gains own u a b → z b ≤ℤ (z a +ℤ added_arc s a b) =
        (λ a b ha hb q. subst (λ (e : ℤ). z b ≤ℤ (z a +ℤ e)) (arcs a b (omega (arith, q.0, q.1)) ha) (g a b ha (omega (arith, q.0, q.1)) q)) in
        let x = feasible_lawful (cut_to s j u) (cut_valid s j hj u hf hl solved.valid h) z (gains_feasible s j hj u z f' g') in
        let t = (cut_lawful s j hj u hf hl x.0).0 x.1 in
        (x.0, t.0, t.1.0, t.1.1)

  -- ---- the earliest slot
  abbrev early : ℕ → Window
  early v = record { first = own.first; last = v }

  pub plan_admits : (x : List ℕ) → T (lawful s x) → (v : ℕ) → get_or x j 0 ≤ v → v ≤ own.last → Admits (top s) D E own.first v own.last
  plan_admits x t v p q =
      let i = ((lawful_iff s x).0 t).seated.inside j hj in
      let w = solved.valid.windows j hj in
      let r = plan_potential (early v) (omega arith) (omega arith) q x t (omega arith) p in
      record {
        potential = λ b. pos (count_in 1 b x);
        feasible = r.0;
        keeps = λ a b hb hv hl. r.1 a b (omega arith) (omega arith) (hb, hv, λ _ y. omega arith);
      }

  pub earliest_is : (x : List ℕ) → T (lawful s x) → (v : ℕ) → LeastCut (top s) D E own.first own.last v → earliest s j ≡ v
  earliest_is x t v c =
      let k = c.inside in
      let y = potential_plan (early v) (omega arith) k.0 k.1 c.admitted.potential c.admitted.feasible
      (λ a b ha hb g. c.admitted.keeps a b g.0 g.1 (elim (dec_le own.last a) [ yes h ↦ absurd (g.2 g.0 h) | no h ↦ omega arith ])) in
      let e = earliest_attained s x t j in
      let i = ((lawful_iff s e.0).0 e.1).seated.inside j hj in
      elim (dec_le v (earliest s j)) [
        | yes h ↦ omega (arith, earliest_bound s y.0 y.1 j, y.3)
        | no h ↦ absurd (c.least (earliest s j) (omega (arith, e.2)) (omega arith)
            (plan_admits e.0 e.1 (earliest s j) (omega (arith, e.2)) (omega (arith, e.2))))
      ]

  -- ---- the latest slot, in the network seen from its end
  abbrev D' : Weights
  D' = mirrored (top s) D

  abbrev E' : Weights
  E' = mirrored (top s) E

  abbrev late : ℕ → Window
  late v = record { first = v; last = own.last }

  pub plan_admits_late : (x : List ℕ) → T (lawful s x) → (v : ℕ) → own.first ≤ v → v ≤ get_or x j 0
      → Admits (top s) D' E' (suc (top s) - own.last) (suc (top s) - v) (suc (top s) - own.first)
  plan_admits_late x t v p q =
      let i = ((lawful_iff s x).0 t).seated.inside j hj in
      let w = solved.valid.windows j hj in
      let z : Potential = (λ b. pos (count_in 1 b x)) in
      let r = plan_potential (late v) p (omega arith) (omega arith) x t q (omega arith) in
      record {
        potential = turned (top s) z;
        feasible = turned_feasible (top s) D D' (λ a b ha hb. refl) z r.0;
        keeps = λ a b hb hv hl.
            let a' = top s - b in
            let b' = top s - a in
            omega (
              ints,
              r.1 a' b' (omega arith) (omega arith) (omega arith, omega arith, λ y _. omega arith),
              sum (z a') (E a' b'),
              sum (turned (top s) z a) (E' a b),
              neg (z a'),
              neg (z b'),
            );
      }

  pub latest_is : (x : List ℕ) → T (lawful s x) → (v : ℕ) → LeastCut (top s) D' E' (suc (top s) - own.last) (suc (top s) - own.first) v
      → latest s j ≡ suc (top s) - v
  latest_is x t v c =
      let k = c.inside in
      let w = solved.valid.windows j hj in
      let v' = suc (top s) - v in
      let z' = c.admitted.potential in
      let y = potential_plan (late v') (omega arith) (omega arith) (omega arith) (turned (top s) z')
      (turned_feasible (top s) D' D (mirrored_back (top s) D D' (λ a b ha hb. refl)) z' c.admitted.feasible)
      (λ a b ha hb g.
      let a' = top s - b in
      let b' = top s - a in
      let hb' : own.first ≤ b = elim (dec_le own.first b) [ yes h ↦ h | no h ↦ absurd (g.2 (omega arith) g.1) ] in
      omega (
        ints,
        mirrored_back (top s) E E' (λ a b ha hb. refl) a b ha (omega arith),
        c.admitted.keeps a' b' (omega (arith, g.1)) (omega (arith, g.0)) (omega arith),
        sum (z' a') (E' a' b'),
        sum (turned (top s) z' a) (E a b),
        neg (z' a'),
        neg (z' b'),
      )) in
      let e = latest_attained s x t j in
      let i = ((lawful_iff s e.0).0 e.1).seated.inside j hj in
      elim (dec_le (latest s j) v') [
        | yes h ↦ omega (arith, latest_bound s y.0 y.1 j, y.2)
        | no h ↦ absurd (c.least (suc (top s) - latest s j) (omega (arith, e.2)) (omega arith)
            (plan_admits_late e.0 e.1 (latest s j) (omega (arith, e.2)) (omega (arith, e.2))))
      ]
