-- Lowering a potential until it keeps the arcs of a cut.
-- Key idea: z starts as the row of the boundary before the window, the highest feasible potential that is 0 there. An arc that z does not keep forces
-- its end b down to k, and the table carries that on: every z(c) becomes min(z(c), k + D(b, c)), which is feasible again and still above all that
-- keep the arcs. Where this takes z below 0 at its start, nothing keeps the arcs. It ends because z stays above what the table allows.
use mathlib.Core.Path.{◌≡◌, subst}
use mathlib.Core.Logic.{⊎_elim}
use Prim.Native.Nat.{ℕ, zero, suc, ◌-◌, ◌≤◌, ◌<◌}
use native.Mathlib.Omega.{arith}
use native.Mathlib.Nat.{eq-or-lt_of_le, le_of_suc-le-suc}
use lib.IntN.{ℤ, pos, ◌+ℤ◌}
use lib.Signed.{◌≤ℤ◌, ◌<ℤ◌}
use Rattle.integers.specs.Parts.{up, dn, Within, ints, sum, apart, nonneg, min_ℤ, min_cases, min≤l, min≤r}
use Rattle.network.specs.Network.{Weights, Potential, Feasible}
use Rattle.network.proofs.NetworkLaws.{lesser_feasible}
use Rattle.network.specs.Bounds.{max_weight}
use Rattle.network_cuts.specs.Cut.{Keeps, Admits}
use Rattle.network_cuts.specs.Sink.{Closed, Sunk, height}

-- every row of a closed table is feasible
row : {top : ℕ} {D : Weights} → Closed top D → (b : ℕ) → b ≤ top → Feasible top D (D b)
row net b hb p q hp hq = net.closed p b q (omega arith) hb hq

module _ {top : ℕ} {D E : Weights} {f v l : ℕ} (net : Closed top D) (hf : 1 ≤ f) (ht : f ≤ top) where
  module _ {z : Potential} (s : Sunk top D E f v l z) where
    -- z lies between what the table allows
    sunk_low : (c : ℕ) → c ≤ top → pos 0 ≤ℤ (z c +ℤ D c (f - 1))
    sunk_low c hc = omega (ints, s.feasible c (f - 1) hc (omega arith), s.start)

    pub sunk_small : (c : ℕ) → c ≤ top → Within max_weight (z c)
    sunk_small c hc =
        let p = net.small c (f - 1) hc (omega arith) in
        let q = net.small (f - 1) c (omega arith) hc in
        ⊎_elim (λ (e : up (z c) ≡ 0). omega (ints, sunk_low c hc, sum (z c) (D c (f - 1))))
        (λ (e : dn (z c) ≡ 0). omega (ints, s.feasible (f - 1) c (omega arith) hc, s.start, sum (z (f - 1)) (D (f - 1) c))) (apart (z c))

    -- the table carries on what an arc from a to b forces
    module _ (a b : ℕ) (k : ℤ) (y : Potential) (ha : (v ≤ a) × (a < l)) (hl : l ≤ suc top) (hb : b < f) (forced : k ≡ z a +ℤ E a b)
        (carried : (c : ℕ) → c ≤ top → y c ≡ min_ℤ (z c) (k +ℤ D b c)) where
      carried_feasible : Feasible top D y
      carried_feasible p q hp hq =
          let m : Feasible top D (λ c. min_ℤ (z c) (k +ℤ D b c)) = lesser_feasible top D z (D b) k s.feasible (row net b (omega arith)) in
          let r = m p q hp hq in
          omega (ints, carried p hp, carried q hq, sum (y p) (D p q), sum (min_ℤ (z p) (k +ℤ D b p)) (D p q))

      carried_above : (x : Potential) → Feasible top D x → Keeps E f v l x → (c : ℕ) → c ≤ top → x c ≤ℤ (y c +ℤ x (f - 1))
      carried_above x g t c hc =
          let low : x c ≤ℤ (min_ℤ (z c) (k +ℤ D b c) +ℤ x (f - 1)) = min_cases (z c) (k +ℤ D b c) (λ m. x c ≤ℤ (m +ℤ x (f - 1)))
          (λ _. s.above x g t c hc)
          (λ _. omega (
            ints,
            g b c (omega arith) hc,
            t a b hb ha.0 ha.1,
            s.above x g t a (omega (arith, ha.1)),
            sum (x b) (D b c),
            sum (x a) (E a b),
            sum (z a) (E a b),
            sum (z a) (x (f - 1)),
            sum k (D b c),
            sum (k +ℤ D b c) (x (f - 1)),
          )) in
          omega (ints, carried c hc, sum (y c) (x (f - 1)), sum (min_ℤ (z c) (k +ℤ D b c)) (x (f - 1)))

      pub carried_lost : y (f - 1) <ℤ pos 0 → Admits top D E f v l → ⊥
      carried_lost h w = omega (
        ints,
        carried_above w.potential w.feasible w.keeps (f - 1) (omega arith),
        sum (y (f - 1)) (w.potential (f - 1)),
      )

      below : (c : ℕ) → c ≤ top → y c ≤ℤ z c
      below c hc = omega (ints, carried c hc, min≤l (z c) (k +ℤ D b c))

      pub carried_sunk : pos 0 ≤ℤ y (f - 1) → Sunk top D E f v l y
      carried_sunk h = record {
        feasible = carried_feasible;
        start = omega (ints, below (f - 1) (omega arith), s.start);
        above = carried_above;
      }

      at_end_lem : k <ℤ z b → y b <ℤ z b
      at_end_lem h = omega (ints, carried b (omega arith), min≤r (z b) (k +ℤ D b b), sum k (D b b), net.diagonal b (omega arith))

      pub carried_falls : pos 0 ≤ℤ y (f - 1) → k <ℤ z b → height D (f - 1) y (suc top) < height D (f - 1) z (suc top)
      carried_falls h h' = total (suc top) (omega arith) (omega arith)
        where
          low : (c : ℕ) → c ≤ top → pos 0 ≤ℤ (y c +ℤ D c (f - 1))
          low c hc = omega (ints, carried_feasible c (f - 1) hc (omega arith))

          each : (c : ℕ) → c ≤ top → up (y c +ℤ D c (f - 1)) ≤ up (z c +ℤ D c (f - 1))
          each c hc = omega (
            ints,
            nonneg (low c hc),
            nonneg (sunk_low c hc),
            below c hc,
            sum (y c) (D c (f - 1)),
            sum (z c) (D c (f - 1)),
          )

          ends : up (y b +ℤ D b (f - 1)) < up (z b +ℤ D b (f - 1))
          ends = omega (
            ints,
            nonneg (low b (omega arith)),
            nonneg (sunk_low b (omega arith)),
            at_end_lem h',
            sum (y b) (D b (f - 1)),
            sum (z b) (D b (f - 1)),
          )

          all : (n : ℕ) → n ≤ suc top → height D (f - 1) y n ≤ height D (f - 1) z n
          all zero hn = omega arith
          all (suc n) hn = omega (arith, each n (omega arith), all n (omega arith))

          total : (n : ℕ) → b < n → n ≤ suc top → height D (f - 1) y n < height D (f - 1) z n
          total zero hb hn = absurd (omega arith)
          total (suc n) hb hn =
              ⊎_elim (λ (e : b ≡ n). omega (arith, subst (λ (i : ℕ). up (y i +ℤ D i (f - 1)) < up (z i +ℤ D i (f - 1))) e ends, all n (omega arith)))
              (λ g. omega (arith, each n (omega arith), total n g (omega arith))) (eq-or-lt_of_le (le_of_suc-le-suc hb))
