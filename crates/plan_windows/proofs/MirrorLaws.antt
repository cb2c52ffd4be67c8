-- The network seen from its end.
-- Key idea: z is feasible for D exactly when -z, read backwards, is feasible for the mirrored D, and an arc from a to b is one from top - b to top - a.
-- So cutting a window from below is cutting the mirrored window from above, with slot x read as w - x.
use mathlib.Core.Path.{◌≡◌, sym, ap₂, ◌∙◌, subst}
use mathlib.Core.List.{List}
use Prim.Native.Nat.{ℕ, suc, ◌+◌, ◌-◌, ◌*◌, ◌≤◌}
use native.Mathlib.Omega.{arith}
use lib.ListN.{length, get_or}
use lib.IntN.{ℤ, neg_ℤ}
use Rattle.integers.specs.Parts.{Within, ints, sum, neg}
use Rattle.lists.specs.Values.{Filled}
use Rattle.network.specs.Network.{Weights, Potential, Feasible}
use Rattle.network.specs.Table.{entry}
use Rattle.network.specs.Bounds.{max_weight}
use Rattle.network_cuts.specs.Cut.{Admits, LeastCut}
use Rattle.network_cuts.specs.Sink.{Closed}
use Rattle.network_cuts.specs.Decider.{into, CutNetwork}
use Rattle.plan_marks.specs.declared.Side.TheVariants.{Front, End}
use Rattle.plan_marks.specs.Marks.{Units}
use Rattle.plan_arcs.specs.Arcs.{mirrored, HasEntries}
use Rattle.plan_windows.specs.Windows.{Admitted, LeastCuts, AdmittedLate, GreatestCuts}

-- N is M seen from the end
abbrev pub IsMirrored : ℕ → Weights → Weights → Type 0
IsMirrored top M N = (a b : ℕ) → a ≤ top → b ≤ top → N a b ≡ mirrored top M a b

abbrev pub turned : ℕ → Potential → Potential
turned top z b = neg_ℤ (z (top - b))

module _ (top : ℕ) (D D' : Weights) (same : IsMirrored top D D') where
  closed_mirrored : Closed top D → Closed top D'
  closed_mirrored net = record {
    closed = λ k a b hk ha hb. omega (
      ints,
      same a b ha hb,
      same a k ha (omega arith),
      same k b (omega arith) hb,
      net.closed (top - k) (top - b) (top - a) (omega arith) (omega arith) (omega arith),
      sum (D (top - b) (top - k)) (D (top - k) (top - a)),
      sum (D' a k) (D' k b),
    );
    diagonal = λ a ha. same a a ha ha ∙ net.diagonal (top - a) (omega arith);
    small = λ a b ha hb. subst (Within max_weight) (sym (same a b ha hb)) (net.small (top - b) (top - a) (omega arith) (omega arith));
  }

  pub turned_feasible : (z : Potential) → Feasible top D z → Feasible top D' (turned top z)
  turned_feasible z f a b ha hb = omega (
    ints,
    same a b ha hb,
    f (top - b) (top - a) (omega arith) (omega arith),
    sum (z (top - b)) (D (top - b) (top - a)),
    sum (turned top z a) (D' a b),
    neg (z (top - a)),
    neg (z (top - b)),
  )

  -- mirrored twice, a network is itself
  pub mirrored_back : IsMirrored top D' D
  mirrored_back a b ha hb =
      let p : top - (top - a) ≡ a = omega arith in
      let q : top - (top - b) ≡ b = omega arith in
      sym (same (top - b) (top - a) (omega arith) (omega arith) ∙ ap₂ D p q)

-- ---- networks that agree at the boundaries admit the same cuts
module _ (top : ℕ) (D E D' E' : Weights) (same : (a b : ℕ) → a ≤ top → b ≤ top → D a b ≡ D' a b) (arcs : (a b : ℕ) → a ≤ top → b ≤ top → E a b ≡ E' a b)
    (f l : ℕ) (hf : f ≤ suc top) (hl : l ≤ suc top) where
  admits_agree : (v : ℕ) → Admits top D E f v l → Admits top D' E' f v l
  admits_agree v a =
      let z = a.potential in
      record {
        potential = z;
        feasible = λ p q hp hq. omega (ints, a.feasible p q hp hq, same p q hp hq, sum (z p) (D p q), sum (z p) (D' p q));
        keeps = λ p q hq hv hp. omega (ints, a.keeps p q hq hv hp, arcs p q (omega arith) (omega arith), sum (z p) (E p q), sum (z p) (E' p q));
      }

least_agree : (top : ℕ) (D E D' E' : Weights) → ((a b : ℕ) → a ≤ top → b ≤ top → D a b ≡ D' a b) → ((a b : ℕ) → a ≤ top → b ≤ top → E a b ≡ E' a b)
    → (f l v : ℕ) → f ≤ suc top → l ≤ suc top → LeastCut top D E f l v → LeastCut top D' E' f l v
least_agree top D E D' E' s e f l v hf hl c = record {
  inside = c.inside;
  admitted = admits_agree top D E D' E' s e f l hf hl v c.admitted;
  least = λ u hu h a. c.least u hu h (admits_agree top D' E' D E (λ a b ha hb. sym (s a b ha hb)) (λ a b ha hb. sym (e a b ha hb)) f l hf hl u a);
}

-- ---- a network in lists, mirrored
module _ (w : ℕ) (d m d' m' : List ℤ) (net : CutNetwork w d m) (size : w * w ≤ length d') (size_arcs : w * w ≤ length m')
    (ed : HasEntries w (mirrored (w - 1) (entry w d)) d') (em : HasEntries w (mirrored (w - 1) (entry w m)) m') where
  table_mirrored : (a b : ℕ) → a ≤ w - 1 → b ≤ w - 1 → entry w d' a b ≡ mirrored (w - 1) (entry w d) a b
  table_mirrored a b ha hb = ed a b (omega (arith, net.some)) (omega (arith, net.some))

  arcs_mirrored : (a b : ℕ) → a ≤ w - 1 → b ≤ w - 1 → into w m' a b ≡ mirrored (w - 1) (into w m) a b
  arcs_mirrored a b ha hb = em b a (omega (arith, net.some)) (omega (arith, net.some))

  pub network_mirrored : CutNetwork w d' m'
  network_mirrored = record {
    some = net.some;
    most = net.most;
    size = size;
    size_arcs = size_arcs;
    closed = closed_mirrored (w - 1) (entry w d) (entry w d') table_mirrored net.closed;
    small = λ a b ha hb. subst (Within (max_weight + 1)) (sym (em a b ha hb)) (net.small (w - 1 - b) (w - 1 - a) (omega arith) (omega arith));
  }

  module _ (first last plan : List ℕ) (units : Units Front w first last plan) where
    pub late_turned : AdmittedLate w d m first last plan → Admitted End w d' m' last first plan
    late_turned a j h = admits_agree (w - 1) (mirrored (w - 1) (entry w d)) (mirrored (w - 1) (into w m)) (entry w d') (into w m')
        (λ a b ha hb. sym (table_mirrored a b ha hb)) (λ a b ha hb. sym (arcs_mirrored a b ha hb)) (w - get_or last j 0) (w - get_or first j 0)
        (omega arith) (omega arith) (w - get_or plan j 0) (a j (omega (arith, units.paired)))

    pub turned_greatest : (out out' : List ℕ) → LeastCuts End w d' m' last first out out' → GreatestCuts w d m first last out out'
    turned_greatest out out' c = record {
      value = c.value;
      each = λ j h. least_agree (w - 1) (entry w d') (into w m') (mirrored (w - 1) (entry w d)) (mirrored (w - 1) (into w m)) table_mirrored arcs_mirrored
          (w - get_or last j 0) (w - get_or first j 0) (w - c.value j) (omega arith) (omega arith) (c.each j (omega (arith, units.paired)));
      filled = subst (λ (n : ℕ). Filled c.value n out out') units.paired c.filled;
    }

-- windows and slots seen from the end
pub turned_units : (w : ℕ) (first last plan : List ℕ) → Units Front w first last plan → Units End w last first plan
turned_units w first last plan u = record {
  paired = sym u.paired;
  seats = omega (arith, u.paired, u.seats);
  inside = λ j h. omega (arith, u.inside j (omega (arith, u.paired)));
}
