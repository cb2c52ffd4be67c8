-- Which cuts admit more.
-- Key idea: a later cut adds fewer arcs. A window that opens and closes later has all the arcs of the other and more, so what is barred for one window is
-- barred for every later one.
use Rattle.std.specs.Prelude.{List, ℕ, ◌-◌, ◌≤◌, ℤ}
use Rattle.std.proofs.Common.{arith}
use Rattle.network.specs.Network.{Weights}
use Rattle.network_cuts.specs.Cut.{Admits}
use Rattle.network.specs.Table.{entry}
use Rattle.network_cuts.specs.Decider.{into, Barred, LeastCutAt}

-- fewer arcs are easier to keep
pub admits_later : (top : ℕ) (D E : Weights) (f u v l : ℕ) → u ≤ v → Admits top D E f u l → Admits top D E f v l
admits_later top D E f u v l h a = record {
  potential = a.potential;
  feasible = a.feasible;
  keeps = λ p q hq hv hl. a.keeps p q hq (omega arith) hl;
}

-- a window that opens and closes no later has fewer arcs
pub admits_earlier : (top : ℕ) (D E : Weights) (f f' v l l' : ℕ) → f ≤ f' → l ≤ l' → Admits top D E f' v l' → Admits top D E f v l
admits_earlier top D E f f' v l l' hf hl a = record {
  potential = a.potential;
  feasible = a.feasible;
  keeps = λ p q hq hv hp. a.keeps p q (omega arith) hv (omega arith);
}

module _ (w : ℕ) (d m : List ℤ) where
  pub barred_later : (f l f' l' g : ℕ) → f ≤ f' → l ≤ l' → Barred w d m f l g → Barred w d m f' l' g
  barred_later f l f' l' g hf hl b u hu h a = b u (omega arith) h (admits_earlier (w - 1) (entry w d) (into w m) f f' u l l' hf hl a)

  pub least_barred : (f l v : ℕ) → LeastCutAt w d m f l v → Barred w d m f l v
  least_barred f l v c = c.least
