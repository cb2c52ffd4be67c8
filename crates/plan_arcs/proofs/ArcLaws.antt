-- The arcs that cuts may add, entry by entry.
-- Key idea: an entry above the diagonal is made of the one below it, and the others stay.
use Rattle.std.specs.Prelude.{◌≡◌, cond, List, ℕ, suc, ◌≤◌, ◌<◌, ltb, length, ℤ, pos, negsuc, ◌+ℤ◌}
use Rattle.std.proofs.Math.Path.{refl}
use Rattle.std.proofs.Common.{ap₂, arith, lt-ltb, le-ltb}
use Rattle.integers.specs.Parts.{Within, neg}
use Rattle.lists.specs.Lists.{how_many}
use Rattle.lists.specs.Counts.{how_many_most}
use Rattle.network.specs.Network.{Weights}
use Rattle.sheet.specs.Sizes.{max_units}
use Rattle.sheet.specs.Sheet.{Window, inside_of}
use Rattle.limit_windows.specs.Inside.{inside_weights}
use Rattle.plan_arcs.specs.Arcs.{one_less}

module _ (d : Weights) (b a : ℕ) where
  pub less_arc : b < a → one_less d b a ≡ d a b +ℤ negsuc 0
  unfolding one_less
  less_arc h = rw (lt-ltb b a h) refl

  pub less_other : a ≤ b → one_less d b a ≡ d b a
  unfolding one_less
  less_other h = rw (le-ltb b a h) refl

pub less_same : (d d' : Weights) (b a : ℕ) → d a b ≡ d' a b → d b a ≡ d' b a → one_less d b a ≡ one_less d' b a
unfolding one_less
less_same d d' b a e f = ap₂ (λ (x y : ℤ). cond (ltb b a) (x +ℤ negsuc 0) y) e f

-- windows inside are no more than there are units
pub inside_within : (ws : List Window) (a b : ℕ) → length ws ≤ max_units → Within max_units (inside_weights ws a b)
unfolding inside_weights
inside_within ws a b h = omega (arith, how_many_most (inside_of (suc b) a) ws, neg (pos (how_many (inside_of (suc b) a) ws)))
