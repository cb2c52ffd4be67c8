-- The network seen from its end, and the arcs that cuts may add to it. Definitions only.
use Rattle.std.specs.Prelude.{◌≡◌, cond, List, ℕ, ◌-◌, ◌<◌, ltb, ℤ, negsuc, ◌+ℤ◌}
use Rattle.network.specs.Network.{Weights}
use Rattle.network.specs.Table.{entry}
use Rattle.slots.specs.Slots.{Boundary}

-- the network seen from its end: boundary b is top - b, and every step goes the other way
abbrev pub mirrored : Boundary → Weights → Weights
mirrored top d a b = d (top - b) (top - a)

-- arcs one less than the steps back of d, listed by the boundary they lead into; the other entries are no arcs and stay
unfoldable pub one_less : Weights → Weights
one_less d b a = cond (ltb b a) (d a b +ℤ negsuc 0) (d b a)

-- the entries of t are those of d
abbrev pub HasEntries : ℕ → Weights → List ℤ → Type 0
HasEntries w d t = (a b : ℕ) → a < w → b < w → entry w t a b ≡ d a b
