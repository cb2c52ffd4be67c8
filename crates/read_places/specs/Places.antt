-- Where in a text of our own format the lines of a kind stand. Definitions only.
use Rattle.std.specs.Prelude.{ℕ, zero, suc, ◌+◌, Bool, ◌&&◌, List, [], ◌∷◌, map, length, Result, Ok, Err}
use Rattle.lists.specs.Lists.{keep}
use Rattle.forms.specs.Lines.{TextLine, lines, spelt}
use Rattle.forms.specs.declared.House.TheVariants.{Ours}
use Rattle.read_form.specs.Kinds.{kind_of}
use Rattle.read_form.specs.Grid.{same_kind}
use Rattle.read_form.specs.declared.Kind.{Kind}
use Rattle.read_places.specs.declared.Spot.{Spot}

-- a line of a text, and where it stands
pub record Placed : Type 0 where
  pub spot : Spot
  pub line : TextLine

-- the line with this number that starts at this byte
abbrev pub placed_at : ℕ → ℕ → TextLine → Placed
placed_at n at l = record { spot = record { number = n; start = at; end = at + length l.bytes }; line = l }

-- these lines, of which the first has this number and starts at this byte
unfoldable pub placed_from : ℕ → ℕ → List TextLine → List Placed
placed_from n at [] = []
placed_from n at (l ∷ ls) = placed_at n at l ∷ placed_from (suc n) (at + length (spelt l)) ls

abbrev pub placed : List ℕ → List Placed
placed text = placed_from 1 0 (lines text)

-- is it a line of this kind, with its line feed?
abbrev pub is_of : Kind → TextLine → Bool
is_of k l = l.ended && same_kind (kind_of Ours l.bytes) k

-- where those of these lines stand that are of a kind, in order
abbrev pub spots_in : Kind → List Placed → List Spot
spots_in k ps = map (λ p. p.spot) (keep (λ p. is_of k p.line) ps)

unfoldable pub spots : Kind → List ℕ → List Spot
spots k text = spots_in k (placed text)

-- no line of the text
abbrev pub no_spot : Spot
no_spot = record { number = 0; start = 0; end = 0 }

-- the entry at a place, or how far the place is past the last one
abbrev pub sought_in : List Spot → ℕ → Result Spot ℕ
sought_in [] j = Err j
sought_in (s ∷ ss) zero = Ok s
sought_in (s ∷ ss) (suc j) = sought_in ss j

unfoldable pub sought : Kind → List ℕ → ℕ → Result Spot ℕ
sought k text j = sought_in (spots k text) j
