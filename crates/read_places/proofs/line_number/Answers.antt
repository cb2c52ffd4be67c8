-- The number of what was found.
use Rattle.std.proofs.Common.{◌≡◌, ℕ, List, ap, get_or, ◌∙◌}
use Rattle.read_form.specs.declared.Kind.{Kind}
use Rattle.read_places.specs.Places.{spots, no_spot, sought}
use Rattle.read_places.specs.PlacesLaws.{number_in, sought_number}
use Rattle.read_places.proofs.line_number.Goals as goal

number_is : (k : Kind) (text : List ℕ) (j : ℕ) → number_in (sought k text j) ≡ (get_or (spots k text) j no_spot).number
unfolding sought
number_is k text j = sought_number (spots k text) j

pub returns-in-Ok : goal.returns-in-Ok
returns-in-Ok c = ap number_in c.in-Ok.ensures ∙ number_is _ _ _

pub returns-in-Err : goal.returns-in-Err
returns-in-Err c = ap number_in c.in-Err.ensures ∙ number_is _ _ _
