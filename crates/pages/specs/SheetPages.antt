-- The pages of a sheet's answers, byte by byte. Definitions only.
use Rattle.std.specs.Prelude.{List, ℕ, length}
use Rattle.sheet.specs.Sheet.{Sheet, limit, least_in, greatest_in, printed_plan, earliest_slots, latest_slots}
use Rattle.pages.specs.Page.{plan_page, fits_page, none_page}

-- the page of the sheet's printed plan: its units' loader numbers, its narrowed windows, and the least and greatest count of each slot over lawful plans
unfoldable pub plan_bytes : List ℕ → Sheet → List ℕ
plan_bytes ks s = plan_page s.span ks (printed_plan s) (earliest_slots s) (latest_slots s) (λ t. least_in s t t) (λ t. greatest_in s t t)

-- the page of a sheet that fits: the number of its units, and the least and greatest count of each slot over lawful plans
unfoldable pub fits_bytes : Sheet → List ℕ
fits_bytes s = fits_page s.span (length s.units) (λ t. least_in s t t) (λ t. greatest_in s t t)

-- the page of a ring: the sheet's own limits
unfoldable pub ring_bytes : Sheet → List ℕ → List ℕ
ring_bytes s ring = none_page (limit s) ring
