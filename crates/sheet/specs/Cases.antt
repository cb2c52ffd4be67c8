-- P1 to P12 (docs/RULES.md, "Sheets to try"): one list of cases and one claim about the definitions, which the checker computes from the enumeration alone.
use Rattle.std.specs.Prelude.{◌≡◌, refl, true, List, [], ◌∷◌, map, ℕ, suc, T, pos}
use Rattle.lists.specs.Lists.{from_to}
use Rattle.network.specs.Network.{is_negative_cycle}
use Rattle.slots.specs.Slots.{Slot, Boundary}
use Rattle.sheet.specs.Sheet.{Window, Rule, Sheet, SheetUnit, WrittenSheet, constraints, loaders, top, at_most, at_least, limit, is_ring, ring_sum, shortfall}
use Rattle.sheet.specs.Sheet.{lawful, lawful_plans, least_in, greatest_in, earliest, latest, earliest_slots, latest_slots, soonest, fair, printed_plans}
use Rattle.sheet.specs.Sheet.{printed_plan, last_seated, looked}
use Rattle.sheet.specs.Questions.{is_new, all_new, loaders_fit}

-- `w 1 4`: window 1-4
abbrev w : Slot → Slot → Window
w f l = record { first = f; last = l }

-- `r 1 3 0 2`: 1-3 count 0-2
abbrev r : Slot → Slot → ℕ → ℕ → Rule
r f t l h = record { from = f; to = t; low = l; high = h }

-- units with these windows, whose loader numbers go up by one from k on
abbrev numbered : ℕ → List Window → List SheetUnit
numbered k [] = []
numbered k (v ∷ vs) = record { loader = k; window = v } ∷ numbered (suc k) vs

-- units are numbered 1, 2, .. by line
abbrev sheet : ℕ → List Window → List Rule → WrittenSheet
sheet p ws rs = record { span = p; units = numbered 1 ws; rules = rs }

-- what is claimed of a sheet
pub data Case : Type 0 where
  -- it has one printed plan, for which seating looks at so many units; the narrowed windows' first and last slots; each slot's least and greatest count
  plan : WrittenSheet → List Slot → ℕ → List Slot → List Slot → List ℕ → List ℕ → Case
  -- it has no lawful plan; a ring and its shortfall
  none : WrittenSheet → List Boundary → ℕ → Case

abbrev case_sheet : Case → WrittenSheet
case_sheet (plan v seats looks first last low high) = v
case_sheet (none v ring short) = v

abbrev slots : Sheet → List Slot
slots s = from_to 1 s.span

abbrev pub Holds : Case → Type 0
Holds (plan v seats looks first last low high) =
    let s = constraints v in
    (printed_plans s ≡ seats ∷ []) × (looked s ≡ looks)
    × (earliest_slots s ≡ first) × (latest_slots s ≡ last)
    × (map (λ t. least_in s t t) (slots s) ≡ low) × (map (λ t. greatest_in s t t) (slots s) ≡ high)
Holds (none v ring short) = let s = constraints v in (lawful_plans s ≡ []) × (looked s ≡ 0) × T (is_ring s ring) × (shortfall s ring ≡ pos short)

-- of each case, and its loader numbers pass question 16
abbrev pub All : List Case → Type 0
All [] = Unit {0}
All (c ∷ cs) = (Holds c × T (loaders_fit (loaders (case_sheet c)))) × All cs

abbrev pub cases : List Case
cases =
    -- P1 (Chabert and Demassey, section 1.1)
    plan (sheet 7 (w 1 4 ∷ w 2 5 ∷ w 4 7 ∷ []) (r 1 3 1 2 ∷ r 2 4 0 2 ∷ r 3 7 2 3 ∷ r 6 6 0 1 ∷ []))
    (1 ∷ 3 ∷ 4 ∷ []) 6 (1 ∷ 2 ∷ 4 ∷ []) (4 ∷ 5 ∷ 7 ∷ [])
    (0 ∷ 0 ∷ 0 ∷ 0 ∷ 0 ∷ 0 ∷ 0 ∷ []) (1 ∷ 1 ∷ 2 ∷ 2 ∷ 2 ∷ 1 ∷ 1 ∷ [])
    -- P2
    ∷ plan (sheet 4 (w 1 2 ∷ w 1 4 ∷ []) (r 1 2 1 1 ∷ r 2 3 1 1 ∷ r 3 4 1 1 ∷ []))
    (1 ∷ 3 ∷ []) 3 (1 ∷ 3 ∷ []) (2 ∷ 4 ∷ [])
    (0 ∷ 0 ∷ 0 ∷ 0 ∷ []) (1 ∷ 1 ∷ 1 ∷ 1 ∷ [])
    -- P3 (Chabert and Demassey, lemma 8, moved up by one)
    ∷ plan (sheet 5 (w 1 3 ∷ w 2 5 ∷ []) (r 2 3 1 1 ∷ r 3 4 1 1 ∷ r 4 5 1 1 ∷ []))
    (2 ∷ 4 ∷ []) 3 (2 ∷ 4 ∷ []) (3 ∷ 5 ∷ [])
    (0 ∷ 0 ∷ 0 ∷ 0 ∷ 0 ∷ []) (0 ∷ 1 ∷ 1 ∷ 1 ∷ 1 ∷ [])
    -- P4
    ∷ none (sheet 3 (w 1 3 ∷ w 1 3 ∷ []) (r 1 3 1 1 ∷ [])) (0 ∷ 3 ∷ []) 1
    -- P5
    ∷ none (sheet 3 (w 1 2 ∷ w 2 3 ∷ []) (r 1 2 0 1 ∷ r 2 2 1 2 ∷ r 2 3 0 1 ∷ [])) (0 ∷ 2 ∷ 1 ∷ 3 ∷ []) 1
    -- P6
    ∷ plan (sheet 3 (w 1 3 ∷ w 1 1 ∷ []) (r 1 1 1 1 ∷ []))
    (2 ∷ 1 ∷ []) 3 (2 ∷ 1 ∷ []) (3 ∷ 1 ∷ [])
    (1 ∷ 0 ∷ 0 ∷ []) (1 ∷ 1 ∷ 1 ∷ [])
    -- P7
    ∷ plan (sheet 1 [] []) [] 0 [] [] (0 ∷ []) (0 ∷ [])
    -- P8
    ∷ none (sheet 1 [] (r 1 1 1 1 ∷ [])) (0 ∷ 1 ∷ []) 1
    -- P9
    ∷ plan (sheet 2 (w 1 2 ∷ w 1 2 ∷ []) (r 1 1 0 1 ∷ r 1 1 1 2 ∷ []))
    (1 ∷ 2 ∷ []) 3 (1 ∷ 1 ∷ []) (2 ∷ 2 ∷ [])
    (1 ∷ 1 ∷ []) (1 ∷ 1 ∷ [])
    -- P10
    ∷ plan (sheet 3 (w 1 3 ∷ w 1 3 ∷ []) (r 2 2 1 1 ∷ r 3 3 1 1 ∷ []))
    (2 ∷ 3 ∷ []) 3 (2 ∷ 2 ∷ []) (3 ∷ 3 ∷ [])
    (0 ∷ 1 ∷ 1 ∷ []) (0 ∷ 1 ∷ 1 ∷ [])
    -- P11: unit 2 must be carried
    ∷ plan (sheet 2 (w 1 2 ∷ w 1 3 ∷ []) (r 1 2 0 1 ∷ []))
    (1 ∷ 3 ∷ []) 3 (1 ∷ 3 ∷ []) (2 ∷ 3 ∷ [])
    (0 ∷ 0 ∷ []) (1 ∷ 1 ∷ [])
    -- P12: P4, which has no plan, with windows that reach into the next wave
    ∷ plan (sheet 3 (w 1 4 ∷ w 1 4 ∷ []) (r 1 3 1 1 ∷ []))
    (1 ∷ 4 ∷ []) 3 (1 ∷ 1 ∷ []) (4 ∷ 4 ∷ [])
    (0 ∷ 0 ∷ 0 ∷ []) (1 ∷ 1 ∷ 1 ∷ [])
    ∷ []

-- How far seating looks, where slot 1 takes two units, slot 3 none, and one is carried. In the order of seats the units are 2, 3, 1 and 4: slot 1 has the
-- places 1 and 2, slot 2 has place 3, and the carried place has 4.
abbrev busy : Sheet
busy = constraints (sheet 3 (w 1 3 ∷ w 1 1 ∷ w 1 1 ∷ w 2 4 ∷ []) (r 1 1 0 2 ∷ r 2 3 0 1 ∷ []))

pub looks_by_hand : (printed_plan busy ≡ 2 ∷ 1 ∷ 1 ∷ 4 ∷ []) × (map (last_seated busy (printed_plan busy)) (from_to 1 4) ≡ 2 ∷ 3 ∷ 0 ∷ 4 ∷ []) × (looked busy ≡ 9)
unfolding top lawful lawful_plans greatest_in soonest fair printed_plans printed_plan looked
looks_by_hand = (refl, refl, refl)

-- the first case, whose numbers are new, and the others
also : {A B : Type 0} → A → B → (A × T true) × B
also a b = ((a, tt), b)

pub all_cases_hold : All cases
unfolding top lawful lawful_plans least_in greatest_in earliest latest earliest_slots latest_slots soonest fair printed_plans printed_plan looked at_most at_least limit
    is_ring ring_sum shortfall is_negative_cycle is_new all_new
all_cases_hold =
    also (refl, refl, refl, refl, refl, refl) (also (refl, refl, refl, refl, refl, refl) (also (refl, refl, refl, refl, refl, refl) (also (refl, refl, tt, refl)
    (also (refl, refl, tt, refl) (also (refl, refl, refl, refl, refl, refl) (also (refl, refl, refl, refl, refl, refl) (also (refl, refl, tt, refl)
    (also (refl, refl, refl, refl, refl, refl) (also (refl, refl, refl, refl, refl, refl) (also (refl, refl, refl, refl, refl, refl)
    (also (refl, refl, refl, refl, refl, refl) tt)))))))))))
