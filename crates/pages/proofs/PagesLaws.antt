-- The page of the printed plan, that of a sheet that fits and that of a ring say what they are to say of the sheet.
-- Key idea: read back, the lines are the values that the page was made of, place by place; these are least, greatest, earliest and latest over lawful
-- plans by their definitions, and that the printed plan is the one it should be is known of the finished table. A line of a unit, carried or not, stands among
-- the units' lines, so it has a unit's place, and question 16 leaves its number to that unit alone. Windows end with the carried place at the latest, so a
-- slot past the span is that place.
use Rattle.std.specs.Prelude.{◌≡◌, refl, ◌↔◌, Bool, true, false, cond, ℕ, suc, ◌-◌, ◌≤◌, ◌<◌, T, leb, length, get_or}
use Rattle.std.proofs.Common.{sym, ◌∙◌, subst, ⊎_elim, arith, leb-true, leb-false}
use Rattle.std.proofs.Math.Path.{ap, ap₂}
use mathlib.Core.List.Memᴰ
use mathlib.Core.List.{List, ◌∷◌, ◌++◌, map}
use Rattle.lists.specs.Lists.{run, from_to}
use Rattle.lists.specs.Members.{In, in_map, in_run}
use Rattle.lists.specs.Values.{list_of_at, list_of_same}
use Rattle.network.specs.Network.{Weights}
use Rattle.sheet.specs.Sizes.{carried_place}
use Rattle.sheet.specs.Sheet.{Sheet, top, lawful, count_in, least_in, greatest_in, earliest, latest, earliest_slots, latest_slots, printed_plan, limit, is_ring}
use Rattle.sheet.proofs.PlanLaws.{lawful_iff, greatest_in_bound}
use Rattle.sheet.proofs.PotentialLaws.{ring_contradicts}
use Rattle.sheet.specs.Questions.{loaders_fit}
use Rattle.sheet.proofs.LoaderLaws.{loader_once}
use Rattle.plans.proofs.PrintedLaws.{Printed, some_printed}
use Rattle.plans.proofs.CountLaws.{solved_plan, range}
use Rattle.pages.specs.PageLines.{Said, plan, unit, carried, unit_lines_with, unit_said, slot_said, read_lines}
use Rattle.pages.proofs.PageLinesLaws.{plan_read, fits_read, none_read}
use Rattle.pages.specs.SheetPages.{plan_bytes, fits_bytes, ring_bytes}
use Rattle.pages.specs.Pages.{plan_lines, UnitOf, RangesHold, PlanPage, FitsPage, NonePage}
use Rattle.sheet.specs.Solved.{Solved}

ranges_hold : (s : Sheet) (D : Weights) → Solved s D → RangesHold s
unfolding top
ranges_hold s D S t h ht k =
    let e : suc (t - 1) ≡ t = omega arith in
    subst (λ f. ((y : List ℕ) × T (lawful s y) × (count_in f t y ≡ k)) ↔ ((least_in s f t ≤ k) × (k ≤ greatest_in s f t))) e
    (range s D S (t - 1) t (omega arith) (omega arith) k)

module _ (ks : List ℕ) (s : Sheet) (D : Weights) (S : Solved s D) where
  printed : Printed s (printed_plan s)
  printed = some_printed s D S

  abbrev n : ℕ
  n = length s.units

  size : length (printed_plan s) ≡ n
  size = ((lawful_iff s (printed_plan s)).0 printed.legal).seated.size

  abbrev slot_of : ℕ → ℕ
  slot_of j = get_or (printed_plan s) j 0

  -- the lines of the units, with their narrowed windows
  abbrev with_windows : (ℕ → ℕ) → (ℕ → ℕ) → ℕ → Said
  with_windows = unit_said s.span (λ j. get_or ks j 0) slot_of

  -- with the windows' ends as the two lists have them
  abbrev listed : ℕ → Said
  listed = with_windows (λ j. get_or (earliest_slots s) j 0) (λ j. get_or (latest_slots s) j 0)

  -- and as the sheet's definitions have them
  abbrev of_unit : ℕ → Said
  of_unit = with_windows (earliest s) (latest s)

  units_are : map listed (run 0 (length (printed_plan s))) ≡ map of_unit (run 0 n)
  unfolding earliest_slots latest_slots
  units_are =
      ap (λ k. map listed (run 0 k)) size
      ∙ list_of_same n listed of_unit
      (λ j h. ap₂ (λ e f. with_windows (λ i. e) (λ i. f) j) (list_of_at (earliest s) n j 0 h) (list_of_at (latest s) n j 0 h))

  -- the lines, and the slot lines, whose counts are the lines' own
  abbrev ls : List Said
  ls = read_lines (plan_bytes ks s)

  abbrev of_slot : ℕ → Said
  of_slot = slot_said (λ t. unit_lines_with t ls) (λ t. least_in s t t) (λ t. greatest_in s t t)

  lines_are : ls ≡ plan_lines ks s (printed_plan s) ls
  unfolding plan_bytes
  lines_are =
      plan_read s.span ks (printed_plan s) (earliest_slots s) (latest_slots s) (λ t. least_in s t t) (λ t. greatest_in s t t)
      ∙ ap₂ (λ (k : ℕ) (us : List Said). plan k ∷ (us ++ map of_slot (from_to 1 s.span))) size units_are

  -- a line that is neither the head nor a slot's is the line of some unit
  unit_place : (w : Said) → (w ≡ plan n → ⊥) → ((t : ℕ) → w ≡ of_slot t → ⊥) → In w ls → (j : ℕ) × (j < n) × (w ≡ of_unit j)
  unit_place w head slots m =
      ⊎_elim (λ h. absurd (head h))
      (λ r. ⊎_elim
      (λ u. let p = in_map of_unit w (run 0 n) u in (p.0, omega (arith, (in_run p.0 0 n p.1).1), p.2))
      (λ u. let p = in_map of_slot w (from_to 1 s.span) u in absurd (slots p.0 p.2))
      (Memᴰ.append_cases (map of_unit (run 0 n)) r))
      (Memᴰ.cases_cons (subst (In w) lines_are m))

  -- a unit's slot is one of the span, or the carried place
  slot_within : (j : ℕ) → j < n → (1 ≤ slot_of j) × (slot_of j ≤ carried_place s.span)
  unfolding top
  slot_within j h =
      let x = ((lawful_iff s (printed_plan s)).0 printed.legal).seated.inside j h in
      let w = S.valid.windows j h in
      (omega (arith, x.0, w.0), omega (arith, x.1, w.2))

  module _ (fit : T (loaders_fit ks)) (long : length ks ≡ n) where
    -- the unit at a place, and no other: no two units have the same loader number
    unit_at : (j : ℕ) → j < n → (k t e f : ℕ) → get_or ks j 0 ≡ k → t ≡ slot_of j → e ≡ earliest s j → f ≡ latest s j → UnitOf ks s (printed_plan s) k t e f
    unit_at j h k t e f number slot first last = record {
      place = j;
      inside = h;
      number = number;
      alone = λ i l g. loader_once ks fit i j (omega arith) (omega arith) (g ∙ sym number);
      slot = slot;
      first = first;
      last = last;
    }

    -- inside the span the line has the slot
    unit_read : (j : ℕ) → j < n → (k t e f : ℕ) → unit k t e f ≡ of_unit j → UnitOf ks s (printed_plan s) k t e f × (1 ≤ t) × (t ≤ s.span)
    unit_read j h k t e f = go (leb (slot_of j) s.span) refl
      where
        go : (b : Bool) → leb (slot_of j) s.span ≡ b
            → unit k t e f ≡ cond b (unit (get_or ks j 0) (slot_of j) (earliest s j) (latest s j)) (carried (get_or ks j 0) (earliest s j) (latest s j))
            → UnitOf ks s (printed_plan s) k t e f × (1 ≤ t) × (t ≤ s.span)
        go true inside same =
            let slot : t ≡ slot_of j = cc in
            (unit_at j h k t e f (cc) slot (cc) (cc), omega (arith, slot_within j h), omega (arith, leb-true (slot_of j) s.span inside))
        go false inside same = let z : ◌≡◌ {A = ℕ} 0 1 = cc in absurd (omega arith)

    -- past the span it says that the unit is carried
    carried_read : (j : ℕ) → j < n → (k e f : ℕ) → carried k e f ≡ of_unit j → UnitOf ks s (printed_plan s) k (carried_place s.span) e f
    carried_read j h k e f = go (leb (slot_of j) s.span) refl
      where
        go : (b : Bool) → leb (slot_of j) s.span ≡ b
            → carried k e f ≡ cond b (unit (get_or ks j 0) (slot_of j) (earliest s j) (latest s j)) (carried (get_or ks j 0) (earliest s j) (latest s j))
            → UnitOf ks s (printed_plan s) k (carried_place s.span) e f
        go true inside same = let z : ◌≡◌ {A = ℕ} 0 1 = cc in absurd (omega arith)
        go false past same =
            unit_at j h k (carried_place s.span) e f (cc) (omega (arith, slot_within j h, leb-false (slot_of j) s.span past)) (cc) (cc)

    unit_of_lem : (k t e f : ℕ) → In (unit k t e f) ls → UnitOf ks s (printed_plan s) k t e f × (1 ≤ t) × (t ≤ s.span)
    unit_of_lem k t e f m =
        let p = unit_place (unit k t e f) (λ h. let z : ◌≡◌ {A = ℕ} 0 1 = cc in omega arith) (λ i h. let z : ◌≡◌ {A = ℕ} 0 1 = cc in omega arith) m in
        unit_read p.0 p.1 k t e f p.2

    carried_of : (k e f : ℕ) → In (carried k e f) ls → UnitOf ks s (printed_plan s) k (carried_place s.span) e f
    carried_of k e f m =
        let p = unit_place (carried k e f) (λ h. let z : ◌≡◌ {A = ℕ} 0 1 = cc in omega arith) (λ i h. let z : ◌≡◌ {A = ℕ} 0 1 = cc in omega arith) m in
        carried_read p.0 p.1 k e f p.2

    pub plan_page_lem : PlanPage ks s (printed_plan s) ls
    unfolding top
    plan_page_lem = record {
      lines = lines_are;
      units = unit_of_lem;
      carries = carried_of;
      legal = printed.legal;
      seated = printed.order;
      soonest = λ y l t h ht. omega (arith, greatest_in_bound s y l 1 t, printed.early t h ht);
      ranges = ranges_hold s D S;
    }

pub fits_page_lem : (s : Sheet) (D : Weights) → Solved s D → FitsPage s (read_lines (fits_bytes s))
unfolding fits_bytes
fits_page_lem s D S = record {
  lines = fits_read s.span (length s.units) (λ t. least_in s t t) (λ t. greatest_in s t t);
  some = solved_plan s D S;
  ranges = ranges_hold s D S;
}

pub none_page_lem : (s : Sheet) (ring : List ℕ) → T (is_ring s ring) → NonePage s ring (read_lines (ring_bytes s ring))
unfolding ring_bytes
none_page_lem s ring h = record { lines = none_read (limit s) ring; closed = h; unlawful = ring_contradicts s ring h }
