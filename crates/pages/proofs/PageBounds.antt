-- No answer page of an accepted sheet with loader numbers is longer than maxPage, so a page of that length never refuses one.
-- Key idea: a line is no longer than its form's words and so many digits (`line_short`), and a page no longer than so many lines.
use Rattle.std.specs.Prelude.{◌≡◌, refl, ℕ, zero, suc, ◌+◌, ◌-◌, ◌*◌, ◌≤◌, ◌<◌, T, eqb, length, ℤ, ◌+ℤ◌}
use Rattle.std.proofs.Common.{ap, ⊎_elim, suc-mul}
use mathlib.Core.List.Memᴰ
use mathlib.Core.List.{List, [], ◌∷◌, map}
use native.Mathlib.Omega.{arith}
use Rattle.std.proofs.Math.Decide.{dec_le}
use Rattle.std.proofs.Math.ListN.{get_or, length-append, get_or-eq_default}
use Rattle.integers.specs.Parts.{up, dn, sum, neg, apart}
use Rattle.lists.specs.Lists.{run, from_to, within, joined, least, greatest}
use Rattle.lists.specs.Members.{In, in_map}
use Rattle.lists.specs.Extremes.{least_in_lem, greatest_in_lem}
use Rattle.lists.specs.Counts.{how_many_most}
use Rattle.network.specs.Network.{Weights, via}
use Rattle.network.proofs.NetworkLaws.{distinct_length, cycle_read}
use Rattle.network.specs.Table.{max_boundaries}
use Rattle.sheet.specs.Sizes.{max_slots, max_units, max_count, max_loader, carried_place, top_of}
use Rattle.sheet.specs.Sheet.{Sheet, top, limit, is_ring, count_in, lawful_plans, least_in, greatest_in, earliest, latest}
use Rattle.sheet.specs.Sheet.{earliest_slots, latest_slots, printed_plan}
use Rattle.sheet.proofs.PlanLaws.{in_lawful_plans_iff}
use Rattle.plans.proofs.PrintedLaws.{printed_or_none}
use Rattle.limits.specs.LimitTableLaws.{limit_small}
use Rattle.sheet.specs.Questions.{accepted, loaders_fit}
use Rattle.sheet.proofs.LoaderLaws.{loader_size}
use Rattle.sheet.proofs.QuestionLaws.{accepted_sized, accepted_valid}
use Rattle.forms.specs.Words.{text}
use Rattle.forms.specs.Forms.{plan_head_form, unit_line_form, carried_line_form, slot_line_form, fits_head_form, range_line_form}
use Rattle.forms.specs.Forms.{none_head_form, at_most_form, at_least_form, shortfall_form}
use Rattle.forms.specs.DecimalLaws.{line_short}
use Rattle.print_bytes.specs.Writing.{plan_head, unit_line, carried_line, slot_line, fits_head, range_line, none_head, at_most_line, at_least_line, shortfall_line}
use Rattle.pages.specs.Page.{placed_line, unit_line_at, unit_lines, slot_line_at, slot_lines, units_at, plan_page, max_head, max_unit_line, max_slot_line}
use Rattle.pages.specs.Page.{range_line_at, range_lines, fits_page, max_range_line}
use Rattle.pages.specs.Page.{step_line, step_lines, ring_lines, shortfall_of, none_page, max_step_line, max_page, max_ring_page}
use Rattle.pages.proofs.PageLaws.{three_length, placed_inside, placed_past, step_forward, step_backward}
use Rattle.network.specs.Cycles.{Upto}

-- ---- lines
unit_line_short : (k x e l : ℕ) → k < 10000 → x < 100 → e < 100 → l < 100 → length (unit_line k x e l) ≤ max_unit_line
unfolding unit_line text
unit_line_short k x e l hk hx he hl = line_short unit_line_form (k ∷ x ∷ e ∷ l ∷ []) (4 ∷ 2 ∷ 2 ∷ 2 ∷ []) (hk, (hx, (he, (hl, tt))))

carried_line_short : (k e l : ℕ) → k < 10000 → e < 100 → l < 100 → length (carried_line k e l) ≤ max_unit_line
unfolding carried_line text
carried_line_short k e l hk he hl = line_short carried_line_form (k ∷ e ∷ l ∷ []) (4 ∷ 2 ∷ 2 ∷ []) (hk, (he, (hl, tt)))

-- the slot of a unit line is at most the span
placed_line_short : (span k x e l : ℕ) → span < 100 → k < 10000 → e < 100 → l < 100 → length (placed_line span k x e l) ≤ max_unit_line
placed_line_short span k x e l hs hk he hl =
    elim (dec_le x span) [
      | yes h ↦ rw (placed_inside span k x e l h) (unit_line_short k x e l hk (omega arith) he hl)
      | no g ↦ rw (placed_past span k x e l (omega arith)) (carried_line_short k e l hk he hl)
    ]

slot_line_short : (t c l g : ℕ) → t < 100 → c < 1000 → l < 1000 → g < 1000 → length (slot_line t c l g) ≤ max_slot_line
unfolding slot_line text
slot_line_short t c l g ht hc hl hg = line_short slot_line_form (t ∷ c ∷ l ∷ g ∷ []) (2 ∷ 3 ∷ 3 ∷ 3 ∷ []) (ht, (hc, (hl, (hg, tt))))

range_line_short : (t l g : ℕ) → t < 100 → l < 1000 → g < 1000 → length (range_line t l g) ≤ max_range_line
unfolding range_line text
range_line_short t l g ht hl hg = line_short range_line_form (t ∷ l ∷ g ∷ []) (2 ∷ 3 ∷ 3 ∷ []) (ht, (hl, (hg, tt)))

fits_head_short : (n : ℕ) → n < 1000 → length (fits_head n) ≤ max_head
unfolding fits_head text
fits_head_short n h = line_short fits_head_form (n ∷ []) (3 ∷ []) (h, tt)

head_short : (n : ℕ) → n < 1000 → length (plan_head n) ≤ max_head
unfolding plan_head text
head_short n h = line_short plan_head_form (n ∷ []) (3 ∷ []) (h, tt)

at_most_short : (k a b : ℕ) → k < 1000 → a < 100 → b < 100 → length (at_most_line k a b) ≤ max_step_line
unfolding at_most_line text
at_most_short k a b hk ha hb = omega (arith, line_short at_most_form (k ∷ a ∷ b ∷ []) (3 ∷ 2 ∷ 2 ∷ []) (hk, (ha, (hb, tt))))

at_least_short : (k a b : ℕ) → k < 1000 → a < 100 → b < 100 → length (at_least_line k a b) ≤ max_step_line
unfolding at_least_line text
at_least_short k a b hk ha hb = line_short at_least_form (k ∷ a ∷ b ∷ []) (3 ∷ 2 ∷ 2 ∷ []) (hk, (ha, (hb, tt)))

none_head_short : length none_head ≤ max_head
unfolding none_head text
none_head_short = omega (arith, line_short none_head_form [] [] tt)

shortfall_short : (k : ℕ) → k < 100000 → length (shortfall_line k) ≤ max_head
unfolding shortfall_line text
shortfall_short k h = line_short shortfall_form (k ∷ []) (5 ∷ []) (h, tt)

lines_short : (f : ℕ → List ℕ) (m i k : ℕ) → ((j : ℕ) → i ≤ j → j < i + k → length (f j) ≤ m) → length (joined (map f (run i k))) ≤ k * m
lines_short f m i zero h = omega arith
lines_short f m i (suc k) h =
    omega (
      arith,
      length-append (f i) (joined (map f (run (suc i) k))),
      h i (omega arith) (omega arith),
      lines_short f m (suc i) k (λ j p q. h j (omega arith) (omega arith)),
      suc-mul k m,
    )

-- the lines of the slots
span_short : (f : ℕ → List ℕ) (m span : ℕ) → ((t : ℕ) → t ≤ span → length (f t) ≤ m) → length (joined (map f (from_to 1 span))) ≤ span * m
span_short f m span h =
    let e : suc span - 1 ≡ span = omega arith in
    omega (arith, ap (λ k. k * m) e, lines_short f m 1 (suc span - 1) (λ t p q. h t (omega arith)))

-- ---- the page of a plan

-- loader numbers within 9999, the span within 48, narrowed windows within the carried place behind it, and counts within 300
pub record Small (span : ℕ) (loader slots first last : List ℕ) (low high : ℕ → ℕ) : Type 0 where
  pub spans : span ≤ max_slots
  pub units : length slots ≤ max_units
  pub loaders : (j : ℕ) → get_or loader j 0 ≤ max_loader
  pub windows : (j : ℕ) → (get_or first j 0 ≤ carried_place max_slots) × (get_or last j 0 ≤ carried_place max_slots)
  pub ranges : (t : ℕ) → (low t ≤ max_units) × (high t ≤ max_units)

module _ {span : ℕ} {loader slots first last : List ℕ} {low high : ℕ → ℕ} (s : Small span loader slots first last low high) where
  units_short : length (unit_lines span loader slots first last) ≤ length slots * max_unit_line
  unfolding unit_lines unit_line_at
  units_short = lines_short (unit_line_at span loader slots first last) max_unit_line 0 (length slots)
      (λ j p q. let b = s.windows j in
      placed_line_short span _ _ _ _ (omega (arith, s.spans)) (omega (arith, s.loaders j)) (omega arith) (omega arith))

  slots_short : length (slot_lines span (units_at slots) low high) ≤ span * max_slot_line
  unfolding slot_lines slot_line_at
  slots_short = span_short (slot_line_at (units_at slots) low high) max_slot_line span
      (λ t h. let b = s.ranges t in slot_line_short t (units_at slots t) (low t) (high t) (omega (arith, s.spans))
      (omega (arith, how_many_most (eqb t) slots, s.units)) (omega arith) (omega arith))

  pub plan_page_short : length (plan_page span loader slots first last low high) ≤ max_page
  unfolding plan_page
  plan_page_short =
      omega (
        arith,
        three_length (plan_head (length slots)) (unit_lines span loader slots first last) (slot_lines span (units_at slots) low high),
        units_short,
        slots_short,
        head_short (length slots) (omega (arith, s.units)),
        s.spans,
        s.units,
      )

-- ---- the page of a sheet's plan
module _ {A : Type 0} (f : A → ℕ) (k : ℕ) where
  least_small : (xs : List A) → ((x : A) → In x xs → f x ≤ k) → least (map f xs) ≤ k
  least_small [] h = omega arith
  least_small (x ∷ xs) h =
      let p = in_map f (least (map f (x ∷ xs))) (x ∷ xs) (least_in_lem (f x) (map f (x ∷ xs)) (Memᴰ.head refl)) in
      omega (arith, h p.0 p.1, p.2)

  greatest_small : (xs : List A) → ((x : A) → In x xs → f x ≤ k) → greatest (map f xs) ≤ k
  greatest_small [] h = omega arith
  greatest_small (x ∷ xs) h =
      let p = in_map f (greatest (map f (x ∷ xs))) (x ∷ xs) (greatest_in_lem (f x) (map f (x ∷ xs)) (Memᴰ.head refl)) in
      omega (arith, h p.0 p.1, p.2)

values_small : (f : ℕ → ℕ) (k i n j : ℕ) → ((m : ℕ) → f m ≤ k) → get_or (map f (run i n)) j 0 ≤ k
values_small f k i zero j h = omega arith
values_small f k i (suc n) zero h = h i
values_small f k i (suc n) (suc j) h = values_small f k (suc i) n j h

-- a place past the list has 0
loader_small : (ks : List ℕ) → T (loaders_fit ks) → (j : ℕ) → get_or ks j 0 ≤ max_loader
loader_small ks fit j =
    elim (dec_le (length ks) j) [
      | yes h ↦ omega (arith, get_or-eq_default ks 0 {n = j} h)
      | no g ↦ (loader_size ks fit j (omega arith)).1
    ]

module _ (s : Sheet) (ok : T (accepted s)) where
  seat_small : (x : List ℕ) → In x (lawful_plans s) → (j : ℕ) → get_or x j 0 ≤ carried_place max_slots
  unfolding top
  seat_small x m j =
      let l = ((in_lawful_plans_iff s x).0 m).seated in
      elim (dec_le (length s.units) j) [
        | yes h ↦ omega (arith, get_or-eq_default x 0 {n = j} (omega (arith, l.size)))
        | no g ↦ omega (arith, (l.inside j (omega arith)).1, ((accepted_valid s ok).windows j (omega arith)).2, (accepted_sized s ok).slots.1)
      ]

  count_small : (f t : ℕ) (x : List ℕ) → In x (lawful_plans s) → count_in f t x ≤ max_units
  count_small f t x m = omega (arith, how_many_most (within f t) x, ((in_lawful_plans_iff s x).0 m).seated.size, (accepted_sized s ok).units)

  printed_few : length (printed_plan s) ≤ max_units
  printed_few =
      ⊎_elim (λ e. omega (arith, ap length e))
      (λ m. omega (arith, ((in_lawful_plans_iff s (printed_plan s)).0 m).seated.size, (accepted_sized s ok).units)) (printed_or_none s)

  ranges_small : (t : ℕ) → (least_in s t t ≤ max_units) × (greatest_in s t t ≤ max_units)
  unfolding least_in greatest_in
  ranges_small t = (
    least_small (count_in t t) max_units (lawful_plans s) (count_small t t),
    greatest_small (count_in t t) max_units (lawful_plans s) (count_small t t),
  )

  sheet_small : (ks : List ℕ) → T (loaders_fit ks)
      → Small s.span ks (printed_plan s) (earliest_slots s) (latest_slots s) (λ t. least_in s t t) (λ t. greatest_in s t t)
  unfolding earliest_slots latest_slots earliest latest
  sheet_small ks fit = let last = carried_place max_slots in record {
    spans = (accepted_sized s ok).slots.1;
    units = printed_few;
    loaders = loader_small ks fit;
    windows = λ j. (
      values_small (earliest s) last 0 (length s.units) j (λ m. least_small (λ plan. get_or plan m 0) last (lawful_plans s) (λ x h. seat_small x h m)),
      values_small (latest s) last 0 (length s.units) j (λ m. greatest_small (λ plan. get_or plan m 0) last (lawful_plans s) (λ x h. seat_small x h m)),
    );
    ranges = ranges_small;
  }

  pub plan_short : (ks : List ℕ) → T (loaders_fit ks)
      → length (plan_page s.span ks (printed_plan s) (earliest_slots s) (latest_slots s) (λ t. least_in s t t) (λ t. greatest_in s t t)) ≤ max_page
  plan_short ks fit = plan_page_short (sheet_small ks fit)

  -- ---- the page of a sheet that fits
  ranges_short : length (range_lines s.span (λ t. least_in s t t) (λ t. greatest_in s t t)) ≤ s.span * max_range_line
  unfolding range_lines range_line_at
  ranges_short = span_short (range_line_at (λ t. least_in s t t) (λ t. greatest_in s t t)) max_range_line s.span
      (λ t h. let b = ranges_small t in
      range_line_short t (least_in s t t) (greatest_in s t t) (omega (arith, (accepted_sized s ok).slots.1)) (omega arith) (omega arith))

  pub fits_short : length (fits_page s.span (length s.units) (λ t. least_in s t t) (λ t. greatest_in s t t)) ≤ max_page
  unfolding fits_page
  fits_short =
      let sized = accepted_sized s ok in
      let ranges = range_lines s.span (λ t. least_in s t t) (λ t. greatest_in s t t) in
      omega (
        arith,
        length-append (fits_head (length s.units)) (joined (ranges ∷ [])),
        length-append ranges [],
        fits_head_short (length s.units) (omega (arith, sized.units)),
        ranges_short,
        sized.slots.1,
      )

-- ---- the page of a ring

-- limits within 300 of 0, between boundaries within the top of the longest span
pub record SmallSteps (d : Weights) : Type 0 where
  pub each : (a b : ℕ) → a ≤ top_of max_slots → b ≤ top_of max_slots → (up (d a b) ≤ max_count) × (dn (d a b) ≤ max_count)

fall_sum : (x y : ℤ) → dn (x +ℤ y) ≤ dn x + dn y
fall_sum x y = ⊎_elim (λ e. omega (arith, sum x y)) (λ e. omega arith) (apart (x +ℤ y))

module _ (d : Weights) (small : SmallSteps d) where
  step_line_short : (a b : ℕ) → a ≤ top_of max_slots → b ≤ top_of max_slots → length (step_line d a b) ≤ max_step_line
  step_line_short a b ha hb =
      let l = small.each a b ha hb in
      elim (dec_le b a) [
        | yes h ↦ rw (step_backward d a b h) (at_least_short (dn (d a b)) (suc b) a (omega arith) (omega arith) (omega arith))
        | no g ↦ rw (step_forward d a b (omega arith)) (at_most_short (up (d a b)) (suc a) b (omega arith) (omega arith) (omega arith))
      ]

  step_lines_short : (a : ℕ) (bs : List ℕ) (e : ℕ) → a ≤ top_of max_slots → ((b : ℕ) → In b bs → b ≤ top_of max_slots) → e ≤ top_of max_slots
      → length (joined (step_lines d a bs e)) ≤ suc (length bs) * max_step_line
  unfolding step_lines
  step_lines_short a [] e ha h he = omega (arith, step_line_short a e ha he, length-append (step_line d a e) [])
  step_lines_short a (b ∷ bs) e ha h he =
      let hb = h b (Memᴰ.head refl) in
      omega (
        arith,
        step_line_short a b ha hb,
        length-append (step_line d a b) (joined (step_lines d b bs e)),
        step_lines_short b bs e hb (λ c m. h c (Memᴰ.tail m)) he,
      )

  fall_short : (a : ℕ) (bs : List ℕ) (e : ℕ) → a ≤ top_of max_slots → ((b : ℕ) → In b bs → b ≤ top_of max_slots) → e ≤ top_of max_slots
      → dn (via d a bs e) ≤ suc (length bs) * max_count
  fall_short a [] e ha h he = omega (arith, small.each a e ha he)
  fall_short a (b ∷ bs) e ha h he =
      let hb = h b (Memᴰ.head refl) in
      omega (arith, fall_sum (d a b) (via d b bs e), small.each a b ha hb, fall_short b bs e hb (λ c m. h c (Memᴰ.tail m)) he)

  pub none_page_short : (ring : List ℕ) → length ring ≤ max_boundaries → ((b : ℕ) → In b ring → b ≤ top_of max_slots) → length (none_page d ring) ≤ max_ring_page
  unfolding none_page ring_lines
  none_page_short [] few h =
      omega (arith, three_length none_head [] (shortfall_line (shortfall_of d [])), none_head_short, shortfall_short (shortfall_of d []) (omega arith))
  none_page_short (a ∷ bs) few h =
      let ha = h a (Memᴰ.head refl) in
      let hs : (b : ℕ) → In b bs → b ≤ top_of max_slots = λ c m. h c (Memᴰ.tail m) in
      omega (
        arith,
        three_length none_head (joined (step_lines d a bs a)) (shortfall_line (shortfall_of d (a ∷ bs))),
        none_head_short,
        step_lines_short a bs a ha hs ha,
        shortfall_short (shortfall_of d (a ∷ bs)) (omega (arith, (neg (via d a bs a)).0, fall_short a bs a ha hs ha)),
      )

-- what a ring of a sheet is, as printing asks it
pub record RingRead (top : ℕ) (ring : List ℕ) : Type 0 where
  pub long : 2 ≤ length ring
  pub few : length ring ≤ suc top
  pub upto : Upto top ring

pub ring_read : (s : Sheet) (ring : List ℕ) → T (is_ring s ring) → RingRead (top s) ring
unfolding is_ring
ring_read s ring h =
    let r = cycle_read (top s) (limit s) ring h in
    record { long = r.long; few = distinct_length (top s) ring r.upto r.apart; upto = r.upto }

upto_in : (most : ℕ) (ring : List ℕ) → Upto most ring → (b : ℕ) → In b ring → b ≤ most
upto_in most [] h b m = absurd (Memᴰ.not-nil m)
upto_in most (a ∷ bs) h b m = ⊎_elim (λ e. omega (arith, h.0)) (upto_in most bs h.1 b) (Memᴰ.cases_cons m)

module _ (s : Sheet) (ok : T (accepted s)) where
  limits_small : SmallSteps (limit s)
  limits_small = record { each = λ a b ha hb. limit_small s ok a b }

  pub none_fits : (ring : List ℕ) → T (is_ring s ring) → length (none_page (limit s) ring) ≤ max_ring_page
  unfolding top
  none_fits ring h =
      let r = ring_read s ring h in
      let most = (accepted_sized s ok).slots.1 in
      none_page_short (limit s) limits_small ring (omega (arith, r.few)) (λ b m. omega (arith, upto_in (top s) ring r.upto b m))

  pub none_short : (ring : List ℕ) → T (is_ring s ring) → length (none_page (limit s) ring) ≤ max_page
  none_short ring h = omega (arith, none_fits ring h)
