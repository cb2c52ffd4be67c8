-- What customers may compare: 1. the same units and the same rules, listed in another order; 2. wider windows and looser rules, all else equal.
-- Of two sheets, of two calls of `plan` and of `decide`, and of two answers to texts, none of them refused. docs/RULES.md, "Waves to compare".
-- What the words mean stands in compare_sheets/specs/Comparing.antt (`Relisted`, `SameLoader`, `seats_closing`, `ClosesAlone`, `Looser`) and in Calls.antt (a
-- call, an answer, its lines).
-- Key idea: every lawful plan of the one sheet is one of the other, unit by unit, and all that is answered follows from the lawful plans.
use Rattle.std.specs.Prelude.{◌≡◌, ◌↔◌, List, ℕ, suc, ◌≤◌, ◌<◌, T, length, get_or, ◌≤ℤ◌}
use Rattle.std.proofs.Common.{sym, ap, ◌∙◌, subst, arith, get_or-take}
use Rattle.lists.specs.Members.{In}
use Rattle.network.specs.Table.{entry}
use Rattle.slots.specs.Slots.{Slot, Boundary, slot_before}
use Rattle.sheet.specs.Sheet.{Sheet, WrittenSheet, constraints, loaders, top, boundaries, lawful, count_in, least_in, greatest_in, earliest, latest, printed_plan}
use Rattle.sheet.proofs.QuestionLaws.{accepted_valid}
use Rattle.sheet.specs.Lists.{given_by, written_by}
use Rattle.plan_answers.specs.Reply as says
use Rattle.plan_conditions.specs.Statements.{SomeLawful}
use Rattle.plan_conditions.proofs.Conditions as plans
use Rattle.pages.specs.PageLines.{slot, range, other}
use Rattle.wave_words.specs.declared.Query.TheVariants.{Plan, Fits}
use Rattle.compare_sheets.specs.Comparing.{Accepted, Relisted, SameLoader, seats_closing, ClosesAlone, Looser}
use Rattle.compare_sheets.proofs.AlongLaws.{relisted_back}
use Rattle.compare_sheets.proofs.LooserLaws as looser
use Rattle.compare.specs.Calls.{PlanCall, plan_of, DecideCall, TextAnswer, text_sheet, lines_of, IsPlan, IsFit, IsNone, other_lines, SaysBetween}
use Rattle.compare.proofs.CallLaws.{Alike, relisted_alike, written_length, earliest_is, latest_is, none_there, looser_some}
use Rattle.compare.proofs.KnownLaws.{plan_known, decide_known, known_alike, known_plan, known_none, known_table, known_looser, known_looser_table}
use Rattle.compare.proofs.PageLaws as pages
use Rattle.compare.proofs.PageLaws.{text_accepted, page_of_plan, page_of_fit, page_none_iff}

-- ======== 1. The same span, the same units and the same rules, listed in another order

-- ---- Two accepted sheets
module _ (w v : WrittenSheet) (listed : Relisted w v) (okw : Accepted w) (okv : Accepted v) where
  abbrev pub s : Sheet
  s = constraints w

  abbrev pub t : Sheet
  t = constraints v

  sheets_alike : Alike s t (SameLoader w v)
  sheets_alike = relisted_alike w v listed okw okv

  -- agree on plan or none,
  pub sheets_plan : SomeLawful s ↔ SomeLawful t
  sheets_plan = sheets_alike.some

  -- on every count range: that of every stretch, which may end with the carried place or be that place alone,
  pub sheets_ranges : (first last : Slot) → (least_in s first last ≡ least_in t first last) × (greatest_in s first last ≡ greatest_in t first last)
  sheets_ranges first last = (sheets_alike.least first last, sheets_alike.greatest first last)

  -- on each loader's narrowed window,
  pub sheets_windows : (i j : ℕ) → SameLoader w v i j → (earliest s i ≡ earliest t j) × (latest s i ≡ latest t j)
  sheets_windows i j l = (sheets_alike.early i j l, sheets_alike.late i j l)

  module _ (some : SomeLawful s) where
    -- and on every slot's count in the printed plan, that of the carried place too.
    pub sheets_counts : (u : Slot) → 1 ≤ u → u ≤ slot_before (top s) → count_in u u (printed_plan s) ≡ count_in u u (printed_plan t)
    sheets_counts = sheets_alike.counts some

    -- Seats differ only among loaders with equal closing slots: of each closing slot as many loaders have each slot in the one plan as in the other,
    pub sheets_seats : (closing u : Slot) → seats_closing s (printed_plan s) closing u ≡ seats_closing t (printed_plan t) closing u
    sheets_seats = sheets_alike.closing some

    -- and a loader whose closing slot is its alone keeps its seat.
    pub sheets_alone : (i j : ℕ) → SameLoader w v i j → ClosesAlone s i → get_or (printed_plan s) i 0 ≡ get_or (printed_plan t) j 0
    sheets_alone = sheets_alike.seat some

-- ---- Two calls of `plan` that are not refused
module _ (p q : PlanCall) (listed : Relisted (written_by p.lists) (written_by q.lists)) where
  abbrev pub one : Sheet
  one = given_by p.lists

  abbrev pub two : Sheet
  two = given_by q.lists

  abbrev pub Same : ℕ → ℕ → Type 0
  Same = SameLoader (written_by p.lists) (written_by q.lists)

  plans_alike : Alike one two Same
  plans_alike = known_alike (plan_known p) (plan_known q) listed

  -- agree on plan or none;
  pub plans_plan : (p.reply ≡ says.plan) ↔ (q.reply ≡ says.plan)
  plans_plan = known_plan (plan_known p) (plan_known q) listed

  pub plans_none : ((k : ℕ) × (p.reply ≡ says.none k)) ↔ ((k : ℕ) × (q.reply ≡ says.none k))
  plans_none = known_none (plan_known p) (plan_known q) listed

  module _ (plan : p.reply ≡ says.plan) where
    some : SomeLawful one
    some = (plan_known p).some.0 plan

    plan' : q.reply ≡ says.plan
    plan' = plans_plan.0 plan

    inside : (i : ℕ) → i < length (written_by p.lists).units → i < length one.units
    inside i h = subst (λ k. i < k) (written_length p.lists (plan_known p).listed) h

    inside' : (j : ℕ) → j < length (written_by q.lists).units → j < length two.units
    inside' j h = subst (λ k. j < k) (written_length q.lists (plan_known q).listed) h

    front : plan_of p ≡ printed_plan one
    front = plans.plan_at p.lists p.before p.reply p.after p.settled plan

    front' : plan_of q ≡ printed_plan two
    front' = plans.plan_at q.lists q.before q.reply q.after q.settled plan'

    -- on every entry of the table: the greatest count of each stretch, and minus its least;
    pub plans_ranges : (a b : Boundary) → a ≤ top one → b ≤ top one
        → entry (boundaries one) p.after.table a b ≡ entry (boundaries two) q.after.table a b
    plans_ranges = known_table (plan_known p) (plan_known q) listed plan

    -- on each loader's narrowed window;
    pub plans_windows : (i j : ℕ) → Same i j
        → (get_or p.after.earliest i 0 ≡ get_or q.after.earliest j 0) × (get_or p.after.latest i 0 ≡ get_or q.after.latest j 0)
    plans_windows i j l =
        let hi = inside i l.one in
        let hj = inside' j l.other in
        let there = plans_alike.some.0 some in (
          earliest_is one some p.after.earliest i hi (plans.earliest_slot p.lists p.before p.reply p.after p.settled plan)
              ∙ plans_alike.early i j l
              ∙ sym (earliest_is two there q.after.earliest j hj (plans.earliest_slot q.lists q.before q.reply q.after q.settled plan')),
          latest_is one some p.after.latest i hi (plans.latest_slot p.lists p.before p.reply p.after p.settled plan)
              ∙ plans_alike.late i j l
              ∙ sym (latest_is two there q.after.latest j hj (plans.latest_slot q.lists q.before q.reply q.after q.settled plan')),
        )

    -- on every slot's count in the plan, that of the carried place too;
    pub plans_counts : (u : Slot) → 1 ≤ u → u ≤ slot_before (top one) → count_in u u (plan_of p) ≡ count_in u u (plan_of q)
    plans_counts u h hu = ap (count_in u u) front ∙ plans_alike.counts some u h hu ∙ sym (ap (count_in u u) front')

    -- and on seats, but among loaders with equal closing slots.
    pub plans_seats : (closing u : Slot) → seats_closing one (plan_of p) closing u ≡ seats_closing two (plan_of q) closing u
    plans_seats c u = ap (λ x. seats_closing one x c u) front ∙ plans_alike.closing some c u ∙ sym (ap (λ x. seats_closing two x c u) front')

    pub plans_alone : (i j : ℕ) → Same i j → ClosesAlone one i → get_or p.after.plan i 0 ≡ get_or q.after.plan j 0
    plans_alone i j l alone =
        sym (get_or-take (length one.units) p.after.plan i 0 (inside i l.one))
        ∙ ap (λ x. get_or x i 0) front ∙ plans_alike.seat some i j l alone ∙ sym (ap (λ x. get_or x j 0) front')
        ∙ get_or-take (length two.units) q.after.plan j 0 (inside' j l.other)

-- ---- Two calls of `decide` that are not refused
module _ (p q : DecideCall) (listed : Relisted (written_by p.lists) (written_by q.lists)) where
  abbrev pub one_d : Sheet
  one_d = given_by p.lists

  abbrev pub two_d : Sheet
  two_d = given_by q.lists

  -- agree on fits or none,
  pub decisions_fit : (p.reply ≡ says.plan) ↔ (q.reply ≡ says.plan)
  decisions_fit = known_plan (decide_known p) (decide_known q) listed

  pub decisions_none : ((k : ℕ) × (p.reply ≡ says.none k)) ↔ ((k : ℕ) × (q.reply ≡ says.none k))
  decisions_none = known_none (decide_known p) (decide_known q) listed

  -- and on every entry of the table.
  pub decisions_ranges : p.reply ≡ says.plan
      → (a b : Boundary) → a ≤ top one_d → b ≤ top one_d → entry (boundaries one_d) p.after.table a b ≡ entry (boundaries two_d) q.after.table a b
  decisions_ranges = known_table (decide_known p) (decide_known q) listed

-- ---- Two answers to texts, of whichever house, that are not refused and were asked for a plan
module _ (p q : TextAnswer Plan) (listed : Relisted (text_sheet p) (text_sheet q)) where
  answers_alike : Alike (constraints (text_sheet p)) (constraints (text_sheet q)) (SameLoader (text_sheet p) (text_sheet q))
  answers_alike = relisted_alike (text_sheet p) (text_sheet q) listed (text_accepted p) (text_accepted q)

  back : Relisted (text_sheet q) (text_sheet p)
  back = relisted_back (text_sheet p) (text_sheet q) listed

  -- are both the page of a plan or both that of a ring.
  pub answers_plan : ((x : List Slot) × IsPlan p x) ↔ ((x : List Slot) × IsPlan q x)
  answers_plan = (
    (λ x. (printed_plan (constraints (text_sheet q)), page_of_plan q (answers_alike.some.0 (x.0, x.1.legal)))),
    (λ x. (printed_plan (constraints (text_sheet p)), page_of_plan p (answers_alike.some.1 (x.0, x.1.legal)))),
  )

  pub answers_none : ((ring : List Boundary) × IsNone p ring) ↔ ((ring : List Boundary) × IsNone q ring)
  answers_none = (
    λ f. (page_none_iff q).1 (none_there (constraints (text_sheet p)) (constraints (text_sheet q)) answers_alike.some.1 ((page_none_iff p).0 f)),
    λ f. (page_none_iff p).1 (none_there (constraints (text_sheet q)) (constraints (text_sheet p)) answers_alike.some.0 ((page_none_iff q).0 f)),
  )

  module _ (x : List Slot) (page : IsPlan p x) where
    some_t : SomeLawful (constraints (text_sheet p))
    some_t = (x, page.legal)

    here : IsPlan p (printed_plan (constraints (text_sheet p)))
    here = page_of_plan p some_t

    there : IsPlan q (printed_plan (constraints (text_sheet q)))
    there = page_of_plan q (answers_alike.some.0 some_t)

    -- Pages of plans have the same head and the same slot lines, with their counts and ranges: all lines but the units';
    pub answers_lines : other_lines (lines_of p) ≡ other_lines (lines_of q)
    answers_lines = pages.others_same (text_sheet p) (text_sheet q) listed answers_alike some_t (lines_of p) (lines_of q) here there

    -- each loader's line has the same `between`;
    pub answers_between : (loader first last : ℕ) → SaysBetween loader first last (lines_of p) ↔ SaysBetween loader first last (lines_of q)
    answers_between k e f = (
      pages.between_there (text_sheet p) (text_sheet q) listed answers_alike some_t (lines_of p) (lines_of q) here there k e f,
      pages.between_there (text_sheet q) (text_sheet p) back (relisted_alike (text_sheet q) (text_sheet p) back (text_accepted q) (text_accepted p))
          (answers_alike.some.0 some_t) (lines_of q) (lines_of p) there here k e f,
    )

    -- the plans of the two pages have the same count in every slot, the carried place included;
    module _ (y : List Slot) (other-page : IsPlan q y) where
      mine : x ≡ printed_plan (constraints (text_sheet p))
      mine = pages.plan_is (loaders (text_sheet p)) (constraints (text_sheet p)) x (lines_of p) page (accepted_valid _ (text_accepted p).sheet)

      yours : y ≡ printed_plan (constraints (text_sheet q))
      yours = pages.plan_is (loaders (text_sheet q)) (constraints (text_sheet q)) y (lines_of q) other-page (accepted_valid _ (text_accepted q).sheet)

      pub answers_counts : (u : Slot) → 1 ≤ u → u ≤ slot_before (top (constraints (text_sheet p))) → count_in u u x ≡ count_in u u y
      answers_counts u h hu = ap (count_in u u) mine ∙ answers_alike.counts some_t u h hu ∙ sym (ap (count_in u u) yours)

      -- of each closing slot as many loaders have each slot in the one as in the other;
      pub answers_seats : (closing u : Slot) → seats_closing (constraints (text_sheet p)) x closing u ≡ seats_closing (constraints (text_sheet q)) y closing u
      answers_seats c u =
          ap (λ z. seats_closing (constraints (text_sheet p)) z c u) mine ∙ answers_alike.closing some_t c u
          ∙ sym (ap (λ z. seats_closing (constraints (text_sheet q)) z c u) yours)

    -- and the line of a loader whose closing slot is its alone is the same, its seat too. (The unit at place i has the line behind the head and i others.)
    pub answers_alone : (i j : ℕ) → SameLoader (text_sheet p) (text_sheet q) i j → ClosesAlone (constraints (text_sheet p)) i
        → get_or (lines_of p) (suc i) other ≡ get_or (lines_of q) (suc j) other
    answers_alone = pages.line_same (text_sheet p) (text_sheet q) listed answers_alike some_t (lines_of p) (lines_of q) here there

-- ---- Two such answers that were asked only whether they fit
module _ (p q : TextAnswer Fits) (listed : Relisted (text_sheet p) (text_sheet q)) where
  fits_alike : Alike (constraints (text_sheet p)) (constraints (text_sheet q)) (SameLoader (text_sheet p) (text_sheet q))
  fits_alike = relisted_alike (text_sheet p) (text_sheet q) listed (text_accepted p) (text_accepted q)

  -- are the same, line by line, where the one says that it fits,
  pub fits_lines_lem : IsFit p → lines_of p ≡ lines_of q
  fits_lines_lem f = pages.fits_same (text_sheet p) (text_sheet q) listed fits_alike (lines_of p) (lines_of q) f (page_of_fit q (fits_alike.some.0 f.some))

  -- and else both the page of a ring.
  pub fits_none : ((ring : List Boundary) × IsNone p ring) ↔ ((ring : List Boundary) × IsNone q ring)
  fits_none = (
    λ f. (page_none_iff q).1 (none_there (constraints (text_sheet p)) (constraints (text_sheet q)) fits_alike.some.1 ((page_none_iff p).0 f)),
    λ f. (page_none_iff p).1 (none_there (constraints (text_sheet q)) (constraints (text_sheet p)) fits_alike.some.0 ((page_none_iff q).0 f)),
  )

-- ======== 2. Wider windows and, on the same stretches, looser rules, any number of them, and all else equal

-- ---- Of two sheets
module _ (s t : Sheet) (more : Looser s t) where
  -- a plan never becomes none: each lawful plan stays one;
  pub looser_plan : (x : List Slot) → T (lawful s x) → T (lawful t x)
  looser_plan = looser.looser_lawful s t more

  -- and where there was a plan no least count rises and no greatest falls, of any stretch.
  pub looser_ranges : SomeLawful s → (first last : Slot) → (least_in t first last ≤ least_in s first last) × (greatest_in s first last ≤ greatest_in t first last)
  looser_ranges x first last = (looser.looser_least s t more x.0 x.1 first last, looser.looser_greatest s t more x.0 x.1 first last)

-- ---- Of two calls of `plan`: no entry of the table falls. (An entry is a greatest count, or minus a least one.)
module _ (p q : PlanCall) (more : Looser (given_by p.lists) (given_by q.lists)) (plan : p.reply ≡ says.plan) where
  pub looser_planned : q.reply ≡ says.plan
  looser_planned = known_looser (plan_known p) (plan_known q) more plan

  pub looser_table : (a b : Boundary) → a ≤ top (given_by p.lists) → b ≤ top (given_by p.lists)
      → entry (boundaries (given_by p.lists)) p.after.table a b ≤ℤ entry (boundaries (given_by q.lists)) q.after.table a b
  looser_table = known_looser_table (plan_known p) (plan_known q) more plan

-- ---- Of two calls of `decide`, the same
module _ (p q : DecideCall) (more : Looser (given_by p.lists) (given_by q.lists)) (fits : p.reply ≡ says.plan) where
  pub looser_decided : q.reply ≡ says.plan
  looser_decided = known_looser (decide_known p) (decide_known q) more fits

  pub looser_decided_table : (a b : Boundary) → a ≤ top (given_by p.lists) → b ≤ top (given_by p.lists)
      → entry (boundaries (given_by p.lists)) p.after.table a b ≤ℤ entry (boundaries (given_by q.lists)) q.after.table a b
  looser_decided_table = known_looser_table (decide_known p) (decide_known q) more fits

-- ---- Of two answers to texts: the page of a plan stays one, and no slot line's least rises and no greatest falls
module _ (p q : TextAnswer Plan) (more : Looser (constraints (text_sheet p)) (constraints (text_sheet q))) (x : List Slot) (page : IsPlan p x) where
  pub looser_answer : IsPlan q (printed_plan (constraints (text_sheet q)))
  looser_answer = page_of_plan q (looser_some (constraints (text_sheet p)) (constraints (text_sheet q)) more (x, page.legal))

  pub looser_lines : (u c l g c' l' g' : ℕ) → In (slot u c l g) (lines_of p) → In (slot u c' l' g') (lines_of q) → (l' ≤ l) × (g ≤ g')
  looser_lines u c l g c' l' g' m n =
      let a = pages.range_is (loaders (text_sheet p)) (constraints (text_sheet p)) x (lines_of p) page u c l g m in
      let b = pages.range_is (loaders (text_sheet q)) (constraints (text_sheet q)) _ (lines_of q) looser_answer u c' l' g' n in
      let least = looser.looser_least (constraints (text_sheet p)) (constraints (text_sheet q)) more x page.legal u u in
      let greatest = looser.looser_greatest (constraints (text_sheet p)) (constraints (text_sheet q)) more x page.legal u u in
      (omega (arith, a.0, b.0, least), omega (arith, a.1, b.1, greatest))

-- ---- And where it was asked only whether it fits
module _ (p q : TextAnswer Fits) (more : Looser (constraints (text_sheet p)) (constraints (text_sheet q))) (page : IsFit p) where
  pub looser_fit : IsFit q
  looser_fit = page_of_fit q (looser_some (constraints (text_sheet p)) (constraints (text_sheet q)) more page.some)

  pub looser_fit_lines : (u l g l' g' : ℕ) → In (range u l g) (lines_of p) → In (range u l' g') (lines_of q) → (l' ≤ l) × (g ≤ g')
  looser_fit_lines u l g l' g' m n =
      let a = pages.fits_range_is (constraints (text_sheet p)) (lines_of p) page u l g m in
      let b = pages.fits_range_is (constraints (text_sheet q)) (lines_of q) looser_fit u l' g' n in
      let least = looser.looser_least (constraints (text_sheet p)) (constraints (text_sheet q)) more page.some.0 page.some.1 u u in
      let greatest = looser.looser_greatest (constraints (text_sheet p)) (constraints (text_sheet q)) more page.some.0 page.some.1 u u in
      (omega (arith, a.0, b.0, least), omega (arith, a.1, b.1, greatest))
