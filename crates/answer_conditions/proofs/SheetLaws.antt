-- From the arrays that a sheet is planned or decided in to the answer on the page.
-- Key idea: the arrays hold every accepted sheet and the page every answer, so how the pass over the sheet's limits ended decides alone; and what is written
-- from the arrays' fronts is the sheet's own page.
use Rattle.std.specs.Prelude.{◌≡◌, refl, true, List, ℕ, ◌*◌, ◌≤◌, T, take, ℤ}
use Rattle.std.proofs.Math.Path.{sym, ap, subst}
use Rattle.std.proofs.Common.{◌∙◌, arith}
use Rattle.std.proofs.Math.ListN.{length}
use Rattle.std.proofs.Math.Seq.{length-take-le}
use Rattle.network.specs.Table.{entry, max_boundaries}
use Rattle.network_pass.specs.Pass.{finished, stopped}
use Rattle.sheet.specs.Sizes.{max_slots, max_units, max_cells, boundaries_of}
use Rattle.sheet.specs.Sheet.{Sheet, is_ring}
use Rattle.sheet.specs.Questions.{sheet_of, loaders_fit}
use Rattle.sheet.proofs.QuestionLaws.{accepted_sized}
use Rattle.sheet.specs.Lists.{Lists, given}
use Rattle.limits.specs.LimitTable.{limit_table, Fillable}
use Rattle.plan_rooms.specs.Rooms.{Rooms, lent, DecideRooms, decide_rooms, plan_lent, decide_lent, rooms_fit}
use Rattle.plan_rooms.proofs.RoomsLaws.{decide_hold, decision_for_all}
use Rattle.plan_ask.specs.Asking.{Solvable}
use Rattle.plan_steps.specs.Closing.{passed}
use Rattle.plan_answers.specs.Planning.{by_pass, Settled, DecideSettled}
use Rattle.plan_answers.proofs.SolvingLaws.{limits_asked, decided_fits, decided_none}
use Rattle.plan_answers.specs.Reply as says
use Rattle.print_bytes.specs.Writing.{Room, Written}
use Rattle.pages.specs.Page.{max_page, Printable, table_page, fits_page, least_from, greatest_from, RingFits, none_page}
use Rattle.pages.proofs.PageBounds.{fits_short}
use Rattle.pages.specs.SheetPages.{plan_bytes, fits_bytes, ring_bytes}
use Rattle.print_solved.specs.BytesLaws.{places_span, table_size, plan_bytes_lem, fits_bytes_lem, ring_printable, ring_bytes_lem, ring_fits}
use Rattle.print_solved.specs.OwnLaws.{own_rooms, own_solvable, Front, front, PlanFronts, units_are, none_own, plan_asked}
use Rattle.wave_words.specs.declared.Query.{Query}
use Rattle.answer_conditions.specs.Answer.{page_of, ByPass, AnswerToSheet, Answered}

-- ---- how the pass ended decides what answers the query
module _ (query : Query) (ks : List ℕ) (s : Sheet) (page left : List ℕ) (next : ℕ) where
  pub fit_answered : (t : List ℤ) → passed s ≡ finished t → (bytes : List ℕ) → bytes ≡ page_of query ks s → Written page 0 bytes left next
      → Answered (AnswerToSheet query ks s) page left next
  fit_answered t halts bytes e w = record { bytes = bytes; answers = subst (λ p. ByPass query p ks s bytes) (sym halts) e; written = w }

  pub ring_answered : (ring : List ℕ) → T (is_ring s ring) → passed s ≡ stopped → Written page 0 (ring_bytes s ring) left next
      → Answered (AnswerToSheet query ks s) page left next
  ring_answered ring h stops w =
      record { bytes = ring_bytes s ring; answers = subst (λ p. ByPass query p ks s (ring_bytes s ring)) (sym stops) (ring, h, refl); written = w }

-- w is the number of boundaries, as the code has it
module _ (l : Lists) (w : ℕ) (w-is : w ≡ boundaries_of l.span) where
  abbrev s : Sheet
  s = given l

  -- the same of the sheet
  w_of : w ≡ boundaries_of s.span
  unfolding sheet_of
  w_of = w-is

  -- ---- a ring, and the limits filled into a room
  module _ (room : List ℤ) (fill : Fillable l.span l.first l.last l.from l.to l.low l.high (length room))
      (ring : List ℕ) (h : T (is_ring s ring)) (filled : List ℤ) (e : filled ≡ limit_table s room) where
    ring_is : none_page (entry w filled) ring ≡ ring_bytes s ring
    ring_is = rw (e, w_of) (ring_bytes_lem s fill.ok ring h room fill.fits)

    pub ring_asked : (page : List ℕ) → length page ≡ max_page → RingFits w filled ring × Room page 0 (none_page (entry w filled) ring)
    ring_asked page long = (
      rw (e, w_of) (ring_printable s fill.ok ring h room fill.fits),
      rw (e, w_of) (record { fits = omega (arith, ring_fits s fill.ok ring h room fill.fits) }),
    )

    pub ring_written : (page left : List ℕ) (next : ℕ) → Written page 0 (none_page (entry w filled) ring) left next → Written page 0 (ring_bytes s ring) left next
    ring_written page left next = subst (λ b. Written page 0 b left next) ring_is

  -- ---- planning or deciding a sheet that is accepted, in arrays of the call's own
  module _ (S : Solvable l true) where
    plans : Solvable l (rooms_fit s (plan_lent own_rooms))
    plans = own_solvable l true S

    units : length s.units ≡ length l.first
    units = units_are l own_rooms plans w w-is

    pub own_fillable : (room : List ℤ) → length room ≡ max_cells
        → Fillable l.span l.first l.last l.from l.to l.low l.high (length room)
    own_fillable room long = limits_asked l true S room (omega (arith, long, (decide_hold s max_cells max_boundaries (decision_for_all s S.sheet)).0))

    -- a ring that is the front of a room
    abbrev RingFront : ℕ → List ℕ → Type 0
    RingFront k room = T (is_ring s (take k room)) × (passed s ≡ stopped) × (k ≤ length room)

    -- ---- planning: none
    module _ (after : Rooms) (reply : says.Reply) (ends : Settled (by_pass (passed s)) s own_rooms reply after) where
      pub plan_none : (k : ℕ) → reply ≡ says.none k → RingFront k after.ring
      plan_none k e =
          let f = none_own l own_rooms plans w w-is own_rooms after reply ends k e in
          (subst (λ c. T (is_ring s c)) (sym f.3.part) f.1, f.2, f.3.long)

    -- or a plan, of which the page is written from the fronts of the arrays
    module _ (ks : List ℕ) (fit : T (loaders_fit ks)) (long : length ks ≡ length l.first)
        (after : Rooms) (t : List ℤ) (halts : passed s ≡ finished t) (f : PlanFronts s w (length l.first) t after) where
      abbrev seated : List ℕ
      seated = take (length l.first) after.plan

      abbrev early : List ℕ
      early = take (length l.first) after.earliest

      abbrev late : List ℕ
      late = take (length l.first) after.latest

      abbrev plan_table : List ℤ
      plan_table = take (w * w) after.table

      pub plan_asks : (page : List ℕ) → length page ≡ max_page
          → Printable l.span ks seated early late plan_table × Room page 0 (table_page l.span ks seated early late plan_table)
      plan_asks page size =
          let a = plan_asked l own_rooms plans w w-is ks fit long after t halts f in
          (a.0, record { fits = omega (arith, a.1.1) })

      pub plan_is : table_page l.span ks seated early late plan_table ≡ plan_bytes ks s
      unfolding sheet_of
      plan_is = rw (f.closed.part, f.seats.part, f.firsts.part, f.lasts.part) (plan_bytes_lem s S.sheet t halts ks)

    -- ---- deciding: none
    abbrev own : DecideRooms
    own = decide_rooms own_rooms.table own_rooms.ring

    pub own_decides : Solvable l (rooms_fit s (decide_lent own))
    own_decides = record { lists = S.lists; sheet = S.sheet; rooms = decision_for_all s S.sheet }

    module _ (table : List ℤ) (ring : List ℕ) (reply : says.Reply) (ends : DecideSettled (by_pass (passed s)) s own reply (decide_rooms table ring)) where
      abbrev Left : says.Reply → Type 0
      Left r = DecideSettled (by_pass (passed s)) s own r (decide_rooms table ring)

      pub decide_none : (k : ℕ) → reply ≡ says.none k → RingFront k ring
      decide_none k e =
          let seats = own_rooms in
          plan_none (lent table seats.plan seats.earliest seats.latest ring) (says.none k)
          (decided_none s own.table own.ring table ring seats.plan seats.earliest seats.latest k (passed s) (subst Left e ends)) k refl

      -- or it fits: the finished table is the front of its array,
      pub decide_fits : reply ≡ says.plan → (t : List ℤ) × (passed s ≡ finished t) × Front (w * w) t table
      decide_fits e =
          let f = decided_fits s own.table own.ring table ring (passed s) (subst Left e ends) in
          (f.0, f.1, front (w * w) f.0 _ table (table_size s S.sheet f.0 f.1 ∙ places_span s S.sheet ∙ rw (w_of) refl) f.2)

    -- of which the page is written
    module _ (table : List ℤ) (t : List ℤ) (halts : passed s ≡ finished t) (f : Front (w * w) t table) where
      abbrev closed : List ℤ
      closed = take (w * w) table

      abbrev ranges_page : List ℕ
      ranges_page = fits_page l.span (length l.first) (least_from (boundaries_of l.span) closed) (greatest_from (boundaries_of l.span) closed)

      pub fits_is : ranges_page ≡ fits_bytes s
      unfolding sheet_of
      fits_is = rw (f.part, sym units) (fits_bytes_lem s S.sheet t halts)

      short : length (fits_bytes s) ≤ max_page
      unfolding fits_bytes
      short = fits_short s S.sheet

      pub fits_asks : (page : List ℕ) → length page ≡ max_page
          → ((l.span ≤ max_slots) × (length l.first ≤ max_units) × (boundaries_of l.span * boundaries_of l.span ≤ length closed)) × Room page 0 ranges_page
      unfolding sheet_of
      fits_asks page size =
          let sized = accepted_sized s S.sheet in
          let cells = length-take-le (w * w) table f.long in (
            (sized.slots.1, omega (arith, sized.units, units), subst (λ k. k * k ≤ length closed) w-is (omega (arith, cells))),
            record { fits = omega (arith, ap length fits_is, short) },
          )
