-- Planning in arrays of the call's own, part by part: what each function of the call is asked, and what the call leaves.
-- Key idea: the arrays hold every accepted sheet, and the front of each is exactly what the sheet's definitions name.
use Rattle.std.specs.Prelude.{◌≡◌, Bool, List, [], ◌++◌, ℕ, ◌*◌, ◌≤◌, T, length, take, drop, replicate, ℤ, pos}
use Rattle.std.proofs.Math.Path.{sym}
use Rattle.std.proofs.Common.{ap, ◌∙◌, subst, arith, mul-le-mul, length-append, take_at}
use Rattle.std.proofs.Math.ListN.{length-take}
use Rattle.network.specs.Table.{cleared, entry, max_boundaries}
use Rattle.network_pass.specs.Pass.{finished, stopped}
use Rattle.sheet.specs.Sizes.{max_units, max_cells, boundaries_of}
use Rattle.sheet.specs.Sheet.{Sheet, boundaries, printed_plan, earliest_slots, latest_slots, is_ring}
use Rattle.limits.specs.LimitTable.{limit_table, Fillable}
use Rattle.sheet.specs.Questions.{sheet_of, loaders_fit}
use Rattle.sheet.specs.Lists.{Lists, given}
use Rattle.plan_rooms.specs.Rooms.{Rooms, lent, seat_lengths, plan_lent, places, rooms_fit}
use Rattle.plan_rooms.proofs.RoomsLaws.{SeatsHold, plan_holds, plan_for_all}
use Rattle.plan_ask.specs.Asking.{Solvable}
use Rattle.plan_ask.proofs.AskingLaws.{lists_read, span_bound, units_length}
use Rattle.plan_steps.specs.Closing.{passed}
use Rattle.plan_answers.specs.Planning.{by_pass, Settled}
use Rattle.plan_answers.specs.Reply as planning
use Rattle.pages.proofs.PageBounds.{ring_read}
use Rattle.pages.specs.Page.{Printable, table_page, RingFits, none_page, max_page, max_ring_page}
use Rattle.print_answer.specs.Printing.{holds, Asked, PrintingOf}
use Rattle.lists.specs.Lists.{on_front}
use Rattle.print_solved.specs.BytesLaws.{places_span, table_size, seats_size, firsts_size, lasts_size}
use Rattle.print_solved.specs.BytesLaws.{plan_printable, plan_fits, ring_printable, ring_fits}
use Rattle.print_solved.specs.CallLaws.{plan_left, none_left, plan_printed, ring_printed}
use Rattle.print_answer.specs.Reply as says

-- the arrays as the call makes them
abbrev pub own_rooms : Rooms
own_rooms = lent (replicate max_cells (pos 0)) (replicate max_units 0) (replicate max_units 0) (replicate max_units 0) (replicate max_boundaries 0)

-- they hold every accepted sheet
pub own_solvable : (l : Lists) (fit : Bool) → Solvable l fit → Solvable l (rooms_fit (given l) (plan_lent own_rooms))
own_solvable l fit S = record { lists = S.lists; sheet = S.sheet; rooms = plan_for_all (given l) S.sheet }

-- a list is the front of a room
pub record Front {A : Type 0} (n : ℕ) (xs room : List A) : Type 0 where
  pub part : take n room ≡ xs
  pub long : n ≤ length room

pub front : {A : Type 0} (n : ℕ) (xs rest room : List A) → length xs ≡ n → room ≡ xs ++ rest → Front n xs room
front n xs rest room size e = record { part = ap (take n) e ∙ take_at xs rest n size; long = omega (arith, ap length e, length-append xs rest) }

-- what the sheet's definitions name is the front of each array: of w boundaries and n units
pub record PlanFronts (s : Sheet) (w n : ℕ) (t : List ℤ) (after : Rooms) : Type 0 where
  pub closed : Front (w * w) t after.table
  pub seats : Front n (printed_plan s) after.plan
  pub firsts : Front n (earliest_slots s) after.earliest
  pub lasts : Front n (latest_slots s) after.latest

-- w is the number of boundaries, as the code has it
module _ (l : Lists) (before : Rooms) (S : Solvable l (rooms_fit (given l) (plan_lent before))) (w : ℕ) (w-is : w ≡ boundaries_of l.span) where
  abbrev s : Sheet
  s = given l

  -- the same of the sheet
  w_of : w ≡ boundaries_of s.span
  unfolding sheet_of
  w_of = w-is

  cells_are : places s ≡ w * w
  cells_are = places_span s S.sheet ∙ ap (λ k. k * k) (sym w_of)

  pub cells_few : w * w ≤ max_cells
  cells_few = let h : w ≤ max_boundaries = omega (arith, span_bound l S.sheet) in mul-le-mul h h

  pub units_are : length s.units ≡ length l.first
  units_are = units_length l (lists_read l S.lists)

  lends : (places s ≤ length before.table) × SeatsHold s (seat_lengths before.plan before.earliest before.latest)
      × (boundaries s ≤ length before.ring)
  lends = plan_holds s (length before.table) (seat_lengths before.plan before.earliest before.latest) (length before.ring) S.rooms

  cells_lent : w * w ≤ length before.table
  cells_lent = omega (arith, lends.0, cells_are)

  module _ (own after : Rooms) (reply : planning.Reply) (ends : Settled (by_pass (passed s)) s own reply after) where
    abbrev Settled-as : planning.Reply → Type 0
    Settled-as r = Settled (by_pass (passed s)) s own r after

    -- ---- a plan
    pub plan_own : reply ≡ planning.plan → (t : List ℤ) × (passed s ≡ finished t) × PlanFronts s w (length l.first) t after
    plan_own e =
        let f = plan_left s own after (subst Settled-as e ends) in
        let n = length l.first in
        let t = f.0 in
        let rest = length s.units in (
          t,
          f.1,
          record {
            closed = front (w * w) t (drop (places s) own.table) after.table (table_size s S.sheet t f.1 ∙ cells_are) (ap (λ r. r.table) f.2);
            seats = front n (printed_plan s) (drop rest own.plan) after.plan (seats_size s S.sheet t f.1 ∙ units_are) (ap (λ r. r.plan) f.2);
            firsts =
                front n (earliest_slots s) (drop rest own.earliest) after.earliest (firsts_size s S.sheet t f.1 ∙ units_are)
                (ap (λ r. r.earliest) f.2);
            lasts =
                front n (latest_slots s) (drop rest own.latest) after.latest (lasts_size s S.sheet t f.1 ∙ units_are) (ap (λ r. r.latest) f.2);
          },
        )

    -- ---- none
    pub none_own : (k : ℕ) → reply ≡ planning.none k → (c : List ℕ) × T (is_ring s c) × (passed s ≡ stopped) × Front k c after.ring
    none_own k e =
        let f = none_left s own after k (subst Settled-as e ends) in
        (f.0, f.1, f.3, front k f.0 (drop (length f.0) own.ring) after.ring (sym f.2) (ap (λ r. r.ring) f.4))

  -- ---- the parts of the own arrays that a plan is in, and the units' loader numbers
  module _ (ks : List ℕ) (fit : T (loaders_fit ks)) (long : length ks ≡ length l.first)
      (after : Rooms) (t : List ℤ) (halts : passed s ≡ finished t) (f : PlanFronts s w (length l.first) t after) where
    -- what printing a plan asks, of these parts
    abbrev closed : List ℤ
    closed = take (w * w) after.table

    abbrev seated : List ℕ
    seated = take (length l.first) after.plan

    abbrev early : List ℕ
    early = take (length l.first) after.earliest

    abbrev late : List ℕ
    late = take (length l.first) after.latest

    pub plan_asked : Printable l.span ks seated early late closed
        × (((length closed ≤ length before.table) × (length seated ≤ length before.plan)
        × (length early ≤ length before.earliest) × (length late ≤ length before.latest))
        × (length (table_page l.span ks seated early late closed) ≤ max_page))
    unfolding sheet_of
    plan_asked = (
      rw (f.closed.part, f.seats.part, f.firsts.part, f.lasts.part) (plan_printable s S.sheet t halts ks (long ∙ sym units_are)),
      (
        (
          omega (arith, length-take (w * w) after.table, cells_lent),
          omega (arith, length-take (length l.first) after.plan, lends.1.plan, units_are),
          omega (arith, length-take (length l.first) after.earliest, lends.1.earliest, units_are),
          omega (arith, length-take (length l.first) after.latest, lends.1.latest, units_are),
        ),
        rw (f.closed.part, f.seats.part, f.firsts.part, f.lasts.part) (plan_fits s S.sheet t halts ks fit),
      ),
    )

    -- and what the call then leaves
    pub plan_shown : (page : List ℕ) (at : ℕ) (out : says.Reply) (shown : List ℕ) (table : List ℤ) (plan earliest latest : List ℕ)
        → Asked (holds page at (table_page l.span ks seated early late closed)) says.plan (table_page l.span ks seated early late closed)
        (lent before.table before.plan before.earliest before.latest [])
        (lent (on_front closed before.table) (on_front seated before.plan) (on_front early before.earliest) (on_front late before.latest) [])
        page at out (lent table plan earliest latest []) shown
        → PrintingOf (by_pass (passed s)) ks s before page at out (lent table plan earliest latest before.ring) shown
    unfolding sheet_of
    plan_shown page at out shown table plan earliest latest o =
        plan_printed ks s S.sheet before.table before.plan before.earliest before.latest before.ring page at out shown t halts
        table plan earliest latest (rw (f.closed.part, f.seats.part, f.firsts.part, f.lasts.part) at o)

  -- ---- the part of the own array that a ring is in, and the limits filled in again
  module _ (after : Rooms) (c : List ℕ) (h : T (is_ring s c)) (stops : passed s ≡ stopped) (k : ℕ) (f : Front k c after.ring) where
    module _ (cleared-room : List ℤ) (long : length cleared-room ≡ max_cells) where
      room_long : places s ≤ length cleared-room
      room_long = omega (arith, cells_few, cells_are)

      pub limits_fillable : Fillable l.span l.first l.last l.from l.to l.low l.high (length cleared-room)
      limits_fillable = record { agree = S.lists; ok = S.sheet; fits = room_long }

      pub ring_asked : (limits : List ℤ) → limits ≡ limit_table s cleared-room
          → RingFits w limits (take k after.ring) × (((w * w ≤ length before.table) × (length (take k after.ring) ≤ length before.ring))
          × (length (none_page (entry w limits) (take k after.ring)) ≤ max_ring_page))
      ring_asked limits e = (
        rw (e, f.part, w_of) (ring_printable s S.sheet c h cleared-room room_long),
        (
          (cells_lent, omega (arith, ap length f.part, (ring_read s c h).few, lends.2)),
          rw (e, f.part, w_of) (ring_fits s S.sheet c h cleared-room room_long),
        ),
      )

      pub ring_shown : (ks : List ℕ) (limits : List ℤ) → limits ≡ limit_table s cleared-room
          → (page : List ℕ) (at : ℕ) (out : says.Reply) (shown : List ℕ) (table : List ℤ) (ring : List ℕ)
          → (let found = take k after.ring in
          let bytes = none_page (entry w limits) found in
          Asked (holds page at bytes) (says.none (length found)) bytes (lent before.table [] [] [] before.ring)
          (lent (cleared (w * w) before.table) [] [] [] (on_front found before.ring)) page at out (lent table [] [] [] ring) shown)
          → PrintingOf (by_pass (passed s)) ks s before page at out (lent table before.plan before.earliest before.latest ring) shown
      ring_shown ks limits e page at out shown table ring o =
          ring_printed ks s S.sheet before.table before.plan before.earliest before.latest before.ring page at out shown c h stops w
          w_of cleared-room room_long table ring (rw (e, f.part) at o)
