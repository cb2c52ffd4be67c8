-- From the pass's outcome to what a call leaves: none, with a ring or without, or a plan.
-- Key idea: the outcome says which pass it was, and so which conclusion the rooms are left by; deciding comes first, and what it leaves is all that seats
-- are filled in by.
use Rattle.std.specs.Prelude.{◌≡◌, Bool, List, ◌++◌, ℕ, ◌*◌, ◌≤◌, length, drop, replicate, ℤ, pos, Some, Ok, Err}
use Rattle.std.proofs.Math.Path.{refl}
use Rattle.std.proofs.Common.{sym, ap, ap₂, ◌∙◌, subst, arith, length-append, length-drop, drop_at}
use Rattle.std.proofs.lemmas.List.{length-replicate}
use Rattle.std.specs.Result.{result_ok}
use Rattle.network.specs.Table.{entry, cleared}
use Rattle.network_pass.specs.Pass.{Passed, finished, stopped, Outcome, outcome_of}
use Rattle.sheet.specs.Sizes.{max_slots, boundaries_of}
use Rattle.sheet.specs.Sheet.{Sheet, boundaries}
use Rattle.limits.specs.LimitTable.{CanFill}
use Rattle.limit_places.specs.LentTableLaws.{cleared_length}
use Rattle.sheet.specs.Questions.{windows_of, sheet_of}
use Rattle.sheet.proofs.QuestionLaws.{Agree, windows_of_length, accepted_valid}
use Rattle.sheet.specs.Lists.{Lists, given}
use Rattle.plan_rooms.specs.Rooms.{lent, decide_rooms, seat_rooms, places}
use Rattle.plan_rooms.proofs.RoomsLaws.{SeatsHold}
use Rattle.plan_rooms.specs.declared.Seats.{Seats}
use Rattle.plan_ask.specs.Asking.{Solvable}
use Rattle.plan_ask.proofs.AskingLaws.{lists_read}
use Rattle.plan_steps.specs.Closing.{passed, table_left, Closed, RingFound}
use Rattle.plan_steps.specs.PassedLaws.{passed_size, passed_solved}
use Rattle.plan_steps.specs.ClosingLaws.{boundaries_counted, span_read}
use Rattle.plan_steps.specs.Filling.{Ready, PlanFilled}
use Rattle.plan_steps.specs.FillingLaws.{solved_front}
use Rattle.plan_answers.specs.Planning.{by_pass, looked_by, table_in, Settled, DecideSettled, SeatSettled}
use Rattle.plan_answers.specs.Reply as says
use Rattle.sheet.specs.Solved.{Solved}

-- ---- which pass had the outcome
is_finished : (p : Passed) → Ok tt ≡ outcome_of p → (t : List ℤ) × (p ≡ finished t)
is_finished (finished t) e = (t, refl)
is_finished stopped e = let z : ◌≡◌ {A = ℕ} 0 1 = cc in absurd (omega arith)

is_stopped : (p : Passed) → Err (record {}) ≡ outcome_of p → p ≡ stopped
is_stopped (finished t) e = let z : ◌≡◌ {A = ℕ} 0 1 = cc in absurd (omega arith)
is_stopped stopped e = refl

cleared_twice : (n : ℕ) (t : List ℤ) → cleared n (cleared n t) ≡ cleared n t
cleared_twice n t = ap (λ (r : List ℤ). replicate n (pos 0) ++ r) (drop_at (replicate n (pos 0)) (drop n t) n (length-replicate n (pos 0)))

-- where the pass finished, as `ok` tells it
pub finished_ok : (r : Outcome) (u : Unit {0}) → Some u ≡ result_ok r → r ≡ Ok tt
finished_ok (Ok x) u e = refl
finished_ok (Err x) u e = cc

-- ---- a sheet in lists whose questions are answered yes, and a room that holds its table
module _ (l : Lists) (fit : Bool) (S : Solvable l fit) (room : List ℤ) (big : places (given l) ≤ length room) where
  abbrev s : Sheet
  s = given l

  lists : Agree l.first l.last l.from l.to l.low l.high
  lists = lists_read l S.lists

  units_are : s.units ≡ windows_of l.first l.last
  unfolding sheet_of
  units_are = refl

  units_length : length s.units ≡ length l.first
  units_length = ap length units_are ∙ windows_of_length l.first l.last lists.windows

  pub limits_asked : CanFill l (length room)
  limits_asked = record { agree = S.lists; ok = S.sheet; fits = big }

  -- rooms for seats, by the units' list
  pub seats_asked : (r : Seats) → SeatsHold s r → (length l.first ≤ r.plan) × (length l.first ≤ r.earliest) × (length l.first ≤ r.latest)
  seats_asked r h = (omega (arith, units_length, h.plan), omega (arith, units_length, h.earliest), omega (arith, units_length, h.latest))

  -- as the code reads the lists from those lent
  module _ (read : Lists) (same : read ≡ l) where
    pub span_asked : read.span ≤ max_slots
    span_asked = span_read read l same S.sheet

    pub seats_read : (r : Seats) → SeatsHold s r → (length read.first ≤ r.plan) × (length read.first ≤ r.earliest) × (length read.first ≤ r.latest)
    seats_read r h =
        subst (λ (x : Lists). (length x.first ≤ r.plan) × (length x.first ≤ r.earliest) × (length x.first ≤ r.latest)) (sym same) (seats_asked r h)

  -- the finished pass at the front of the room: seats can be filled in by it
  module _ (t : List ℤ) (e : passed s ≡ finished t) (table : List ℤ) (is : table ≡ table_in s t room) where
    pub ready : (w : ℕ) → w ≡ boundaries_of l.span → Ready s w l.first l.last table
    ready w k =
        let count = (boundaries_counted l S.sheet w k).0 in
        let size = passed_size s t e in
        let rest = drop (places s) room in
        let front = solved_front s t rest size (passed_solved s (accepted_valid s S.sheet) t e) in
        record {
          sheet = S.sheet;
          units = units_are;
          lists = lists.windows;
          size = count;
          room = omega (arith, ap (λ (n : ℕ). n * n) count, ap length is, length-append t rest, length-drop (places s) room, size, big);
          solved = subst (λ (n : ℕ). Solved s (entry n table)) count (subst (λ (x : List ℤ). Solved s (entry (boundaries s) x)) (sym is) front);
        }

    pub ready_read : (read : Lists) → read ≡ l → (w : ℕ) → w ≡ boundaries_of read.span → Ready s w read.first read.last table
    ready_read read same w k =
        subst (λ (x : Lists). Ready s w x.first x.last table) (sym same) (ready w (k ∙ ap (λ (x : Lists). boundaries_of x.span) same))

    module _ (plan earliest latest : List ℕ) (looks : ℕ) (plan' earliest' latest' : List ℕ)
        (f : PlanFilled s plan earliest latest looks plan' earliest' latest') where
      pub plan_left : (ring ring' : List ℕ) → ring' ≡ ring
          → Settled (by_pass (passed s)) s (lent room plan earliest latest ring) says.plan (lent table plan' earliest' latest' ring')
      plan_left ring ring' same =
          subst (λ (p : Passed). Settled (by_pass p) s (lent room plan earliest latest ring) says.plan (lent table plan' earliest' latest' ring')) (sym e)
          (refl, rw (is, f.seats, f.early, f.late, same))

      pub seats_left : SeatSettled (by_pass (passed s)) s (seat_rooms room plan earliest latest) says.plan (seat_rooms table plan' earliest' latest')
      seats_left =
          subst (λ (p : Passed). SeatSettled (by_pass p) s (seat_rooms room plan earliest latest) says.plan (seat_rooms table plan' earliest' latest')) (sym e)
          (refl, rw (is, f.seats, f.early, f.late))

      pub looks_left : looks ≡ looked_by (by_pass (passed s)) s
      looks_left = f.seen ∙ ap (λ (p : Passed). looked_by (by_pass p) s) (sym e)

  -- ---- the pass, closed
  module _ (r : Outcome) (table : List ℤ) (d : Closed s room r table) where
    module _ (e : r ≡ Err (record {})) where
      pub halted : passed s ≡ stopped
      halted = is_stopped (passed s) (sym e ∙ d.outcome)

      table_cleared : table ≡ cleared (places s) room
      table_cleared = d.table ∙ ap (λ (p : Passed). table_left s p room) halted

      pub ring_asked : (n : ℕ) → boundaries s ≤ n → CanFill l (length table)
          × (boundaries s ≤ n) × (passed s ≡ stopped)
      ring_asked n long =
          let k = cleared_length (places s) room big in
          (record { agree = S.lists; ok = S.sheet; fits = omega (arith, big, k, ap length table_cleared) }, long, halted)

      pub ring_left_lem : (ring : List ℕ) (k : ℕ) (zeros : List ℤ) (ring' : List ℕ) → RingFound s table ring k zeros ring'
          → DecideSettled (by_pass (passed s)) s (decide_rooms room ring) (says.none k) (decide_rooms zeros ring')
      ring_left_lem ring k zeros ring' R =
          let z : zeros ≡ cleared (places s) room = R.zeros ∙ ap (cleared (places s)) table_cleared ∙ cleared_twice (places s) room in
          subst (λ (p : Passed). DecideSettled (by_pass p) s (decide_rooms room ring) (says.none k) (decide_rooms zeros ring')) (sym halted)
          (R.ring, R.closed, ap says.none R.size, ap₂ decide_rooms z R.front)

      pub none_looked : 0 ≡ looked_by (by_pass (passed s)) s
      none_looked = ap (λ (p : Passed). looked_by (by_pass p) s) (sym halted)

      -- what seating leaves then; the check finds this by itself in `seat`, and it stands here to hold `unseated` to it
      pub none_seated : (plan earliest latest : List ℕ)
          → SeatSettled (by_pass (passed s)) s (seat_rooms room plan earliest latest) (says.none 0) (seat_rooms table plan earliest latest)
      none_seated plan earliest latest =
          subst (λ (p : Passed). SeatSettled (by_pass p) s (seat_rooms room plan earliest latest) (says.none 0) (seat_rooms table plan earliest latest))
          (sym halted) (refl, ap (λ (x : List ℤ). seat_rooms x plan earliest latest) table_cleared)

    module _ (e : r ≡ Ok tt) where
      pub closed_table : (t : List ℤ) × (passed s ≡ finished t) × (table ≡ table_in s t room)
      closed_table =
          let f = is_finished (passed s) (sym e ∙ d.outcome) in
          (f.0, f.1, d.table ∙ ap (λ (p : Passed). table_left s p room) f.1)

      pub fits_left : (ring : List ℕ) → DecideSettled (by_pass (passed s)) s (decide_rooms room ring) says.plan (decide_rooms table ring)
      fits_left ring =
          let f = closed_table in
          subst (λ (p : Passed). DecideSettled (by_pass p) s (decide_rooms room ring) says.plan (decide_rooms table ring)) (sym f.1)
          (refl, ap (λ (x : List ℤ). decide_rooms x ring) f.2)

      pub ready_closed : (read : Lists) → read ≡ l → (w : ℕ) → w ≡ boundaries_of read.span → Ready s w read.first read.last table
      ready_closed = let f = closed_table in ready_read f.0 f.1 table f.2

      module _ (plan earliest latest : List ℕ) (looks : ℕ) (plan' earliest' latest' : List ℕ)
          (f : PlanFilled s plan earliest latest looks plan' earliest' latest') where
        pub seats_closed : SeatSettled (by_pass (passed s)) s (seat_rooms room plan earliest latest) says.plan (seat_rooms table plan' earliest' latest')
        seats_closed = let t = closed_table in seats_left t.0 t.1 table t.2 plan earliest latest looks plan' earliest' latest' f

        pub looks_closed : looks ≡ looked_by (by_pass (passed s)) s
        looks_closed = let t = closed_table in f.seen ∙ ap (λ (p : Passed). looked_by (by_pass p) s) (sym t.1)

-- ---- what deciding left, by its reply
module _ (s : Sheet) (room : List ℤ) (ring : List ℕ) (table : List ℤ) (ring' : List ℕ) where
  abbrev Left : Passed → says.Reply → Type 0
  Left p reply = DecideSettled (by_pass p) s (decide_rooms room ring) reply (decide_rooms table ring')

  -- it fits: the finished table, and the ring room as it was
  pub decided_fits : (p : Passed) → Left p says.plan → (t : List ℤ) × (p ≡ finished t) × (table ≡ table_in s t room) × (ring' ≡ ring)
  decided_fits (finished t) d = (t, refl, ap (λ r. r.table) d.1, ap (λ r. r.ring) d.1)
  decided_fits stopped d = let e = d.2 in let z : ◌≡◌ {A = ℕ} 0 1 = cc in absurd (omega arith)

  -- it does not: what planning leaves, whose other rooms are as they were
  pub decided_none : (plan earliest latest : List ℕ) (k : ℕ) (p : Passed) → Left p (says.none k)
      → Settled (by_pass p) s (lent room plan earliest latest ring) (says.none k) (lent table plan earliest latest ring')
  decided_none plan earliest latest k (finished t) d = let e = d.0 in let z : ◌≡◌ {A = ℕ} 0 1 = cc in absurd (omega arith)
  decided_none plan earliest latest k stopped d = (d.0, d.1, d.2, ap (λ r. lent r.table plan earliest latest r.ring) d.3)
