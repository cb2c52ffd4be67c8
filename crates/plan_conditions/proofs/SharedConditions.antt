-- The user's three conditions, stated once over what planning, deciding and seating share, in the words of lawful plans alone. Conditions.antt,
-- DecideConditions.antt and SeatConditions.antt say them of each call.
-- Key idea: every call replies by the same conclusion, and each room that two calls have they leave alike.
use Rattle.std.specs.Prelude.{◌≡◌, refl, ◌↔◌, Bool, List, ◌++◌, map, ℕ, suc, ◌*◌, ◌+◌, ◌≤◌, ◌<◌, T, length, take, drop, ℤ, pos}
use Rattle.std.proofs.Common.{sym, ◌∙◌, subst, ⊎_elim, arith}
use Rattle.std.proofs.Math.Path.{ap}
use Rattle.std.proofs.Math.ListN.{get_or, get_or-append}
use Rattle.std.proofs.Math.Seq.{take_at}
use Rattle.integers.specs.Parts.{up, dn, ints, neg, nonneg}
use Rattle.lists.specs.Lists.{on_front}
use Rattle.lists.specs.Values.{values_at, length_values, length_list_of}
use Rattle.network.specs.Network.{Weights}
use Rattle.network.specs.Table.{entry}
use Rattle.network.proofs.TableLaws.{row_inside}
use Rattle.questions.specs.Questions.{Verdict, no, all_yes}
use Rattle.sheet.specs.Sheet.{Sheet, top, boundaries, is_ring, unit_places, lawful, fair, count_in, least_in}
use Rattle.sheet.specs.Sheet.{earliest, latest, earliest_slots, latest_slots, printed_plan}
use Rattle.sheet.proofs.PlanLaws.{lawful_iff, earliest_bound, earliest_attained, latest_bound, latest_attained, greatest_in_bound}
use Rattle.plans.proofs.PrintedLaws.{Printed, some_printed}
use Rattle.plans.proofs.CountLaws.{solved_plan, range, greatest_entry, least_entry}
use Rattle.plan_rooms.specs.Rooms.{places}
use Rattle.plan_ask.specs.Questions.{refusal_by}
use Rattle.sheet.specs.Lists.{WrittenLists, given_by}
use Rattle.plan_answers.specs.Planning.{conclusion_by, SettledBy, WithRing, table_in, plan_in, earliest_in, latest_in}
use Rattle.plan_answers.specs.Reply as says
use Rattle.plan_answers.specs.Reply.{refusal_of}
use Rattle.plan_conditions.specs.Statements.{SomeLawful, NoneLawful, AllEarliest, AllLatest, AllCounts, Soonest}
use Rattle.plan_conditions.proofs.ConditionLaws.{Planned, Unplanned, call_refused, call_answered, call_planned, call_unplanned}
use Rattle.sheet.specs.Solved.{Solved}

-- ---- 1 and 2, of a call that has these rooms: how it leaves them by a plan, and what it replies and leaves by none, which is none
module _ {R : Type 0} (planned : List ℤ → R → R) (None : R → says.Reply → R → Type 0) (l : WrittenLists) (rooms : Bool)
    (before : R) (reply : says.Reply) (after : R) (call : SettledBy planned None (conclusion_by l rooms) before reply after)
    (said : None before reply after → (k : ℕ) × (reply ≡ says.none k)) where
  abbrev s : Sheet
  s = given_by l

  -- The reply's refusal, by number and line, is the first question whose answer is no, in the order of docs/RULES.md; an answer has none.
  pub number_is_first_no : refusal_of reply ≡ refusal_by l rooms
  number_is_first_no = go (refusal_by l rooms) refl
    where
      go : (v : Verdict) → refusal_by l rooms ≡ v → refusal_of reply ≡ refusal_by l rooms
      go (no q n) e = ap refusal_of (call_refused planned None l rooms before reply after call q n e).0 ∙ sym e
      go all_yes e =
          ⊎_elim (λ (p : Planned planned s before reply after). ap refusal_of p.is ∙ sym e)
          (λ (r : Unplanned None s before reply after). ap refusal_of (said r.left).1 ∙ sym e)
          (call_answered planned None l rooms before reply after call e)

  -- A refusal changes no place lent.
  pub refused_changes_nothing : (q n : ℕ) → refusal_by l rooms ≡ no q n → after ≡ before
  refused_changes_nothing q n e = (call_refused planned None l rooms before reply after call q n e).1

  -- A sheet that is not refused gets a plan exactly when some assignment meets all windows and all rules;
  pub plan_exactly_when_lawful : refusal_by l rooms ≡ all_yes → (reply ≡ says.plan) ↔ SomeLawful s
  plan_exactly_when_lawful e = (
    (λ f. let p = call_planned planned None l rooms before reply after call said f in solved_plan s (entry (boundaries s) p.table) p.solved),
    (λ x. ⊎_elim (λ (p : Planned planned s before reply after). p.is)
        (λ (r : Unplanned None s before reply after). absurd (r.unlawful x.0 x.1))
        (call_answered planned None l rooms before reply after call e)),
  )

  -- else none.
  pub none_otherwise : refusal_by l rooms ≡ all_yes → NoneLawful s → None before reply after
  none_otherwise e f =
      ⊎_elim
      (λ (p : Planned planned s before reply after). let x = solved_plan s (entry (boundaries s) p.table) p.solved in absurd (f x.0 x.1))
      (λ (r : Unplanned None s before reply after). r.left)
      (call_answered planned None l rooms before reply after call e)

  -- None is said only where no plan is lawful.
  pub none_unlawful : (k : ℕ) → reply ≡ says.none k → NoneLawful s
  none_unlawful k f = (call_unplanned planned None l rooms before reply after call said k f).unlawful

-- ---- 2, the ring at the front of its room
module _ {R : Type 0} (s : Sheet) (ringed : List ℕ → R → R) (ring : R → List ℕ) (front : (c : List ℕ) (r : R) → ring (ringed c r) ≡ on_front c (ring r))
    (before : R) (reply : says.Reply) (after : R) (left : WithRing s ringed before reply after) where
  pub ring_at : (k : ℕ) → reply ≡ says.none k → T (is_ring s (take k (ring after)))
  ring_at k f =
      let c = left.0 in
      let is : reply ≡ says.none (length c) = left.2 in
      let size : k ≡ length c = cc in
      let at : take k (ring after) ≡ c =
      ap (λ i. take i (ring after)) size ∙ ap (λ a. take (length c) (ring a)) left.3 ∙ ap (take (length c)) (front c before)
      ∙ take_at c (drop (length c) (ring before)) (length c) refl in
      subst (λ x. T (is_ring s x)) (sym at) left.1

-- ---- 3, the table as a call leaves it
module _ (s : Sheet) (t : List ℤ) (size : length t ≡ places s) (solved : Solved s (entry (boundaries s) t)) (room left : List ℤ)
    (is : left ≡ table_in s t room) where
  pub table_at : take (places s) left ≡ t
  table_at = ap (take (places s)) is ∙ take_at t (drop (places s) room) (places s) size

  pub entry_at : (a b : ℕ) → a ≤ top s → b ≤ top s → entry (boundaries s) left a b ≡ entry (boundaries s) t a b
  entry_at a b ha hb =
      ap (λ r. entry (boundaries s) r a b) is
      ∙ get_or-append t (drop (places s) room) (pos 0) (a * boundaries s + b) (omega (arith, size, row_inside a (boundaries s) (omega arith)))

  pub counts : AllCounts s left
  counts a b h hb k =
      let D = entry (boundaries s) t in
      let r = range s D solved a b h hb (up k) in
      let g = greatest_entry s D solved a b h hb in
      let m = least_entry s D solved a b h hb in
      let eg = entry_at a b (omega arith) hb in
      let em = entry_at b a hb (omega arith) in
      let nl = neg (pos (least_in s (suc a) b)) in
      let ne = neg (entry (boundaries s) left b a) in (
        (λ x.
            let whole : dn k ≡ 0 = sym (ap dn x.2) in
            let q = r.0 (x.0, x.1, ap up x.2) in
            (omega (ints, whole, q.0, em, m, nl, ne), omega (ints, whole, q.1, eg, g))),
        (λ q.
            let whole : dn k ≡ 0 = nonneg {a = k} (omega (ints, q.0, em, m, nl, ne)) in
            let x = r.1 (omega (ints, whole, q.0, em, m, nl, ne), omega (ints, whole, q.1, eg, g)) in
            (x.0, x.1, omega (ints, whole, x.2))),
      )

-- ---- 2 and 3, the rooms for seats and narrowed windows as a call leaves them
module _ (s : Sheet) (D : Weights) (solved : Solved s D) (room left : List ℕ) where
  abbrev n : ℕ
  n = length s.units

  some : SomeLawful s
  some = solved_plan s D solved

  slot_at : (f : ℕ → ℕ) (j : ℕ) → j < n → get_or (map f (unit_places s) ++ drop n room) j 0 ≡ f j
  slot_at f j h =
      get_or-append (map f (unit_places s)) (drop n room) 0 j (omega (arith, length_values f 0 n)) ∙ values_at f 0 n j 0 h ∙ ap f (omega arith)

  -- Each narrowed window runs from the earliest slot the unit has in any lawful plan
  pub earliest_slot : left ≡ earliest_in s room → AllEarliest s left
  unfolding earliest_slots
  earliest_slot is j h =
      let at : get_or left j 0 ≡ earliest s j = ap (λ r. get_or r j 0) is ∙ slot_at (earliest s) j h in
      (λ x k. omega (arith, at, earliest_bound s x k j), (let y = earliest_attained s some.0 some.1 j in (y.0, y.1, at ∙ y.2)))

  -- to the latest.
  pub latest_slot : left ≡ latest_in s room → AllLatest s left
  unfolding latest_slots
  latest_slot is j h =
      let at : get_or left j 0 ≡ latest s j = ap (λ r. get_or r j 0) is ∙ slot_at (latest s) j h in
      (λ x k. omega (arith, at, latest_bound s x k j), (let y = latest_attained s some.0 some.1 j in (y.0, y.1, at ∙ y.2)))

  pub earliest_at : left ≡ earliest_in s room → take n left ≡ earliest_slots s
  unfolding earliest_slots
  earliest_at is = ap (take n) is ∙ take_at (earliest_slots s) (drop n room) n (length_list_of (earliest s) n)

  pub latest_at : left ≡ latest_in s room → take n left ≡ latest_slots s
  unfolding latest_slots
  latest_at is = ap (take n) is ∙ take_at (latest_slots s) (drop n room) n (length_list_of (latest s) n)

  printed : Printed s (printed_plan s)
  printed = some_printed s D solved

  module _ (is : left ≡ plan_in s room) where
    pub plan_at : take n left ≡ printed_plan s
    plan_at = ap (take n) is ∙ take_at (printed_plan s) (drop n room) n ((lawful_iff s (printed_plan s)).0 printed.legal).seated.size

    -- The printed plan is lawful and has the seat property,
    pub plan_lawful : T (lawful s (take n left))
    plan_lawful = subst (λ (x : List ℕ). T (lawful s x)) (sym plan_at) printed.legal

    pub plan_fair : T (fair s (take n left))
    plan_fair = subst (λ (x : List ℕ). T (fair s x)) (sym plan_at) printed.order

    -- and by the end of each slot, the carried place included, no lawful plan has more deliveries.
    pub plan_soonest : Soonest s (take n left)
    plan_soonest x k t h ht = omega (arith, greatest_in_bound s x k 1 t, printed.early t h ht, ap (count_in 1 t) plan_at)
