-- The same wave listed in another order has the same answers.
-- Key idea: every lawful plan of the one listing goes along to the other, so the numbers over lawful plans are the same numbers, and with them ranges and
-- narrowed windows. The printed plan has the greatest counts, so its counts are the same too; and who sits where is settled by closing slots (ClosingLaws).
use Rattle.std.specs.Prelude.{◌≡◌, ◌↔◌, Bool, false, ◌&&◌, ℕ, zero, suc, ◌+◌, ◌-◌, ◌≤◌, ◌<◌, T, eqb, leb, length, get_or}
use Rattle.std.proofs.Common.{sym, ◌∙◌, subst, arith, eqb→eq}
use Rattle.std.proofs.Math.Path.{ap}
use mathlib.Core.List.{List, map, Permᴰ}
use Rattle.std.proofs.Math.Dec.{eqb_refl}
use Rattle.std.proofs.lemmas.List.{length-map}
use Rattle.std.proofs.Math.ListN.{get_or-map}
use Rattle.lists.specs.Lists.{within}
use Rattle.lists.specs.Members.{both, left, right, within_iff}
use Rattle.lists.specs.Counts.{count, count_find, count_empty, count_lt, how_many_count, run_count}
use Rattle.lists.specs.Extremes.{least_same, greatest_same}
use Rattle.lists.specs.Permutations.{length_perm, how_many_perm, map_perm}
use Rattle.slots.specs.Slots.{Slot, slot_before}
use Rattle.sheet.specs.Sizes.{top_of}
use Rattle.sheet.specs.Sheet.{Window, Sheet, SheetUnit, WrittenSheet, constraints, no_window, top, count_in, lawful, lawful_plans, no_unit}
use Rattle.sheet.specs.Sheet.{least_in, greatest_in, earliest, latest, printed_plan}
use Rattle.sheet.proofs.LimitLaws.{count_in_split}
use Rattle.sheet.proofs.QuestionLaws.{accepted_valid}
use Rattle.plans.proofs.FairLaws.{firsts, lasts}
use Rattle.plans.specs.Seating.{at, Complete}
use Rattle.plans.proofs.CountLaws.{lawful_solved}
use Rattle.plans.proofs.PrintedLaws.{Printed, some_printed, complete}
use Rattle.compare_sheets.specs.Comparing.{Accepted, Relisted, SameLoader, seats_closing, ClosesAlone}
use Rattle.compare_sheets.proofs.ValuesLaws.{Reaches, values_reached}
use Rattle.compare_sheets.proofs.AlongLaws.{Seat, seat, relisted_back, along, along_count, along_lawful, along_seat}
use Rattle.compare_sheets.proofs.ClosingLaws.{opened, closing_in, closing_same}
use Rattle.sheet.specs.Solved.{Valid}

-- ---- along, from one listing to the other
module _ (w v : WrittenSheet) (listed : Relisted w v) where
  counts_reach : (f t : Slot) → Reaches (constraints w) (constraints v) (count_in f t) (count_in f t)
  counts_reach f t x l = (along w v listed x l, along_lawful w v listed x l, along_count w v listed x l f t)

  slots_reach : Accepted v → (i j : ℕ) → SameLoader w v i j → Reaches (constraints w) (constraints v) (λ x. get_or x i 0) (λ x. get_or x j 0)
  slots_reach ok i j l x k = (along w v listed x k, along_lawful w v listed x k, ap (λ (p : Seat). p.slot) (along_seat w v listed x k ok i j l))

-- ---- an accepted sheet that has a lawful plan, by itself
module _ (s : Sheet) (valid : Valid s) (x : List Slot) (l : T (lawful s x)) where
  pub printed : Printed s (printed_plan s)
  printed = let t = lawful_solved s valid x l in some_printed s t.0 t.1

  seating : Complete (length s.units) (top s) (firsts s) (lasts s) (λ b. count_in 1 b (printed_plan s)) (at (printed_plan s))
  seating = complete s valid (printed_plan s) printed

-- how many units the plan has in a slot by closing slot, as a count of places
closing_count : (s : Sheet) (x : List Slot) (c t : Slot) → seats_closing s x c t ≡ count (length s.units) (closing_in (lasts s) (at x) c t)
unfolding seats_closing
closing_count s x c t =
    let test : ℕ → Bool = closing_in (lasts s) (at x) c t in
    run_count test test 0 (length s.units) (λ j h. let e : 0 + j ≡ j = omega arith in ap test e)

-- no delivery is made by the end of no slot
none_by_0 : (xs : List Slot) → count_in 1 0 xs ≡ 0
none_by_0 xs =
    let e = how_many_count (within 1 0) 0 xs in
    let none = count_empty (length xs) (λ j. within 1 0 (get_or xs j 0)) (λ j h t. omega (arith, (within_iff 1 0 (get_or xs j 0)).0 t)) in
    omega arith

module _ (w v : WrittenSheet) (listed : Relisted w v) where
  abbrev s : Sheet
  s = constraints w

  abbrev t : Sheet
  t = constraints v

  back : Relisted v w
  back = relisted_back w v listed

  -- The one has a lawful plan exactly when the other has.
  pub same_lawful : ((x : List Slot) × T (lawful s x)) ↔ ((x : List Slot) × T (lawful t x))
  same_lawful = (
    λ x. (along w v listed x.0 x.1, along_lawful w v listed x.0 x.1),
    λ x. (along v w back x.0 x.1, along_lawful v w back x.0 x.1),
  )

  -- Every stretch has the same least and greatest count.
  pub same_least : (f u : Slot) → least_in s f u ≡ least_in t f u
  unfolding least_in
  same_least f u =
      least_same (map (count_in f u) (lawful_plans s)) (map (count_in f u) (lawful_plans t))
      (values_reached s t (count_in f u) (count_in f u) (counts_reach w v listed f u))
      (values_reached t s (count_in f u) (count_in f u) (counts_reach v w back f u))

  pub same_greatest : (f u : Slot) → greatest_in s f u ≡ greatest_in t f u
  unfolding greatest_in
  same_greatest f u =
      greatest_same (map (count_in f u) (lawful_plans s)) (map (count_in f u) (lawful_plans t))
      (values_reached s t (count_in f u) (count_in f u) (counts_reach w v listed f u))
      (values_reached t s (count_in f u) (count_in f u) (counts_reach v w back f u))

  windows_perm : Permᴰ s.units t.units
  windows_perm = map_perm (λ u. u.window) listed.units

  pub same_top : top s ≡ top t
  unfolding top
  same_top = ap top_of listed.span

  pub same_number : length s.units ≡ length t.units
  same_number = length_perm windows_perm

  module _ (okw : Accepted w) (okv : Accepted v) where
    -- Each loader has the same narrowed window.
    module _ (i j : ℕ) (l : SameLoader w v i j) where
      abbrev mine : List Slot → ℕ
      mine x = get_or x i 0

      abbrev yours : List Slot → ℕ
      yours x = get_or x j 0

      there : Reaches s t mine yours
      there = slots_reach w v listed okv i j l

      again : Reaches t s yours mine
      again = slots_reach v w back okw j i (record { one = l.other; other = l.one; number = sym l.number })

      pub same_earliest : earliest s i ≡ earliest t j
      unfolding earliest
      same_earliest =
          least_same (map mine (lawful_plans s)) (map yours (lawful_plans t)) (values_reached s t mine yours there) (values_reached t s yours mine again)

      pub same_latest : latest s i ≡ latest t j
      unfolding latest
      same_latest =
          greatest_same (map mine (lawful_plans s)) (map yours (lawful_plans t)) (values_reached s t mine yours there) (values_reached t s yours mine again)

    -- ---- where some plan is lawful, of the printed plans
    module _ (x : List Slot) (l : T (lawful s x)) where
      y : (x : List Slot) × T (lawful t x)
      y = same_lawful.0 (x, l)

      valid_s : Valid s
      valid_s = accepted_valid s okw.sheet

      valid_t : Valid t
      valid_t = accepted_valid t okv.sheet

      P : Printed s (printed_plan s)
      P = printed s valid_s x l

      Q : Printed t (printed_plan t)
      Q = printed t valid_t y.0 y.1

      -- By the end of each slot they have as many deliveries,
      same_by : (b : ℕ) → b ≤ top s → count_in 1 b (printed_plan s) ≡ count_in 1 b (printed_plan t)
      same_by zero h = none_by_0 (printed_plan s) ∙ sym (none_by_0 (printed_plan t))
      same_by (suc b) h =
          P.early (suc b) (omega arith) h ∙ same_greatest 1 (suc b) ∙ sym (Q.early (suc b) (omega arith) (omega (arith, same_top)))

      -- and so in each slot, the carried place included.
      pub same_counts : (u : Slot) → 1 ≤ u → u ≤ slot_before (top s) → count_in u u (printed_plan s) ≡ count_in u u (printed_plan t)
      same_counts u h hu =
          let b = u - 1 in
          let e : suc b ≡ u = omega arith in
          subst (λ f. count_in f u (printed_plan s) ≡ count_in f u (printed_plan t)) e (omega (
            arith,
            count_in_split b u (omega arith) (printed_plan s),
            count_in_split b u (omega arith) (printed_plan t),
            same_by b (omega arith),
            same_by u hu,
          ))

      -- As many windows are open by a slot and close by another in the one as in the other,
      same_opened : (c b : ℕ) → count (length s.units) (opened (firsts s) (lasts s) c b) ≡ count (length t.units) (opened (firsts t) (lasts t) c b)
      same_opened c b =
          let test : Window → Bool = (λ u. leb u.last c && leb u.first b) in
          sym (how_many_count test no_window s.units) ∙ how_many_perm test windows_perm ∙ how_many_count test no_window t.units

      -- so that each slot has as many units of each closing slot.
      pub same_closing : (c u : Slot) → seats_closing s (printed_plan s) c u ≡ seats_closing t (printed_plan t) c u
      same_closing c u =
          closing_count s (printed_plan s) c u
          ∙ closing_same (length s.units) (top s)
          (firsts s) (lasts s) (λ b. count_in 1 b (printed_plan s)) (at (printed_plan s)) valid_s.windows (seating s valid_s x l)
          (firsts t) (lasts t) (λ b. count_in 1 b (printed_plan t)) (at (printed_plan t))
          (rw (same_number, same_top) valid_t.windows) (rw (same_number, same_top) (seating t valid_t y.0 y.1))
          (λ d b. same_opened d b ∙ ap (λ m. count m (opened (firsts t) (lasts t) d b)) (sym same_number)) same_by c u
          ∙ ap (λ m. count m (closing_in (lasts t) (at (printed_plan t)) c u)) same_number
          ∙ sym (closing_count t (printed_plan t) c u)

      -- A loader whose closing slot is its alone has the same seat.
      pub same_seat : (i j : ℕ) → SameLoader w v i j → ClosesAlone s i → get_or (printed_plan s) i 0 ≡ get_or (printed_plan t) j 0
      same_seat i j k alone =
          let window : SheetUnit → Window = (λ u. u.window) in
          let inside : j < length t.units = omega (arith, k.other, length-map v.units window) in
          let same : lasts s i ≡ lasts t j =
          ap (λ (u : Window). u.last) (get_or-map window w.units i no_unit
          ∙ ap (λ (p : Seat). p.unit.window) (along_seat w v listed x l okv i j k) ∙ sym (get_or-map window v.units j no_unit)) in
          let c = lasts t j in
          let u = at (printed_plan t) j in
          let sits = closing_in (lasts t) (at (printed_plan t)) c u in
          let some = count_lt (length t.units) (λ _. false) sits j inside
          (both (eqb c c) (eqb u u) (eqb_refl c) (eqb_refl u)) (λ h. h) (λ a h q. absurd q) in
          let f = count_find (length s.units) (closing_in (lasts s) (at (printed_plan s)) c u)
          (omega (arith, some, closing_count s (printed_plan s) c u, closing_count t (printed_plan t) c u, same_closing c u)) in
          let closes = eqb→eq (lasts s f.0) c (left (eqb (lasts s f.0) c) (eqb (at (printed_plan s) f.0) u) f.2) in
          let sat = eqb→eq (at (printed_plan s) f.0) u (right (eqb (lasts s f.0) c) (eqb (at (printed_plan s) f.0) u) f.2) in
          ap (λ a. get_or (printed_plan s) a 0) (sym (alone f.0 f.1 (closes ∙ sym same))) ∙ sat
