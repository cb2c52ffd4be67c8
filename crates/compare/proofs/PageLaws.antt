-- The lines of two pages.
-- Key idea: a plan's page is its head, a line for each unit and a line for each slot, and what these say of the sheet is known. So where two sheets agree, the
-- lines do.
use Rattle.std.specs.Prelude.{◌≡◌, refl, ◌↔◌, Bool, true, false, not, cond, List, [], ◌∷◌, ◌++◌, map, ℕ, zero, suc, ◌-◌, ◌≤◌, ◌<◌, T, eqb, leb, length, get_or}
use Rattle.std.proofs.Math.Path.{sym}
use Rattle.std.proofs.Common.{ap, ap₂, ◌∙◌, subst, inl, inr, ⊎_elim, arith, eqb→eq}
use mathlib.Core.List.Memᴰ
use Rattle.std.proofs.Math.Dec.{eqb_refl}
use Rattle.std.proofs.lemmas.List.{length-map}
use Rattle.std.proofs.Math.ListN.{get_or-append}
use Rattle.lists.specs.Lists.{run, from_to, within, how_many}
use Rattle.lists.specs.Members.{In, within_iff, in_map, map_in, run_in, keep_append}
use Rattle.lists.specs.Counts.{how_many_count, count_le}
use Rattle.lists.specs.Values.{length_list_of, list_of_at, list_of_is, values_same}
use Rattle.slots.specs.Slots.{Slot, Boundary}
use Rattle.sheet.specs.Sheet.{Sheet, WrittenSheet, constraints, loaders, top, count_in, least_in, greatest_in, earliest, latest, printed_plan}
use Rattle.sheet.proofs.PlanLaws.{lawful_iff, greatest_in_bound}
use Rattle.plans.proofs.PrintedLaws.{printed_unique}
use Rattle.pages.specs.PageLines.{Said, plan, unit, carried, slot, fits, range, other, unit_lines_with, unit_said, slot_said, range_said}
use Rattle.pages.proofs.PageLinesLaws.{lines_counted}
use Rattle.pages.specs.Pages.{PlanPage, FitsPage}
use Rattle.compare_sheets.specs.Comparing.{Accepted, Relisted, SameLoader, ClosesAlone}
use Rattle.compare_sheets.proofs.AlongLaws.{other_place}
use Rattle.compare_sheets.proofs.RelistedLaws.{printed}
use Rattle.plan_conditions.specs.Statements.{SomeLawful, NoneLawful}
use Rattle.read_questions.specs.Reading.{rooms_for_all}
use Rattle.read_questions.proofs.AcceptedLaws.{reading_accepts, reading_loaders}
use Rattle.wave_words.specs.declared.Query.{Query}
use Rattle.wave_words.specs.declared.Query.TheVariants.{Plan, Fits}
use Rattle.answer_conditions.proofs.AnswerConditions as answers
use Rattle.compare.specs.Calls.{TextAnswer, text_sheet, IsPlan, IsFit, IsNone, is_unit_line, other_lines, SaysBetween}
use Rattle.compare.proofs.CallLaws.{Alike}
use Rattle.sheet.specs.Solved.{Valid}

-- the entries that are one number, as the entries from it to it
how_many_one : (t : Slot) (xs : List Slot) → how_many (eqb t) xs ≡ count_in t t xs
how_many_one t xs =
    let n = length xs in
    omega (
      arith,
      how_many_count (eqb t) 0 xs,
      how_many_count (within t t) 0 xs,
      count_le n (λ j. eqb t (get_or xs j 0)) (λ j. within t t (get_or xs j 0))
          (λ j h e. let q = eqb→eq t (get_or xs j 0) e in (within_iff t t (get_or xs j 0)).1 (omega arith)),
      count_le n (λ j. within t t (get_or xs j 0)) (λ j. eqb t (get_or xs j 0))
          (λ j h e. let q = (within_iff t t (get_or xs j 0)).0 e in let same : t ≡ get_or xs j 0 = omega arith in subst (λ i. T (eqb t i)) same (eqb_refl t)),
    )

-- ---- the page of a plan
module _ (ks : List ℕ) (s : Sheet) (x : List Slot) (ls : List Said) (p : PlanPage ks s x ls) where
  abbrev n : ℕ
  n = length s.units

  abbrev of_unit : ℕ → Said
  of_unit = unit_said s.span (λ j. get_or ks j 0) (λ j. get_or x j 0) (earliest s) (latest s)

  -- the same, by whether its slot is in the span
  abbrev line_by : Bool → ℕ → Said
  line_by b j = cond b (unit (get_or ks j 0) (get_or x j 0) (earliest s j) (latest s j)) (carried (get_or ks j 0) (earliest s j) (latest s j))

  abbrev of_slot : ℕ → Said
  of_slot = slot_said (λ t. unit_lines_with t ls) (λ t. least_in s t t) (λ t. greatest_in s t t)

  -- the lines but for the units'
  no_units : (i k : ℕ) → other_lines (map of_unit (run i k)) ≡ []
  no_units i zero = refl
  no_units i (suc k) = go (leb (get_or x i 0) s.span) (no_units (suc i) k)
    where
      go : (b : Bool) → other_lines (map of_unit (run (suc i) k)) ≡ [] → other_lines (line_by b i ∷ map of_unit (run (suc i) k)) ≡ []
      go true e = e
      go false e = e

  all_slots : (i k : ℕ) → other_lines (map of_slot (run i k)) ≡ map of_slot (run i k)
  all_slots i zero = refl
  all_slots i (suc k) = ap (λ r. of_slot i ∷ r) (all_slots (suc i) k)

  others_are : other_lines ls ≡ plan n ∷ map of_slot (from_to 1 s.span)
  others_are =
      ap other_lines p.lines
      ∙ ap (λ r. plan n ∷ r) (keep_append (λ l. not (is_unit_line l)) (map of_unit (run 0 n)) (map of_slot (from_to 1 s.span))
      ∙ ap (λ r. r ++ other_lines (map of_slot (from_to 1 s.span))) (no_units 0 n) ∙ all_slots 1 (suc s.span - 1))

  -- a slot line's count is the plan's
  pub counted : (t : Slot) → t ≤ s.span → unit_lines_with t ls ≡ count_in t t x
  counted t h =
      ap (unit_lines_with t) p.lines
      ∙ lines_counted s.span (λ j. get_or ks j 0) (λ j. get_or x j 0) (earliest s) (latest s)
      (λ t. unit_lines_with t ls) (λ t. least_in s t t) (λ t. greatest_in s t t) t n n 1 (suc s.span - 1) h
      ∙ sym (ap (how_many (eqb t)) (list_of_is (λ j. get_or x j 0) 0 n x ((lawful_iff s x).0 p.legal).seated.size (λ j l. refl)))
      ∙ how_many_one t x

  -- the plan of the page is the printed plan
  pub plan_is : Valid s → x ≡ printed_plan s
  plan_is valid =
      let P = printed s valid x p.legal in
      printed_unique s valid (printed_plan s) x P (record {
        legal = p.legal;
        early = λ b h hb. omega (arith, greatest_in_bound s x p.legal 1 b, p.soonest (printed_plan s) P.legal b h hb, P.early b h hb);
        order = p.seated;
      })

  -- behind the head stands the line of each unit
  pub unit_line_lem : (j : ℕ) → j < n → get_or ls (suc j) other ≡ of_unit j
  unit_line_lem j h =
      ap (λ r. get_or r (suc j) other) p.lines
      ∙ get_or-append (map of_unit (run 0 n)) (map of_slot (from_to 1 s.span)) other j (omega (arith, length_list_of of_unit n))
      ∙ list_of_at of_unit n j other h

  unit_in_lem : (j : ℕ) → j < n → In (of_unit j) ls
  unit_in_lem j h =
      subst (In (of_unit j)) (sym p.lines)
      (Memᴰ.tail (Memᴰ.append_left (map of_slot (from_to 1 s.span)) (map_in of_unit j (run 0 n) (run_in j 0 n (omega arith) (omega arith)))))

  -- which has its narrowed window
  between_of : (j : ℕ) → j < n → SaysBetween (get_or ks j 0) (earliest s j) (latest s j) ls
  between_of j h = go (leb (get_or x j 0) s.span) (unit_in_lem j h)
    where
      go : (b : Bool) → In (line_by b j) ls → SaysBetween (get_or ks j 0) (earliest s j) (latest s j) ls
      go true m = inl (get_or x j 0, m)
      go false m = inr m

  -- and a line that has one is a unit's
  record Narrowed (k e f : ℕ) : Type 0 where
    pub place : ℕ
    pub inside : place < n
    pub number : get_or ks place 0 ≡ k
    pub first : e ≡ earliest s place
    pub last : f ≡ latest s place

  between_is : (k e f : ℕ) → SaysBetween k e f ls → Narrowed k e f
  between_is k e f =
      ⊎_elim
      (λ m. let u = (p.units k m.0 e f m.1).0 in
      record { place = u.place; inside = u.inside; number = u.number; first = u.first; last = u.last })
      (λ m. let u = p.carries k e f m in
      record { place = u.place; inside = u.inside; number = u.number; first = u.first; last = u.last })

  -- a slot line has the slot's least and greatest count
  pub range_is : (t c l g : ℕ) → In (slot t c l g) ls → (l ≡ least_in s t t) × (g ≡ greatest_in s t t)
  range_is t c l g m =
      ⊎_elim (λ e. let z : ◌≡◌ {A = ℕ} 0 1 = cc in absurd (omega arith))
      (λ r. ⊎_elim
      (λ u. let q = in_map of_unit (slot t c l g) (run 0 n) u in absurd (no_unit_lem q.0 (leb (get_or x q.0 0) s.span) q.2))
      (λ u. let q = in_map of_slot (slot t c l g) (from_to 1 s.span) u in same q.0 q.2)
      (Memᴰ.append_cases (map of_unit (run 0 n)) r))
      (Memᴰ.cases_cons (subst (In (slot t c l g)) p.lines m))
    where
      no_unit_lem : (j : ℕ) (b : Bool) → slot t c l g ≡ line_by b j → ⊥
      no_unit_lem j true e = let z : ◌≡◌ {A = ℕ} 0 1 = cc in omega arith
      no_unit_lem j false e = let z : ◌≡◌ {A = ℕ} 0 1 = cc in omega arith

      same : (i : ℕ) → slot t c l g ≡ of_slot i → (l ≡ least_in s t t) × (g ≡ greatest_in s t t)
      same i e = let at : i ≡ t = cc in (subst (λ j. l ≡ least_in s j j) at (cc), subst (λ j. g ≡ greatest_in s j j) at (cc))

-- ---- the page of a sheet that fits
pub fits_range_is : (s : Sheet) (ls : List Said) → FitsPage s ls → (t l g : ℕ) → In (range t l g) ls → (l ≡ least_in s t t) × (g ≡ greatest_in s t t)
fits_range_is s ls p t l g m =
    ⊎_elim (λ e. let z : ◌≡◌ {A = ℕ} 0 1 = cc in absurd (omega arith))
    (λ r. let q = in_map of_range (range t l g) (from_to 1 s.span) r in same q.0 q.2)
    (Memᴰ.cases_cons (subst (In (range t l g)) p.lines m))
  where
    of_range : ℕ → Said
    of_range = range_said (λ t. least_in s t t) (λ t. greatest_in s t t)

    same : (i : ℕ) → range t l g ≡ range i (least_in s i i) (greatest_in s i i) → (l ≡ least_in s t t) × (g ≡ greatest_in s t t)
    same i e = let at : i ≡ t = cc in (subst (λ j. l ≡ least_in s j j) at (cc), subst (λ j. g ≡ greatest_in s j j) at (cc))

-- ---- the pages of the plans of two sheets that agree
module _ (w v : WrittenSheet) (listed : Relisted w v) (A : Alike (constraints w) (constraints v) (SameLoader w v)) where
  abbrev one : Sheet
  one = constraints w

  abbrev two : Sheet
  two = constraints v

  module _ (some : SomeLawful one) (ls ms : List Said)
      (P : PlanPage (loaders w) one (printed_plan one) ls) (Q : PlanPage (loaders v) two (printed_plan two) ms) where
    slot_same : (u : Slot) → 1 ≤ u → u ≤ one.span
        → slot u (unit_lines_with u ls) (least_in one u u) (greatest_in one u u) ≡ slot u (unit_lines_with u ms) (least_in two u u) (greatest_in two u u)
    unfolding top
    slot_same u h hu =
        let count : unit_lines_with u ls ≡ unit_lines_with u ms =
        counted (loaders w) one (printed_plan one) ls P u hu ∙ A.counts some u h (omega arith)
        ∙ sym (counted (loaders v) two (printed_plan two) ms Q u (omega (arith, listed.span))) in
        let low = A.least u u in
        let high = A.greatest u u in
        cc

    pub others_same : other_lines ls ≡ other_lines ms
    others_same =
        let there : ℕ → Said = slot_said (λ u. unit_lines_with u ms) (λ u. least_in two u u) (λ u. greatest_in two u u) in
        others_are (loaders w) one (printed_plan one) ls P
        ∙ ap₂ (λ k r. plan k ∷ r) A.numbers
        (values_same (slot_said (λ u. unit_lines_with u ls) (λ u. least_in one u u) (λ u. greatest_in one u u)) there 1 (suc one.span - 1)
        (λ u h hu. slot_same u h (omega arith)) ∙ ap (λ k. map there (from_to 1 k)) listed.span)
        ∙ sym (others_are (loaders v) two (printed_plan two) ms Q)

    pub between_there : (k e f : ℕ) → SaysBetween k e f ls → SaysBetween k e f ms
    between_there k e f m =
        let u = between_is (loaders w) one (printed_plan one) ls P k e f m in
        let i = u.place in
        let inside : i < length w.units = omega (arith, u.inside, length-map w.units (λ u. u.window)) in
        let o = other_place w v listed i inside in
        let j = o.0 in
        let number : get_or (loaders v) j 0 ≡ k = sym o.1.number ∙ u.number in
        let first : earliest two j ≡ e = sym (u.first ∙ A.early i j o.1) in
        let last : latest two j ≡ f = sym (u.last ∙ A.late i j o.1) in
        rw (number, first, last) at
        (between_of (loaders v) two (printed_plan two) ms Q j (omega (arith, o.1.other, length-map v.units (λ u. u.window))))

    -- the line of a loader whose closing slot is its alone
    pub line_same : (i j : ℕ) → SameLoader w v i j → ClosesAlone one i → get_or ls (suc i) other ≡ get_or ms (suc j) other
    line_same i j l alone =
        let span = listed.span in
        let number = l.number in
        let seat = A.seat some i j l alone in
        let first = A.early i j l in
        let last = A.late i j l in
        unit_line_lem (loaders w) one (printed_plan one) ls P i (omega (arith, l.one, length-map w.units (λ u. u.window)))
        ∙ (cc)
        ∙ sym (unit_line_lem (loaders v) two (printed_plan two) ms Q j (omega (arith, l.other, length-map v.units (λ u. u.window))))

-- ---- the pages of two sheets that agree and fit
pub fits_same : (w v : WrittenSheet) → Relisted w v → Alike (constraints w) (constraints v) (SameLoader w v) → (ls ms : List Said)
    → FitsPage (constraints w) ls → FitsPage (constraints v) ms → ls ≡ ms
fits_same w v listed A ls ms P Q =
    let one = constraints w in
    let two = constraints v in
    let there : ℕ → Said = range_said (λ u. least_in two u u) (λ u. greatest_in two u u) in
    P.lines
    ∙ ap₂ (λ k r. fits k ∷ r) A.numbers
    (values_same (range_said (λ u. least_in one u u) (λ u. greatest_in one u u)) there 1 (suc one.span - 1)
    (λ u h hu. let low = A.least u u in let high = A.greatest u u in cc) ∙ ap (λ k. map there (from_to 1 k)) listed.span)
    ∙ sym Q.lines

-- ---- what is known of an answer by itself
pub text_accepted : {query : Query} (p : TextAnswer query) → Accepted (text_sheet p)
text_accepted p = record {
  sheet = reading_accepts p.house p.input rooms_for_all p.asked;
  loaders = reading_loaders p.house p.input rooms_for_all p.asked;
}

pub page_of_plan : (p : TextAnswer Plan) → SomeLawful (constraints (text_sheet p)) → IsPlan p (printed_plan (constraints (text_sheet p)))
page_of_plan p x = answers.page_if_lawful p.house Plan p.input p.page p.left p.next p.answered p.size p.asked x.0 x.1

pub page_of_fit : (p : TextAnswer Fits) → SomeLawful (constraints (text_sheet p)) → IsFit p
page_of_fit p x = answers.page_if_lawful p.house Fits p.input p.page p.left p.next p.answered p.size p.asked x.0 x.1

pub page_none_iff : {query : Query} (p : TextAnswer query) → ((ring : List Boundary) × IsNone p ring) ↔ NoneLawful (constraints (text_sheet p))
page_none_iff {query} p = (
  λ r. r.1.unlawful,
  λ none. answers.ring_otherwise p.house query p.input p.page p.left p.next p.answered p.size p.asked none,
)
