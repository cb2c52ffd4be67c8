-- What is promised of merging two texts, beyond its definition: what a merge gives, planning accepts; its lawful plans are those that keep to both sheets;
-- which questions refuse it, never 12 with rooms for every sheet and never 15; and that the first bytes of each text decide.
-- Key idea: each text passes reading's questions, so each is an accepted sheet, and the merge's own questions say what the laws of merged sheets ask for.
use Rattle.std.specs.Prelude.{ℕ, ◌+◌, ◌≤◌, ◌<◌, ◌≡◌, refl, ◌↔◌, true, false, ◌&&◌, ◌||◌, not, T, leb, ltb, get_or}
use Rattle.std.proofs.Math.Path.{sym, ap, ap₂}
use Rattle.std.proofs.Common.{◌∙◌, subst, eqb→eq, le→leb, ltb-true, ltb-false}
use Rattle.std.proofs.Math.Logic.{⊎_elim}
use Rattle.std.proofs.Math.Bool.{Bool}
use mathlib.Core.List.{List, [], ◌∷◌, ◌++◌}
use native.Mathlib.Omega.{arith}
use Rattle.std.proofs.Math.Dec.{leb→le}
use Rattle.std.proofs.Math.ListN.{length, length-append, length-map, get_or-eq_default}
use Rattle.slots.specs.Slots.{Slot}
use Rattle.lists.specs.Lists.{within, every, member}
use Rattle.lists.specs.Members.{both, left, right, within_iff, every_in, in_every, map_in}
use Rattle.questions.specs.Questions.{Question, ask, Verdict, no, all_yes, first_no, and_then, AllYes}
use Rattle.questions.proofs.FirstNoLaws.{first_no_append, first_then, first_passes, yes_every, every_yes, yes_front, yes_back, yes_at}
use Rattle.sheet.specs.Sizes.{max_units, max_rules, max_bytes}
use Rattle.sheet.specs.Sheet.{SheetUnit, WrittenSheet, constraints, loaders, in_windows, obeys, lawful}
use Rattle.sheet.specs.Questions.{accepted, loaders_fit}
use Rattle.forms.specs.declared.House.TheVariants.{Ours}
use Rattle.read_questions.specs.Reading.{lists_fit, rooms_for_all, sheet_in, refused, concluded}
use Rattle.read_questions.proofs.ConcludedLaws.{concluded_no}
use Rattle.read_questions.proofs.RefusalLaws.{asks_text, line_count, all_fit}
use Rattle.read_whole.specs.WholeLaws.{two_digits}
use Rattle.read_places.specs.Places.{Placed, spots, no_spot}
use Rattle.read_places.specs.PlacesLaws.{spot_stands}
use Rattle.read_places.specs.declared.Spot.{Spot}
use Rattle.read_form.specs.declared.Kind.{Kind}
use Rattle.merge_sheets.specs.Merge.{merged_rules, merged}
use Rattle.merge_sheets.proofs.MergeLaws.{merged_lawful}
use Rattle.merge_sheets.proofs.AcceptedLaws.{merged_accepted, merged_loaders}
use Rattle.merge_read.specs.Behind.{text_questions}
use Rattle.merge_laws.specs.Asks.{asks_merge}
use Rattle.merge_questions.specs.Merging.{line_number, join_questions, merge_questions, merged_in, merging, blamed, blamed_sheet}
use Rattle.merge_laws.proofs.TextLaws.{no_of_two, text_refusals, text_accepts, text_loaders, front, too_long, front_short, front_either}

module _ (one two : List ℕ) where
  abbrev a : WrittenSheet
  a = sheet_in Ours one

  abbrev b : WrittenSheet
  b = sheet_in Ours two

  abbrev join : List Question
  join = join_questions two a b

  -- ---- where nothing is refused

  module _ (e : first_no (merge_questions one two) ≡ all_yes) where
    all : AllYes (text_questions Ours one ++ (text_questions Ours two ++ join))
    unfolding merge_questions
    all = yes_every (merge_questions one two) e

    behind : AllYes (text_questions Ours two ++ join)
    behind = yes_back (text_questions Ours one) (text_questions Ours two ++ join) all

    -- Each text passes reading's own questions.
    pub first_asked : AllYes (text_questions Ours one)
    first_asked = yes_front (text_questions Ours one) (text_questions Ours two ++ join) all

    pub second_asked : AllYes (text_questions Ours two)
    second_asked = yes_front (text_questions Ours two) join behind

    -- the merge's own, by their places: 19, 20, 9, 21 and 10
    answered : (i : ℕ) → T (ltb i 5) → T (get_or join i (ask 0 0 true)).yes
    answered = yes_at join (yes_back (text_questions Ours two) join behind)

    few_units : length (merged_in one two).units ≤ max_units
    unfolding merged
    few_units =
        omega (
          arith,
          leb→le (length (loaders a ++ loaders b)) max_units (answered 2 tt),
          length-append (loaders a) (loaders b),
          length-append a.units b.units,
          length-map a.units (λ u. u.loader),
          length-map b.units (λ u. u.loader),
        )

    few_rules : length (merged_in one two).rules ≤ max_rules
    unfolding merged
    few_rules = leb→le (length (merged_rules (a.rules ++ b.rules))) max_rules (answered 4 tt)

    -- What a merge gives, planning accepts: its lists, and its loader numbers (question 16).
    pub merge_accepted : T (accepted (constraints (merged_in one two)))
    unfolding merged
    merge_accepted =
        merged_accepted a b (text_accepts Ours one first_asked) (text_accepts Ours two second_asked) (eqb→eq a.span b.span (answered 0 tt)) few_units
        (answered 3 tt) few_rules

    pub merge_loaders : T (loaders_fit (loaders (merged_in one two)))
    merge_loaders =
        merged_loaders a b (text_loaders Ours one first_asked) (text_loaders Ours two second_asked)
        (in_every (λ u. not (member u.loader (loaders a))) b.units (λ u m.
        every_in (λ k. not (member k (loaders a))) u.loader (loaders b) (map_in (λ (v : SheetUnit). v.loader) u b.units m) (answered 1 tt)))

    -- A plan is lawful for the merged sheet exactly when it respects all windows and all rules of both over all units together.
    pub merge_lawful : (plan : List Slot) → T (lawful (constraints (merged_in one two)) plan)
        ↔ (T (in_windows ((constraints (sheet_in Ours one)).units ++ (constraints (sheet_in Ours two)).units) plan)
        × T (every (obeys plan) (sheet_in Ours one).rules) × T (every (obeys plan) (sheet_in Ours two).rules))
    merge_lawful = merged_lawful a b

    -- Rooms for every sheet are long enough for it: question 12 is answered yes.
    pub merge_fits : T (lists_fit (length (merged_in one two).units) (length (merged_in one two).rules) rooms_for_all)
    merge_fits =
        let m = merged_in one two in
        all_fit (length m.units) (length m.rules) (le→leb (length m.units) max_units few_units) (le→leb (length m.rules) max_rules few_rules)

-- ---- which questions refuse

-- a refusal that merging may come to
pub record Refusable (number line : ℕ) : Type 0 where
  pub number_known : T (asks_merge number)
  pub line_known : line ≤ max_bytes

abbrev known : ℕ → ℕ → Bool
known q n = asks_merge q && leb n max_bytes

-- a line of a text has a number no greater than the text's bytes are many
line_within : (text : List ℕ) (k : Kind) (j : ℕ) → line_number text k j ≤ length text
line_within text k j = go (ltb j (length (spots k text))) refl
  where
    go : (b : Bool) → ltb j (length (spots k text)) ≡ b → line_number text k j ≤ length text
    go true e =
        let found = spot_stands k text j (ltb-true j (length (spots k text)) e) in
        let r = found.stands in
        let n : line_number text k j ≡ 1 + length r.before = ap (λ (s : Spot). s.number) found.spot ∙ ap (λ (p : Placed). p.spot.number) r.place in
        omega (arith, n, line_count text, ap length r.split, length-append r.before (r.line ∷ r.after))
    go false e =
        let none : get_or (spots k text) j no_spot ≡ no_spot = get_or-eq_default (spots k text) no_spot (ltb-false j (length (spots k text)) e) in
        omega (arith, ap (λ (s : Spot). s.number) none)

module _ (one two : List ℕ) (number line : ℕ) where
  join_known : length two ≤ max_bytes → T (every (λ q. known q.number q.line) (join_questions two (sheet_in Ours one) (sheet_in Ours two)))
  join_known short = here _ _ _ (here _ _ _ (here _ _ _ (here _ _ _ (here _ _ _ tt))))
    where
      here : (k : Kind) (j : ℕ) (rest : Bool) → T rest → T (leb (line_number two k j) max_bytes && rest)
      here k j rest t = both (leb (line_number two k j) max_bytes) rest (le→leb (line_number two k j) max_bytes (omega (arith, line_within two k j, short))) t

  by_text : (text : List ℕ) → first_no (text_questions Ours text) ≡ no number line → Refusable number line
  by_text text e =
      let r = text_refusals Ours text number line e in
      record { number_known = or_left (asks_text number) _ r.number_known; line_known = r.line_known }
    where
      or_left : (x y : Bool) → T x → T (x || y)
      or_left true y t = t
      or_left false y t = absurd t

  pub merge_refusals : first_no (merge_questions one two) ≡ no number line → Refusable number line
  unfolding merge_questions
  merge_refusals e =
      ⊎_elim (by_text one) (λ f. ⊎_elim (by_text two) by_join (no_of_two (text_questions Ours two) join number line f.1))
      (no_of_two (text_questions Ours one) (text_questions Ours two ++ join) number line e)
    where
      join : List Question
      join = join_questions two (sheet_in Ours one) (sheet_in Ours two)

      by_join : AllYes (text_questions Ours two) × (first_no join ≡ no number line) → Refusable number line
      by_join f =
          let short = leb→le (length two) max_bytes (left (leb (length two) max_bytes) _ f.0) in
          let k = first_passes known join (join_known short) number line f.1 in
          record { number_known = left (asks_merge number) (leb line max_bytes) k; line_known = leb→le line max_bytes (right (asks_merge number) _ k) }

-- Rooms for every sheet change no verdict, so merging with them is never refused by 12; and never by 15.
module _ (one two : List ℕ) where
  abbrev merges : Verdict
  merges = first_no (merge_questions one two)

  pub merging_whole : merging one two rooms_for_all ≡ concluded (first_no (merge_questions one two)) (merged_in one two)
  unfolding merging
  merging_whole = ap (λ (v : Verdict). concluded v (merged_in one two)) (go merges refl)
    where
      fits : Bool
      fits = lists_fit (length (merged_in one two).units) (length (merged_in one two).rules) rooms_for_all

      last : List Question
      last = ask 12 0 fits ∷ []

      go : (v : Verdict) → merges ≡ v → first_no (merge_questions one two ++ last) ≡ merges
      go (no q n) f = first_then (merge_questions one two) last (no q n) f ∙ sym f
      go all_yes f =
          first_then (merge_questions one two) last all_yes f ∙ every_yes last (both fits true (merge_fits one two f) tt) ∙ sym f

  refused_known : (q n : ℕ) → merging one two rooms_for_all ≡ refused q n → Refusable q n
  refused_known q n e = merge_refusals one two q n (concluded_no merges (merged_in one two) q n (sym e ∙ merging_whole))

  pub never_12 : (n : ℕ) → merging one two rooms_for_all ≡ refused 12 n → ⊥
  never_12 n e = (refused_known 12 n e).number_known

  pub never_15 : (n : ℕ) → merging one two rooms_for_all ≡ refused 15 n → ⊥
  never_15 n e = (refused_known 15 n e).number_known

-- a question of merging has at most two digits
pub refused_small : (one two : List ℕ) (number line : ℕ) → first_no (merge_questions one two) ≡ no number line → (number < 100) × (line ≤ max_bytes)
refused_small one two number line e = let r = merge_refusals one two number line e in (go (asks_text number) refl r.number_known, r.line_known)
  where
    go : (x : Bool) → asks_text number ≡ x → T (x || within 19 21 number) → number < 100
    go true f t = two_digits number (subst T (sym f) tt)
    go false f t = omega (arith, ((within_iff 19 21 number).0 t).1)

-- ---- As many bytes of each text as question 1 allows and one more decide, so that the rest need not be read.

module _ (one two : List ℕ) where
  own_decided : first_no (text_questions Ours (front one)) ≡ first_no (text_questions Ours one)
  own_decided =
      ⊎_elim (λ s. ap (λ t. first_no (text_questions Ours t)) s) (λ l. too_long Ours (front one) l.0 ∙ sym (too_long Ours one l.1))
      (front_either one)

  both_decided : first_no (merge_questions (front one) (front two)) ≡ first_no (merge_questions one two)
  unfolding merge_questions
  both_decided =
      ⊎_elim (λ s. ap (λ t. first_no (merge_questions t (front two))) s ∙ ⊎_elim (λ r. ap (λ t. first_no (merge_questions one t)) r)
      (λ l. second_long (front two) l.0 ∙ sym (second_long two l.1)) (front_either two))
      (λ l. first_long (front one) (front two) l.0 ∙ sym (first_long one two l.1)) (front_either one)
    where
      first_long : (s t : List ℕ) → max_bytes < length s → first_no (merge_questions s t) ≡ no 1 0
      first_long s t long = first_then (text_questions Ours s) _ (no 1 0) (too_long Ours s long)

      second_long : (t : List ℕ) → max_bytes < length t → first_no (merge_questions one t) ≡ and_then (first_no (text_questions Ours one)) (no 1 0)
      second_long t long =
          first_no_append (text_questions Ours one) _
          ∙ ap (and_then (first_no (text_questions Ours one))) (first_then (text_questions Ours t) _ (no 1 0) (too_long Ours t long))

  pub first_bytes_decide : (first_no (merge_questions (front one) (front two)) ≡ first_no (merge_questions one two))
      × (blamed_sheet (front one) (front two) ≡ blamed_sheet one two)
  unfolding blamed_sheet
  first_bytes_decide = (both_decided, ap₂ blamed own_decided both_decided)

  -- where nothing is refused, they are all of both texts, so the sheet is the same
  pub first_bytes_sheet : first_no (merge_questions one two) ≡ all_yes → merged_in (front one) (front two) ≡ merged_in one two
  first_bytes_sheet e = ap₂ merged_in (whole one (first_asked one two e)) (whole two (second_asked one two e))
    where
      whole : (text : List ℕ) → AllYes (text_questions Ours text) → front text ≡ text
      whole text asked = front_short text (leb→le (length text) max_bytes (left (leb (length text) max_bytes) _ asked))
