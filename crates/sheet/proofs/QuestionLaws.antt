-- The parallel lists, place by place, and what an accepted sheet is: its sizes, windows, stretches and counts.
-- Key idea: every answer is yes, so each question's own is.
use Rattle.std.specs.Prelude.{◌≡◌, refl, ◌&&◌, true, List, [], ◌∷◌, ℕ, zero, suc, ◌≤◌, ◌<◌, T, ltb, eqb, length}
use Rattle.std.proofs.Common.{ap, arith, eqb→eq}
use Rattle.std.proofs.Math.Dec.{leb→le}
use Rattle.std.proofs.Math.ListN.{get_or}
use Rattle.lists.specs.Lists.{within}
use Rattle.lists.specs.Members.{In, left, right, within_iff, every_at, every_in}
use Rattle.sheet.specs.Sizes.{max_slots, max_units, max_rules, max_count, carried_place}
use Rattle.sheet.specs.Sheet.{Rule, Sheet, top, no_window, no_rule}
use Rattle.questions.specs.Questions.{ask}
use Rattle.questions.proofs.FirstNoLaws.{yes_at}
use Rattle.sheet.specs.Questions.{windows_of, rules_of, lists_agree, rising, is_stretch, is_window, is_count, sheet_questions, accepted}
use Rattle.sheet.specs.Questions.{span_fits, windows_fit, stretches_fit, counts_fit, units_fit, rules_fit}
use Rattle.sheet.specs.Solved.{Valid}

-- ---- the parallel lists

pub record Agree (first last from to low high : List ℕ) : Type 0 where
  pub windows : length last ≡ length first
  pub stretches : length to ≡ length from
  pub lows : length low ≡ length from
  pub highs : length high ≡ length from

pub lists_agree_read : (first last from to low high : List ℕ) → T (lists_agree first last from to low high) → Agree first last from to low high
unfolding lists_agree
lists_agree_read first last from to low high t =
    let a = eqb (length last) (length first) in
    let b = eqb (length to) (length from) in
    let c = eqb (length low) (length from) in
    let d = eqb (length high) (length from) in
    let r = right a (b && (c && d)) t in
    record {
      windows = eqb→eq (length last) (length first) (left a (b && (c && d)) t);
      stretches = eqb→eq (length to) (length from) (left b (c && d) r);
      lows = eqb→eq (length low) (length from) (left c d (right b (c && d) r));
      highs = eqb→eq (length high) (length from) (right c d (right b (c && d) r));
    }

pub windows_of_length : (fs ls : List ℕ) → length ls ≡ length fs → length (windows_of fs ls) ≡ length fs
windows_of_length [] ls e = refl
windows_of_length (f ∷ fs) [] e = absurd (omega arith)
windows_of_length (f ∷ fs) (l ∷ ls) e = ap suc (windows_of_length fs ls (omega arith))

pub windows_of_at : (fs ls : List ℕ) → length ls ≡ length fs → (j : ℕ) → j < length fs
    → get_or (windows_of fs ls) j no_window ≡ record { first = get_or fs j 0; last = get_or ls j 0 }
windows_of_at [] ls e j h = absurd (omega arith)
windows_of_at (f ∷ fs) [] e j h = absurd (omega arith)
windows_of_at (f ∷ fs) (l ∷ ls) e zero h = refl
windows_of_at (f ∷ fs) (l ∷ ls) e (suc j) h = windows_of_at fs ls (omega arith) j (omega arith)

pub rules_of_length : (fs ts ls hs : List ℕ) → length ts ≡ length fs → length ls ≡ length fs → length hs ≡ length fs
    → length (rules_of fs ts ls hs) ≡ length fs
rules_of_length [] ts ls hs e f g = refl
rules_of_length (x ∷ fs) [] ls hs e f g = absurd (omega arith)
rules_of_length (x ∷ fs) (t ∷ ts) [] hs e f g = absurd (omega arith)
rules_of_length (x ∷ fs) (t ∷ ts) (l ∷ ls) [] e f g = absurd (omega arith)
rules_of_length (x ∷ fs) (t ∷ ts) (l ∷ ls) (h ∷ hs) e f g = ap suc (rules_of_length fs ts ls hs (omega arith) (omega arith) (omega arith))

pub rules_of_at : (fs ts ls hs : List ℕ) → length ts ≡ length fs → length ls ≡ length fs → length hs ≡ length fs → (j : ℕ) → j < length fs
    → get_or (rules_of fs ts ls hs) j no_rule ≡ record { from = get_or fs j 0; to = get_or ts j 0; low = get_or ls j 0; high = get_or hs j 0 }
rules_of_at [] ts ls hs e f g j k = absurd (omega arith)
rules_of_at (x ∷ fs) [] ls hs e f g j k = absurd (omega arith)
rules_of_at (x ∷ fs) (t ∷ ts) [] hs e f g j k = absurd (omega arith)
rules_of_at (x ∷ fs) (t ∷ ts) (l ∷ ls) [] e f g j k = absurd (omega arith)
rules_of_at (x ∷ fs) (t ∷ ts) (l ∷ ls) (h ∷ hs) e f g zero k = refl
rules_of_at (x ∷ fs) (t ∷ ts) (l ∷ ls) (h ∷ hs) e f g (suc j) k = rules_of_at fs ts ls hs (omega arith) (omega arith) (omega arith) j (omega arith)

-- ---- an accepted sheet

pub record Sized (s : Sheet) : Type 0 where
  pub slots : (1 ≤ s.span) × (s.span ≤ max_slots)
  pub units : length s.units ≤ max_units
  pub rules : length s.rules ≤ max_rules
  pub counts : (r : Rule) → In r s.rules → (r.low ≤ r.high) × (r.high ≤ max_count)

rising_read : (least start most f l : ℕ) → T (rising least start most f l) → ((least ≤ f) × (f ≤ start)) × ((f ≤ l) × (l ≤ most))
rising_read least start most f l t =
    let a = within least start f in
    let b = within f most l in
    ((within_iff least start f).0 (left a b t), (within_iff f most l).0 (right a b t))

module _ (s : Sheet) (ok : T (accepted s)) where
  -- the answer at a place of the questions
  yes : (i : ℕ) → T (ltb i 6) → T (get_or (sheet_questions s) i (ask 0 0 true)).yes
  unfolding accepted
  yes = yes_at (sheet_questions s) ok

  pub accepted_sized : Sized s
  unfolding span_fits units_fit rules_fit counts_fit
  accepted_sized = record {
    slots = (within_iff 1 max_slots s.span).0 (yes 0 tt);
    units = leb→le (length s.units) max_units (yes 1 tt);
    rules = leb→le (length s.rules) max_rules (yes 2 tt);
    counts = λ r m.
        (rising_read 0 max_count max_count r.low r.high (every_in (λ q. is_count q.low q.high) r s.rules m (yes 5 tt))).1;
  }

  -- a rule's stretch ends inside the span
  pub accepted_stretch : (r : Rule) → In r s.rules → (1 ≤ r.from) × (r.from ≤ r.to) × (r.to ≤ s.span)
  unfolding stretches_fit
  accepted_stretch r m =
      let e = rising_read 1 s.span s.span r.from r.to
      (every_in (λ q. is_stretch s.span q.from q.to) r s.rules m (yes 4 tt)) in
      (e.0.0, e.1.0, e.1.1)

  pub accepted_valid : Valid s
  unfolding top windows_fit
  accepted_valid = record {
    spans = omega (arith, accepted_sized.slots);
    windows = λ j h.
        let w = get_or s.units j no_window in
        let e = rising_read 1 s.span (carried_place s.span) w.first w.last
        (every_at (λ v. is_window s.span v.first v.last) no_window s.units (yes 3 tt) j h) in
        (e.0.0, e.1.0, e.1.1);
    stretches = λ r m. let e = accepted_stretch r m in (e.0, e.1, omega (arith, e.2));
  }
