-- A text that reading accepts is an accepted sheet, with loader numbers that are all new: what planning asks of it is answered yes already.
-- Key idea: go through the lines with what holds of those before. The sheet form comes before every unit and rule and is the only one, so the span that a
-- line is asked against is the span of the whole sheet. What a partner's job is asked is narrower than what planning asks of a window.
use Rattle.std.specs.Prelude.{◌≡◌, Bool, false, not, ℕ, suc, leb, length}
use Rattle.std.proofs.Math.Path.{refl, ap₂}
use Rattle.std.proofs.Common.{sym, ap, ◌∙◌, subst, arith}
use Rattle.std.proofs.Math.Bool.{true, or-true}
use mathlib.Core.List.{List, [], ◌∷◌, ◌++◌, map, map-append, append_assoc, append-nil}
use Rattle.std.proofs.Math.Dec.{T}
use Rattle.std.proofs.lemmas.List.{length-map}
use Rattle.lists.specs.Lists.{within, every}
use Rattle.lists.specs.Members.{both, left, right, every_both, false_not_true, within_iff}
use Rattle.questions.specs.Questions.{ask, all_yes, first_no, AllYes}
use Rattle.questions.proofs.FirstNoLaws.{yes_every, yes_front, yes_back, yes_at}
use Rattle.sheet.specs.Sizes.{max_units, max_rules, max_bytes, carried_place}
use Rattle.sheet.specs.Sheet.{Window, Sheet, constraints, loaders, top}
use Rattle.sheet.specs.Questions.{is_span, rising, is_stretch, is_window, is_count, span_fits, units_fit, rules_fit, windows_fit, stretches_fit, counts_fit, accepted}
use Rattle.sheet.specs.Questions.{all_new, loaders_fit}
use Rattle.sheet.proofs.LoaderLaws.{loaders_more}
use Rattle.forms.specs.declared.House.{House}
use Rattle.forms.specs.declared.House.TheVariants.{Ours, Partner}
use Rattle.forms.specs.Lines.{TextLine, lines}
use Rattle.read_line.specs.Content.{Content, note, sheet, unit, rule, other, content_of}
use Rattle.read_questions.specs.Reading.{contents, is_sheet, has_sheet, span_else, span_in, unit_of, units_in, loaders_in, rule_of, rules_in, sheet_in}
use Rattle.read_steps.specs.Steps.{last_place}
use Rattle.read_questions.specs.Reading.{questions_of, line_questions, pass_questions, questions, ListRooms, lists_fit}
use Rattle.read_questions.proofs.SpanLaws.{units_more, loaders_in_more, rules_more, has_sheet_more, has_sheet_same, span_in_same, span_in_first}

-- ---- what holds of the lines so far

abbrev so_far : List Content → Sheet
so_far xs = constraints (record { span = span_in xs; units = units_in xs; rules = rules_in xs })

record Good (xs : List Content) : Type 0 where
  span : T (has_sheet xs) → T (span_fits (so_far xs))
  units : T (leb (length (units_in xs)) max_units)
  rules : T (rules_fit (so_far xs))
  loaders : T (loaders_fit (loaders_in xs))
  windows : T (windows_fit (so_far xs))
  stretches : T (stretches_fit (so_far xs))
  counts : T (counts_fit (so_far xs))
  bare : has_sheet xs ≡ false → (units_in xs ≡ []) × (rules_in xs ≡ [])

-- ---- one line more keeps it

-- a line that is no sheet form, and adds these units and rules
module _ (xs : List Content) (x : Content) (g : Good xs) (nu : T (leb (length (units_in (xs ++ (x ∷ [])))) max_units))
    (nr : T (rules_fit (so_far (xs ++ (x ∷ []))))) (nl : T (loaders_fit (loaders_in (xs ++ (x ∷ [])))))
    (no-sheet : is_sheet x ≡ false) (leaves : (p : ℕ) → span_else x p ≡ p)
    (w : T (every (λ v. is_window (span_in xs) v.first v.last) (map (λ u. u.window) (unit_of x))))
    (s : T (every (λ r. is_stretch (span_in xs) r.from r.to) (rule_of x)))
    (c : T (every (λ r. is_count r.low r.high) (rule_of x)))
    (order : has_sheet xs ≡ false → (unit_of x ≡ []) × (rule_of x ≡ [])) where
  good_more : Good (xs ++ (x ∷ []))
  unfolding span_fits windows_fit stretches_fit counts_fit top
  good_more =
      let has = has_sheet_same xs x no-sheet in
      let span = span_in_same xs x leaves in
      let us = units_more xs x in
      let ws = map-append (λ u. u.window) (units_in xs) (unit_of x) in
      let rs = rules_more xs x in
      record {
        span = λ t. rw span (g.span (subst T has t));
        units = nu;
        rules = nr;
        loaders = nl;
        windows =
            rw (span, us, ws) (every_both (λ (v : Window). is_window (span_in xs) v.first v.last) (map (λ u. u.window) (units_in xs))
            (map (λ u. u.window) (unit_of x)) g.windows w);
        stretches = rw (span, rs) (every_both (λ r. is_stretch (span_in xs) r.from r.to) (rules_in xs) (rule_of x) g.stretches s);
        counts = rw rs (every_both (λ r. is_count r.low r.high) (rules_in xs) (rule_of x) g.counts c);
        bare = λ h.
            let b = g.bare (sym has ∙ h) in
            let o = order (sym has ∙ h) in
            (us ∙ ap₂ ◌++◌ b.0 o.0, rs ∙ ap₂ ◌++◌ b.1 o.1);
      }

-- a line that is no unit
same_loaders : (xs : List Content) (x : Content) → unit_of x ≡ [] → Good xs → T (loaders_fit (loaders_in (xs ++ (x ∷ []))))
same_loaders xs x e g =
    subst (λ ks. T (loaders_fit ks))
    (sym (loaders_in_more xs x ∙ ap (λ us. loaders_in xs ++ map (λ u. u.loader) us) e ∙ append-nil (loaders_in xs))) g.loaders

not_yet : (b : Bool) → T (not b) → b ≡ false
not_yet true h = absurd h
not_yet false h = refl

-- the first sheet form, before every unit and rule
module _ (xs : List Content) (ds : List (List ℕ)) (p : ℕ) (g : Good xs) (nu : T (leb (length (units_in (xs ++ (sheet ds p ∷ [])))) max_units))
    (nr : T (rules_fit (so_far (xs ++ (sheet ds p ∷ []))))) (first : T (not (has_sheet xs))) (fits : T (is_span p)) where
  good_sheet : Good (xs ++ (sheet ds p ∷ []))
  unfolding span_fits windows_fit stretches_fit counts_fit top
  good_sheet =
      let none = not_yet (has_sheet xs) first in
      let no_units : units_in (xs ++ (sheet ds p ∷ [])) ≡ [] = units_more xs (sheet ds p) ∙ append-nil (units_in xs) ∙ (g.bare none).0 in
      let no_rules : rules_in (xs ++ (sheet ds p ∷ [])) ≡ [] = rules_more xs (sheet ds p) ∙ append-nil (rules_in xs) ∙ (g.bare none).1 in
      record {
        span = λ t. rw (span_in_first xs ds p none) fits;
        units = nu;
        rules = nr;
        loaders = same_loaders xs (sheet ds p) refl g;
        windows = rw no_units tt;
        stretches = rw no_rules tt;
        counts = rw no_rules tt;
        bare = λ h. false_not_true (sym h ∙ has_sheet_more xs (sheet ds p) ∙ or-true (has_sheet xs));
      }

-- ---- a line whose questions are all answered yes

-- a partner's job, which may not be carried, is a window as ours are
is_window_lem : (h : House) (p f l : ℕ) → T (rising 1 p (last_place h p) f l) → T (is_window p f l)
is_window_lem Ours p f l t = t
is_window_lem Partner p f l t =
    let b = (within_iff f p l).0 (right (within 1 p f) (within f p l) t) in
    both (within 1 p f) (within f (carried_place p) l) (left (within 1 p f) (within f p l) t) ((within_iff f (carried_place p) l).1 (b.0, omega (arith, b.1)))

module _ (h : House) (n : ℕ) (before : List Content) (l : TextLine) (g : Good before) where
  good_line : (x : Content) → AllYes (questions_of h n before l x) → Good (before ++ (x ∷ []))
  unfolding rules_fit
  good_line note asked =
      let yes = yes_at (questions_of h n before l note) asked in
      good_more before note g (yes 9 tt) (yes 10 tt) (same_loaders before note refl g) refl (λ p. refl) tt tt tt (λ k. (refl, refl))
  good_line (sheet ds p) asked =
      let yes = yes_at (questions_of h n before l (sheet ds p)) asked in
      good_sheet before ds p g (yes 9 tt) (yes 10 tt) (yes 4 tt) (yes 5 tt)
  good_line (unit ds k f e) asked =
      let yes = yes_at (questions_of h n before l (unit ds k f e)) asked in
      let new = loaders_more (loaders_in before) k g.loaders (yes 7 tt) in
      good_more before (unit ds k f e) g (yes 9 tt) (yes 10 tt)
      (subst (λ ks. T (loaders_fit ks)) (sym (loaders_in_more before (unit ds k f e))) new) refl (λ p. refl)
      (both (is_window (span_in before) f e) true (is_window_lem h (span_in before) f e (yes 6 tt)) tt) tt tt (λ k. absurd (subst T k (yes 4 tt)))
  good_line (rule ds a b lo hi) asked =
      let yes = yes_at (questions_of h n before l (rule ds a b lo hi)) asked in
      good_more before (rule ds a b lo hi) g (yes 9 tt) (yes 10 tt) (same_loaders before (rule ds a b lo hi) refl g) refl (λ p. refl) tt
      (both (is_stretch (span_in before) a b) true (yes 6 tt) tt) (both (is_count lo hi) true (yes 8 tt) tt)
      (λ k. absurd (subst T k (yes 4 tt)))
  good_line other asked =
      let yes = yes_at (questions_of h n before l other) asked in
      good_more before other g (yes 9 tt) (yes 10 tt) (same_loaders before other refl g) refl (λ p. refl) tt tt tt (λ k. (refl, refl))

good_lines : (h : House) (n : ℕ) (before : List Content) (ls : List TextLine) → Good before → AllYes (line_questions h n before ls)
    → Good (before ++ contents h ls)
unfolding line_questions contents
good_lines h n before [] g asked = subst Good (sym (append-nil before)) g
good_lines h n before (l ∷ ls) g asked =
    let x = content_of h l.bytes in
    let now = questions_of h n before l x in
    let later = line_questions h (suc n) (before ++ (x ∷ [])) ls in
    subst Good (append_assoc before (x ∷ []) (map (λ t. content_of h t.bytes) ls))
    (good_lines h (suc n) (before ++ (x ∷ [])) ls (good_line h n before l g x (yes_front now later asked)) (yes_back now later asked))

good_none : Good []
unfolding units_in rules_in span_in has_sheet rules_fit windows_fit stretches_fit counts_fit all_new
good_none = record { span = λ t. absurd t; units = tt; rules = tt; loaders = tt; windows = tt; stretches = tt; counts = tt; bare = λ h. (refl, refl) }

-- ---- all lines
good_text : (h : House) (text : List ℕ) → AllYes (line_questions h 1 [] (lines text)) → Good (contents h (lines text))
good_text h text = good_lines h 1 [] (lines text) good_none

-- the units and rules are as few as a sheet may have
pub few_lines : (h : House) (text : List ℕ) → AllYes (line_questions h 1 [] (lines text))
    → T (leb (length (sheet_in h text).units) max_units) × T (leb (length (sheet_in h text).rules) max_rules)
unfolding sheet_in rules_fit
few_lines h text asked = let g = good_text h text asked in (g.units, g.rules)

module _ (h : House) (text : List ℕ) (sizes : ListRooms ℕ) (e : first_no (questions h text sizes) ≡ all_yes) where
  good_read : Good (contents h (lines text)) × T (has_sheet (contents h (lines text)))
  unfolding questions
  good_read =
      let last = ask 12 0 (lists_fit (length (sheet_in h text).units) (length (sheet_in h text).rules) sizes) ∷ [] in
      let asked = yes_front (pass_questions h text) last (right (leb (length text) max_bytes) _ (yes_every (questions h text sizes) e)) in
      let ends = ask 5 0 (has_sheet (contents h (lines text))) ∷ [] in (
        good_text h text (yes_front (line_questions h 1 [] (lines text)) ends asked),
        yes_at ends (yes_back (line_questions h 1 [] (lines text)) ends asked) 0 tt,
      )

  -- what reading accepts is accepted by planning
  pub reading_accepts : T (accepted (constraints (sheet_in h text)))
  unfolding sheet_in accepted units_fit
  reading_accepts =
      let s = so_far (contents h (lines text)) in
      let g = good_read.0 in
      let few : T (units_fit s) = rw (length-map (units_in (contents h (lines text))) (λ u. u.window)) g.units in
      both (span_fits s) _ (g.span good_read.1) (both (units_fit s) _ few (both (rules_fit s) _ g.rules
      (both (windows_fit s) _ g.windows (both (stretches_fit s) _ g.stretches (both (counts_fit s) _ g.counts tt)))))

  -- and so are its loader numbers
  pub reading_loaders : T (loaders_fit (loaders (sheet_in h text)))
  unfolding sheet_in
  reading_loaders = good_read.0.loaders
