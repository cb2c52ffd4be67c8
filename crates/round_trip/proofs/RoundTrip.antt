-- What goes out to a house comes back: the text of a sheet passes every question of reading, and the sheet that it is read as is the one that was written.
-- Key idea: before 15 the questions of writing are planning's and the house's own, and they say of each unit and rule just what reading asks of its line.
use Rattle.std.proofs.Math.Path.{◌≡◌, refl, ap, ap₂, subst}
use Rattle.std.proofs.Common.{sym, ◌∙◌, arith, leb→le, le→leb, eqb→eq}
use Rattle.std.proofs.Math.Bool.{true}
use Rattle.std.specs.Prelude.{◌&&◌, ℕ, suc, ◌≤◌, ◌<◌, leb, eqb, length, get_or}
use mathlib.Core.List.{List, [], ◌∷◌, ◌++◌, map, append-nil, append_assoc}
use Rattle.std.proofs.Math.Dec.{T}
use Rattle.std.proofs.lemmas.List.{length-map}
use Rattle.std.proofs.Math.ListN.{get_or-map}
use Rattle.lists.specs.Lists.{within, every, on_front}
use Rattle.lists.specs.Members.{both, left, right, every_at, every_both, within_iff}
use Rattle.questions.specs.Questions.{ask, all_yes, first_no, AllYes}
use Rattle.questions.proofs.FirstNoLaws.{yes_every, every_yes, yes_front, yes_back, yes_at}
use Rattle.sheet.specs.Sizes.{max_bytes}
use Rattle.sheet.specs.Sheet.{Window, Rule, Sheet, SheetUnit, WrittenSheet, constraints, loaders, no_window, no_rule, no_unit}
use Rattle.sheet.specs.Questions.{is_span, rising, is_window, span_fits, windows_fit, sheet_questions, accepted, loaders_fit, sheet_of}
use Rattle.sheet.proofs.QuestionLaws.{accepted_sized}
use Rattle.sheet.specs.Lists.{WrittenLists, given_by, written_by}
use Rattle.sheet.proofs.WrittenLaws.{unit_fits, rule_fits, written_constraints, written_loaders, windows_lists, rules_lists}
use Rattle.forms.specs.Words.{line_feed}
use Rattle.forms.specs.Forms.{span_form_of, unit_form_of, rule_form_of}
use Rattle.forms.specs.Decimal.{spell}
use Rattle.forms.specs.Lines.{TextLine, text_line, lines}
use Rattle.forms.specs.declared.House.{House}
use Rattle.forms.specs.declared.House.TheVariants.{Ours, Partner}
use Rattle.plan_ask.specs.Asking.{Listed}
use Rattle.plan_ask.proofs.ListedLaws.{listed_agree, as_many_units, written_accepted, written_new}
use Rattle.plan_ask.specs.Questions.{list_questions}
use Rattle.plan_ask.proofs.SolvableLaws.{lists_yes}
use Rattle.sheet_texts.specs.SheetText.{unit_numbers, rule_numbers, span_text, unit_text, rule_text, unit_texts, rule_texts, sheet_text}
use Rattle.sheet_texts.proofs.SheetTextLaws.{text_short, text_readable}
use Rattle.write_ask.specs.HouseQuestions.{house_questions}
use Rattle.write.specs.Writing.{sheet_asked, outgoing}
use Rattle.read_steps.specs.Steps.{last_place}
use Rattle.read_questions.specs.Reading.{contents, has_sheet, sheet_in, line_questions, pass_questions, questions}
use Rattle.read_questions.specs.Reading.{ListRooms, rooms, lists_fit, reading, concluded}
use Rattle.read_rooms.specs.Rooms.{sizes_of, leaves, rooms_after}
use Rattle.forms.specs.WrittenLines.{next_line, next_lines}
use Rattle.round_trip.specs.WrittenContents.{LowKept}
use Rattle.round_trip.proofs.WrittenLaws.{span_shown, unit_shown, rule_shown}
use Rattle.round_trip.specs.Passing.{OutUnit, OutRule}
use Rattle.round_trip.proofs.PassingLaws.{Passes, lines_pass}

-- ---- the lines of a text are those that were written

module _ (h : House) (w : WrittenSheet) where
  abbrev unit_bytes : SheetUnit → List ℕ
  unit_bytes u = spell (unit_form_of h) (unit_numbers h u)

  abbrev rule_bytes : Rule → List ℕ
  rule_bytes r = spell (rule_form_of h) (rule_numbers h r)

  abbrev sheet_lines : List TextLine
  sheet_lines =
      text_line (spell (span_form_of h) (w.span ∷ [])) true
      ∷ (map (λ u. text_line (unit_bytes u) true) w.units ++ map (λ r. text_line (rule_bytes r) true) w.rules)

  text_lines : lines (sheet_text h w) ≡ sheet_lines
  unfolding sheet_text span_text unit_text rule_text lines
  text_lines =
      let line = spell (span_form_of h) (w.span ∷ []) in
      let us = unit_texts h w.units in
      let rs = rule_texts h w.rules in
      ap lines (append_assoc line (line_feed ∷ []) (us ++ (rs ++ [])))
      ∙ next_line line (us ++ (rs ++ [])) (span_shown h w.span)
      ∙ ap (λ (ls : List TextLine). text_line line true ∷ ls)
      (next_lines unit_bytes (unit_shown h) w.units (rs ++ [])
      ∙ ap (λ (ls : List TextLine). map (λ u. text_line (unit_bytes u) true) w.units ++ ls)
      (next_lines rule_bytes (rule_shown h) w.rules [] ∙ append-nil (map (λ r. text_line (rule_bytes r) true) w.rules)))

-- ---- what a house asks, of each unit and rule

module _ (s : Sheet) (j : ℕ) where
  -- a window that planning accepts, and the house too, is one that reading accepts
  house_ends : (h : House) → AllYes (house_questions h s) → j < length s.units → let w = get_or s.units j no_window in
      T (is_window s.span w.first w.last) → T (rising 1 s.span (last_place h s.span) w.first w.last)
  house_ends Ours asked l t = t
  house_ends Partner asked l t =
      let w = get_or s.units j no_window in
      let lasts = map (λ (v : Window). v.last) s.units in
      let ends = every_at (λ k. leb k s.span) 0 lasts (left (every (λ k. leb k s.span) lasts) _ asked) j
      (omega (arith, length-map s.units (λ (v : Window). v.last))) in
      let last : w.last ≤ s.span = leb→le w.last s.span
      (subst (λ k. T (leb k s.span)) (get_or-map (λ (v : Window). v.last) s.units j no_window) ends) in
      let from = within 1 s.span w.first in
      let to = within w.first (suc s.span) w.last in
      both from (within w.first s.span w.last) (left from to t)
      ((within_iff w.first s.span w.last).1 (((within_iff w.first (suc s.span) w.last).0 (right from to t)).0, last))

  house_lows : (h : House) → AllYes (house_questions h s) → j < length s.rules → LowKept h (get_or s.rules j no_rule)
  house_lows Ours asked l = tt
  house_lows Partner asked l =
      let lows = map (λ (r : Rule). r.low) s.rules in
      let lasts = every (λ k. leb k s.span) (map (λ (v : Window). v.last) s.units) in
      let none = every (λ k. eqb k 0) lows in
      let low = every_at (λ k. eqb k 0) 0 lows (left none true (right lasts (none && true) asked)) j
      (omega (arith, length-map s.rules (λ (r : Rule). r.low))) in
      eqb→eq (get_or s.rules j no_rule).low 0 (subst (λ k. T (eqb k 0)) (get_or-map (λ (r : Rule). r.low) s.rules j no_rule) low)

-- ---- a sheet that goes out, as it is written

module _ (h : House) (w : WrittenSheet) (ok : T (accepted (constraints w))) (fit : T (loaders_fit (loaders w)))
    (asked : AllYes (house_questions h (constraints w))) where
  -- its text is short enough for question 1
  pub text_never_refused_by_1 : T (leb (length (sheet_text h w)) max_bytes)
  text_never_refused_by_1 = le→leb (length (sheet_text h w)) max_bytes (omega (arith, text_short h w ok fit, text_readable))

  window_at : (j : ℕ) → j < length (constraints w).units → let v = get_or (constraints w).units j no_window in T (is_window w.span v.first v.last)
  unfolding accepted windows_fit
  window_at j l =
      every_at (λ v. is_window w.span v.first v.last) no_window (constraints w).units (yes_at (sheet_questions (constraints w)) ok 3 tt) j l

  out_unit : (j : ℕ) → j < length w.units → OutUnit h w.span (get_or w.units j no_unit)
  out_unit j l =
      let windowOf : SheetUnit → Window = λ u. u.window in
      let n : j < length (map windowOf w.units) = omega (arith, length-map w.units windowOf) in
      record {
        fits = unit_fits w ok fit j l;
        inside =
            subst (λ (v : Window). T (rising 1 w.span (last_place h w.span) v.first v.last)) (get_or-map windowOf w.units j no_unit)
            (house_ends (constraints w) j h asked n (window_at j n));
      }

  out_rule : (j : ℕ) → j < length w.rules → OutRule h w.span (get_or w.rules j no_rule)
  out_rule j l = record { fits = rule_fits (constraints w) ok j l; low_kept = house_lows (constraints w) j h asked l }

  is_span_lem : T (is_span w.span)
  unfolding accepted span_fits
  is_span_lem = yes_at (sheet_questions (constraints w)) ok 0 tt

  text_passes : Passes h [] (lines (sheet_text h w)) w.span w.units w.rules
  text_passes =
      let sized = accepted_sized (constraints w) ok in
      subst (λ ls. Passes h [] ls w.span w.units w.rules) (sym (text_lines h w))
      (lines_pass h w.span sized.slots.1 w.units w.rules is_span_lem out_unit out_rule fit
      (omega (arith, sized.units, length-map w.units (λ (u : SheetUnit). u.window))) sized.rules)

  pub text_read : sheet_in h (sheet_text h w) ≡ w
  unfolding sheet_in
  text_read =
      let s = text_passes.sheet in
      ap₃ s.spans s.holds_units s.holds_rules
    where
      ap₃ : {p q : ℕ} {us vs : List SheetUnit} {rs ts : List Rule} → p ≡ q → us ≡ vs → rs ≡ ts
          → ◌≡◌ {A = WrittenSheet} (record { span = p; units = us; rules = rs }) (record { span = q; units = vs; rules = ts })
      ap₃ e f g = rw (e, f, g) refl

  pub text_accepted : (sizes : ListRooms ℕ) → T (lists_fit (length w.units) (length w.rules) sizes)
      → first_no (questions h (sheet_text h w) sizes) ≡ all_yes
  unfolding questions
  text_accepted sizes long =
      let text = sheet_text h w in
      let last = ask 12 0 (lists_fit (length (sheet_in h text).units) (length (sheet_in h text).rules) sizes) ∷ [] in
      let ends = ask 5 0 (has_sheet (contents h (lines text))) ∷ [] in
      let fits : T (lists_fit (length (sheet_in h text).units) (length (sheet_in h text).rules) sizes) =
      subst (λ (v : WrittenSheet). T (lists_fit (length v.units) (length v.rules) sizes)) (sym text_read) long in
      every_yes (questions h text sizes)
      (both (leb (length text) max_bytes) _ text_never_refused_by_1
      (every_both (λ q. q.yes) (pass_questions h text) last
      (every_both (λ q. q.yes) (line_questions h 1 [] (lines text)) ends (text_passes.yes 1)
      (both (has_sheet (contents h (lines text))) true (rw text_passes.sheet.headed tt) tt))
      (both (lists_fit (length (sheet_in h text).units) (length (sheet_in h text).rules) sizes) true fits tt)))

-- ---- a call's lists

same_rooms : (m : ListRooms (List ℕ)) {ks ks' fs fs' ls ls' fr fr' bs bs' cs cs' ds ds' : List ℕ}
    → ks ≡ ks' → fs ≡ fs' → ls ≡ ls' → fr ≡ fr' → bs ≡ bs' → cs ≡ cs' → ds ≡ ds'
    → rooms (on_front ks m.loader) (on_front fs m.first) (on_front ls m.last) (on_front fr m.from) (on_front bs m.to) (on_front cs m.low)
    (on_front ds m.high) ≡ rooms (on_front ks' m.loader) (on_front fs' m.first) (on_front ls' m.last) (on_front fr' m.from) (on_front bs' m.to)
    (on_front cs' m.low) (on_front ds' m.high)
same_rooms m a b c d e f g = rw (a, b, c, d, e, f, g) refl

module _ (h : House) (l : WrittenLists) (asked : first_no (outgoing h l true) ≡ all_yes) where
  all : AllYes (sheet_asked h l)
  all = yes_front (sheet_asked h l) (ask 15 0 true ∷ []) (yes_every (outgoing h l true) asked)

  listed : Listed l
  listed = lists_yes l (every_yes (list_questions l) (yes_front (list_questions l) (house_questions h (given_by l)) all))

  as_many : length l.loader ≡ length (given_by l).units
  as_many = as_many_units l listed

  ok : T (accepted (constraints (written_by l)))
  ok = written_accepted l listed

  fit : T (loaders_fit (loaders (written_by l)))
  fit = written_new l listed

  house : AllYes (house_questions h (constraints (written_by l)))
  house =
      subst (λ (s : Sheet). AllYes (house_questions h s)) (sym (written_constraints l as_many))
      (yes_back (list_questions l) (house_questions h (given_by l)) all)

  -- With every question before 15 answered yes, the text passes all of reading's questions, where the rooms are long enough, and it is the sheet of the lists.
  pub there_and_back : (sizes : ListRooms ℕ) → T (lists_fit (length (written_by l).units) (length (written_by l).rules) sizes)
      → (first_no (questions h (sheet_text h (written_by l)) sizes) ≡ all_yes) × (sheet_in h (sheet_text h (written_by l)) ≡ written_by l)
  there_and_back sizes long = (text_accepted h (written_by l) ok fit house sizes long, text_read h (written_by l) ok fit house)

  -- Reading refuses no text that went out by 1.
  pub never_refused_by_1 : T (leb (length (sheet_text h (written_by l))) max_bytes)
  never_refused_by_1 = text_never_refused_by_1 h (written_by l) ok fit house

  -- So a reading call with those rooms leaves just these lists at their fronts.
  pub same_lists : (m : ListRooms (List ℕ)) → T (lists_fit (length (written_by l).units) (length (written_by l).rules) (sizes_of m))
      → let k = l.constraints in rooms_after h (sheet_text h (written_by l)) m
      ≡ rooms (on_front l.loader m.loader) (on_front k.first m.first) (on_front k.last m.last)
      (on_front k.from m.from) (on_front k.to m.to) (on_front k.low m.low) (on_front k.high m.high)
  unfolding reading sheet_of
  same_lists m long =
      let back = there_and_back (sizes_of m) long in
      let k = l.constraints in
      let a = listed_agree l listed in
      let ws = windows_lists k.first k.last a.windows in
      let rs = rules_lists k.from k.to k.low k.high a.stretches a.lows a.highs in
      let units = ap (λ (s : Sheet). s.units) (written_constraints l as_many) in
      ap₂ (λ v (w : WrittenSheet). leaves (concluded v w) w m) back.0 back.1
      ∙ same_rooms m (written_loaders l as_many) (ap (map (λ w. w.first)) units ∙ ws.firsts) (ap (map (λ w. w.last)) units ∙ ws.lasts)
      rs.froms rs.tos rs.lows rs.highs
