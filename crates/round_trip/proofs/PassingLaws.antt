-- The lines of a sheet's text pass reading's questions, one after another, and are the sheet.
-- Key idea: go through the lines with what those before have come to: the span, the units and the rules so far. A unit's line is asked against just these, and
-- adds its unit; so one induction over the units and one over the rules give the answers and the sheet together.
use Rattle.std.specs.Prelude.{◌≡◌, Bool, false, ◌&&◌, ℕ, suc, ◌+◌, ◌≤◌, ◌<◌, leb, length, get_or}
use Rattle.std.proofs.Math.Path.{refl}
use Rattle.std.proofs.Common.{sym, ap, ◌∙◌, subst, arith, le→leb}
use Rattle.std.proofs.Math.Bool.{true}
use mathlib.Core.List.{List, [], ◌∷◌, ◌++◌, map, map-append, append_assoc, append-nil}
use Rattle.std.proofs.Math.Dec.{T}
use Rattle.std.proofs.Math.ListN.{length-append}
use Rattle.lists.specs.Lists.{within, every}
use Rattle.lists.specs.Members.{both, left, right, every_both, within_iff}
use Rattle.questions.specs.Questions.{AllYes}
use Rattle.sheet.specs.Sizes.{max_slots, max_units, max_rules, max_count}
use Rattle.sheet.specs.Sheet.{Rule, SheetUnit, no_rule, no_unit}
use Rattle.sheet.specs.Questions.{is_span, rising, is_stretch, is_count, is_new, all_new}
use Rattle.sheet.proofs.WrittenLaws.{FitUnit, FitRule}
use Rattle.forms.specs.Form.{printable, plain}
use Rattle.forms.specs.Forms.{span_form_of, unit_form_of, rule_form_of}
use Rattle.forms.specs.Decimal.{digits, spell}
use Rattle.forms.specs.Lines.{TextLine, text_line}
use Rattle.forms.specs.declared.House.{House}
use Rattle.read_line.specs.Content.{Content, sheet, unit, rule}
use Rattle.read_questions.specs.Reading.{contents, is_sheet, has_sheet, span_in, span_else, unit_of, units_in, loaders_in, rule_of, rules_in}
use Rattle.read_steps.specs.Steps.{last_place}
use Rattle.read_questions.specs.Reading.{questions_of, line_questions}
use Rattle.read_questions.proofs.SpanLaws.{units_more, rules_more, has_sheet_same, span_in_same}
use Rattle.sheet_texts.specs.SheetText.{unit_numbers, rule_numbers}
use Rattle.round_trip.specs.Passing.{OutUnit, OutRule}
use Rattle.round_trip.proofs.WrittenLaws.{Line, span_line, unit_line_lem, rule_line_lem}

-- ---- what the lines have come to

pub record SoFar (xs : List Content) (span : ℕ) (units : List SheetUnit) (rules : List Rule) : Type 0 where
  pub headed : has_sheet xs ≡ true
  pub spans : span_in xs ≡ span
  pub holds_units : units_in xs ≡ units
  pub holds_rules : rules_in xs ≡ rules

-- a line that is no sheet form adds its unit or rule
more : {xs : List Content} {span : ℕ} {us : List SheetUnit} {rs : List Rule} (x : Content) → SoFar xs span us rs → is_sheet x ≡ false
    → ((p : ℕ) → span_else x p ≡ p) → SoFar (xs ++ (x ∷ [])) span (us ++ unit_of x) (rs ++ rule_of x)
more {xs} x s plain same = record {
  headed = has_sheet_same xs x plain ∙ s.headed;
  spans = span_in_same xs x same ∙ s.spans;
  holds_units = units_more xs x ∙ ap (λ us. us ++ unit_of x) s.holds_units;
  holds_rules = rules_more xs x ∙ ap (λ rs. rs ++ rule_of x) s.holds_rules;
}

-- the lines that stand after these pass, and with them it has come to the sheet
pub record Passes (h : House) (before : List Content) (ls : List TextLine) (span : ℕ) (units : List SheetUnit) (rules : List Rule) : Type 0 where
  pub yes : (n : ℕ) → AllYes (line_questions h n before ls)
  pub sheet : SoFar (before ++ contents h ls) span units rules

passes_end : {h : House} {before : List Content} {span : ℕ} {us : List SheetUnit} {rs : List Rule} → SoFar before span us rs → Passes h before [] span us rs
unfolding line_questions contents
passes_end {h} {before} {span} {us} {rs} s = record { yes = λ n. tt; sheet = subst (λ xs. SoFar xs span us rs) (sym (append-nil before)) s }

passes_next : {h : House} {before : List Content} {ls : List TextLine} {span : ℕ} {us : List SheetUnit} {rs : List Rule} {bytes : List ℕ} {x : Content}
    → Line h bytes x → ((n : ℕ) → AllYes (questions_of h n before (text_line bytes true) x)) → Passes h (before ++ (x ∷ [])) ls span us rs
    → Passes h before (text_line bytes true ∷ ls) span us rs
unfolding line_questions contents
passes_next {h} {before} {ls} {span} {us} {rs} {bytes} {x} l asked rest = record {
  yes = λ n.
      let l' = text_line bytes true in
      subst (λ y. AllYes (questions_of h n before l' y ++ line_questions h (suc n) (before ++ (y ∷ [])) ls)) (sym l.says)
      (every_both (λ q. q.yes) (questions_of h n before l' x) (line_questions h (suc n) (before ++ (x ∷ [])) ls) (asked n) (rest.yes (suc n)));
  sheet =
      subst (λ xs. SoFar xs span us rs)
      (append_assoc before (x ∷ []) (contents h ls) ∙ ap (λ y. before ++ (y ∷ contents h ls)) (sym l.says)) rest.sheet;
}

-- ---- the questions of each line

seven : (a b c d e f g : Bool) → T a → T b → T c → T d → T e → T f → T g → T (a && (b && (c && (d && (e && (f && (g && true)))))))
seven a b c d e f g ha hb hc hd he hf hg =
    both a _ ha (both b _ hb (both c _ hc (both d _ hd (both e _ he (both f _ hf (both g true hg tt))))))

rises : (least start most f l : ℕ) → least ≤ f → f ≤ start → f ≤ l → l ≤ most → T (rising least start most f l)
rises least start most f l a b c d = both (within least start f) (within f most l) ((within_iff least start f).1 (a, b)) ((within_iff f most l).1 (c, d))

module _ (h : House) (span : ℕ) (most : span ≤ max_slots) where
  abbrev unit_line : SheetUnit → TextLine
  unit_line u = text_line (spell (unit_form_of h) (unit_numbers h u)) true

  abbrev rule_line : Rule → TextLine
  rule_line r = text_line (spell (rule_form_of h) (rule_numbers h r)) true

  -- of a unit, after these lines
  unit_asked : (xs : List Content) (us : List SheetUnit) (u : SheetUnit) → SoFar xs span us [] → OutUnit h span u
      → T (is_new (map (λ v. v.loader) us) u.loader) → length us < max_units → (n : ℕ)
      → AllYes (questions_of h n xs (unit_line u) (unit (map digits (unit_numbers h u)) u.loader u.window.first u.window.last))
  unit_asked xs us u s o new few n =
      let f = u.window.first in
      let l = u.window.last in
      let ds = map digits (unit_numbers h u) in
      let x = unit ds u.loader f l in
      let line = unit_line_lem span most u o.fits h in
      let next = more x s refl (λ p. refl) in
      seven (printable (spell (unit_form_of h) (unit_numbers h u))) (every plain ds) (has_sheet xs) (rising 1 (span_in xs) (last_place h (span_in xs)) f l)
      (is_new (loaders_in xs) u.loader) (leb (length (units_in (xs ++ (x ∷ [])))) max_units) (leb (length (rules_in (xs ++ (x ∷ [])))) max_rules)
      line.shown line.plain (rw s.headed tt)
      (subst (λ p. T (rising 1 p (last_place h p) f l)) (sym s.spans) o.inside)
      (subst (λ vs. T (is_new (map (λ v. v.loader) vs) u.loader)) (sym s.holds_units) new)
      (le→leb (length (units_in (xs ++ (x ∷ [])))) max_units (omega (arith, ap length next.holds_units, length-append us (unit_of x))))
      (le→leb (length (rules_in (xs ++ (x ∷ [])))) max_rules (omega (arith, ap length next.holds_rules)))

  -- of a rule
  rule_asked : (xs : List Content) (us : List SheetUnit) (rs : List Rule) (r : Rule) → SoFar xs span us rs → OutRule h span r
      → length us ≤ max_units → length rs < max_rules → (n : ℕ)
      → AllYes (questions_of h n xs (rule_line r) (rule (map digits (rule_numbers h r)) r.from r.to r.low r.high))
  rule_asked xs us rs r s o units few n =
      let ds = map digits (rule_numbers h r) in
      let x = rule ds r.from r.to r.low r.high in
      let fit = o.fits in
      let line = rule_line_lem span most r fit h o.low_kept in
      let next = more x s refl (λ p. refl) in
      seven (printable (spell (rule_form_of h) (rule_numbers h r))) (every plain ds) (has_sheet xs) (is_stretch (span_in xs) r.from r.to)
      (is_count r.low r.high) (leb (length (units_in (xs ++ (x ∷ [])))) max_units) (leb (length (rules_in (xs ++ (x ∷ [])))) max_rules)
      line.shown line.plain (rw s.headed tt)
      (subst (λ p. T (is_stretch p r.from r.to)) (sym s.spans)
      (rises 1 span span r.from r.to fit.starts (omega (arith, fit.ordered, fit.ends)) fit.ordered fit.ends))
      (rises 0 max_count max_count r.low r.high (omega arith) (omega (arith, fit.counts)) fit.counts.0 fit.counts.1)
      (le→leb (length (units_in (xs ++ (x ∷ [])))) max_units (omega (arith, ap length next.holds_units, length-append us [])))
      (le→leb (length (rules_in (xs ++ (x ∷ [])))) max_rules (omega (arith, ap length next.holds_rules, length-append rs (rule_of x))))

  -- ---- all of them

  rules_pass : (ahead : List Rule) (xs : List Content) (us : List SheetUnit) (done : List Rule) → SoFar xs span us done
      → ((j : ℕ) → j < length ahead → OutRule h span (get_or ahead j no_rule)) → length us ≤ max_units → length done + length ahead ≤ max_rules
      → Passes h xs (map rule_line ahead) span us (done ++ ahead)
  rules_pass [] xs us done s out units few = subst (Passes h xs [] span us) (sym (append-nil done)) (passes_end s)
  rules_pass (r ∷ ahead) xs us done s out units few =
      let o = out 0 (omega arith) in
      let x = rule (map digits (rule_numbers h r)) r.from r.to r.low r.high in
      let next = subst (λ vs. SoFar (xs ++ (x ∷ [])) span vs (done ++ (r ∷ []))) (append-nil us) (more x s refl (λ p. refl)) in
      passes_next (rule_line_lem span most r o.fits h o.low_kept) (rule_asked xs us done r s o units (omega arith))
      (subst (Passes h (xs ++ (x ∷ [])) (map rule_line ahead) span us) (append_assoc done (r ∷ []) ahead)
      (rules_pass ahead (xs ++ (x ∷ [])) us (done ++ (r ∷ [])) next (λ j l. out (suc j) (omega arith)) units
      (omega (arith, length-append done (r ∷ [])))))

  units_pass : (ahead : List SheetUnit) (xs : List Content) (done : List SheetUnit) (rest : List TextLine) (all : List SheetUnit) (rs : List Rule)
      → done ++ ahead ≡ all → SoFar xs span done [] → ((j : ℕ) → j < length ahead → OutUnit h span (get_or ahead j no_unit))
      → T (all_new (map (λ u. u.loader) done) (map (λ u. u.loader) ahead)) → length done + length ahead ≤ max_units
      → ((ys : List Content) → SoFar ys span all [] → Passes h ys rest span all rs) → Passes h xs (map unit_line ahead ++ rest) span all rs
  unfolding all_new
  units_pass [] xs done rest all rs e s out new few last =
      last xs (subst (λ us. SoFar xs span us []) (sym (append-nil done) ∙ e) s)
  units_pass (u ∷ ahead) xs done rest all rs e s out new few last =
      let o = out 0 (omega arith) in
      let k = u.loader in
      let ks = map (λ (v : SheetUnit). v.loader) done in
      let js = map (λ (v : SheetUnit). v.loader) ahead in
      let x = unit (map digits (unit_numbers h u)) k u.window.first u.window.last in
      let here : T (is_new ks k) = left (is_new ks k) (all_new (ks ++ (k ∷ [])) js) new in
      let later = right (is_new ks k) (all_new (ks ++ (k ∷ [])) js) new in
      passes_next (unit_line_lem span most u o.fits h) (unit_asked xs done u s o here (omega arith))
      (units_pass ahead (xs ++ (x ∷ [])) (done ++ (u ∷ [])) rest all rs (append_assoc done (u ∷ []) ahead ∙ e) (more x s refl (λ p. refl))
      (λ j l. out (suc j) (omega arith)) (subst (λ is. T (all_new is js)) (sym (map-append (λ (v : SheetUnit). v.loader) done (u ∷ []))) later)
      (omega (arith, length-append done (u ∷ []))) last)

  -- the span, the units and the rules
  pub lines_pass : (us : List SheetUnit) (rs : List Rule) → T (is_span span) → ((j : ℕ) → j < length us → OutUnit h span (get_or us j no_unit))
      → ((j : ℕ) → j < length rs → OutRule h span (get_or rs j no_rule)) → T (all_new [] (map (λ u. u.loader) us)) → length us ≤ max_units → length rs ≤ max_rules
      → Passes h [] (text_line (spell (span_form_of h) (span ∷ [])) true ∷ (map unit_line us ++ map rule_line rs)) span us rs
  unfolding has_sheet span_in units_in rules_in
  lines_pass us rs is_span_lem units rules new few_units few_rules =
      let x = sheet (digits span ∷ []) span in
      let line = span_line h span most in
      let headed : SoFar (x ∷ []) span [] [] = record { headed = refl; spans = refl; holds_units = refl; holds_rules = refl } in
      passes_next line
      (λ n. both (printable (spell (span_form_of h) (span ∷ []))) _ line.shown (both (every plain (digits span ∷ [])) _ line.plain
      (both (is_span span) true is_span_lem tt)))
      (units_pass us (x ∷ []) [] (map rule_line rs) us rs refl headed units new (omega arith)
      (λ ys s. rules_pass rs ys us [] s rules few_units (omega arith)))
