-- No text of an accepted sheet with loader numbers is longer than maxText, so a room of that length holds every one, and reading refuses none by 1.
-- Key idea: a line is no longer than its form's words and so many digits (`line_short`), and a text no longer than so many lines.
use mathlib.Core.List.{List, [], ◌∷◌, map}
use Rattle.std.specs.Prelude.{ℕ, suc, ◌*◌, ◌≤◌, ◌<◌, T, get_or}
use native.Mathlib.Omega.{arith}
use Rattle.std.proofs.Math.Nat.{mul-le-mul_right}
use Rattle.std.proofs.Common.{suc-mul}
use Rattle.std.proofs.Math.ListN.{length, length-append, length-map}
use Rattle.lists.specs.Lists.{joined}
use Rattle.sheet.specs.Sizes.{max_slots, max_units, max_bytes}
use Rattle.sheet.specs.Sheet.{Rule, SheetUnit, WrittenSheet, constraints, loaders, no_rule, no_unit}
use Rattle.sheet.specs.Questions.{accepted, loaders_fit}
use Rattle.sheet.proofs.QuestionLaws.{accepted_sized}
use Rattle.sheet.proofs.WrittenLaws.{FitUnit, FitRule, unit_fits, rule_fits}
use Rattle.forms.specs.Words.{text}
use Rattle.forms.specs.Forms.{span_form_of, unit_form_of, rule_form_of}
use Rattle.forms.specs.DecimalLaws.{line_short}
use Rattle.forms.specs.declared.House.{House}
use Rattle.forms.specs.declared.House.TheVariants.{Ours, Partner}
use Rattle.sheet_texts.specs.SheetText.{unit_numbers, rule_numbers, span_text, unit_text, rule_text, unit_texts, rule_texts, sheet_text}
use Rattle.sheet_texts.specs.SheetText.{longest_span, longest_unit, longest_rule, longest_text, max_text}

-- ---- lines

module _ (span : ℕ) (most : span ≤ max_slots) where
  span_short : (h : House) → length (span_text h span) ≤ longest_span h
  unfolding span_text text
  span_short Ours = line_short (span_form_of Ours) (span ∷ []) (2 ∷ []) (omega arith, tt)
  span_short Partner = line_short (span_form_of Partner) (span ∷ []) (2 ∷ []) (omega arith, tt)

  unit_short : (h : House) (u : SheetUnit) → FitUnit span u → length (unit_text h u) ≤ longest_unit h
  unfolding unit_text text
  unit_short Ours u f =
      line_short (unit_form_of Ours) (unit_numbers Ours u) (4 ∷ 2 ∷ 2 ∷ [])
      (omega (arith, f.number), (omega (arith, f.ordered, f.ends), (omega (arith, f.ends), tt)))
  unit_short Partner u f =
      line_short (unit_form_of Partner) (unit_numbers Partner u) (4 ∷ 2 ∷ 2 ∷ [])
      (omega (arith, f.number), (omega (arith, f.ordered, f.ends), (omega (arith, f.ends), tt)))

  rule_short : (h : House) (r : Rule) → FitRule span r → length (rule_text h r) ≤ longest_rule h
  unfolding rule_text text
  rule_short Ours r f =
      line_short (rule_form_of Ours) (rule_numbers Ours r) (2 ∷ 2 ∷ 3 ∷ 3 ∷ [])
      (omega (arith, f.ordered, f.ends), (omega (arith, f.ends), (omega (arith, f.counts), (omega (arith, f.counts), tt))))
  rule_short Partner r f =
      line_short (rule_form_of Partner) (rule_numbers Partner r) (2 ∷ 2 ∷ 3 ∷ [])
      (omega (arith, f.ordered, f.ends), (omega (arith, f.ends), (omega (arith, f.counts), tt)))

-- so many lines
lines_short : {A : Type 0} (f : A → List ℕ) (m : ℕ) (d : A) (xs : List A) → ((j : ℕ) → j < length xs → length (f (get_or xs j d)) ≤ m)
    → length (joined (map f xs)) ≤ length xs * m
lines_short f m d [] h = omega arith
lines_short f m d (x ∷ xs) h =
    omega (
      arith,
      length-append (f x) (joined (map f xs)),
      h 0 (omega arith),
      lines_short f m d xs (λ j l. h (suc j) (omega arith)),
      suc-mul (length xs) m,
    )

-- ---- texts

module _ (h : House) (w : WrittenSheet) (ok : T (accepted (constraints w))) (fit : T (loaders_fit (loaders w))) where
  house_short : length (sheet_text h w) ≤ longest_text h
  unfolding sheet_text
  house_short =
      let sized = accepted_sized (constraints w) ok in
      let most = sized.slots.1 in
      let few : length w.units ≤ max_units = omega (arith, sized.units, length-map w.units (λ (u : SheetUnit). u.window)) in
      let a = span_text h w.span in
      let b = unit_texts h w.units in
      let c = rule_texts h w.rules in
      omega (
        arith,
        length-append a (joined (b ∷ c ∷ [])),
        length-append b (joined (c ∷ [])),
        length-append c [],
        span_short w.span most h,
        lines_short (unit_text h) (longest_unit h) no_unit w.units (λ j l. unit_short w.span most h _ (unit_fits w ok fit j l)),
        lines_short (rule_text h) (longest_rule h) no_rule w.rules (λ j l. rule_short w.span most h _ (rule_fits (constraints w) ok j l)),
        mul-le-mul_right (longest_unit h) few,
        mul-le-mul_right (longest_rule h) sized.rules,
      )

  pub text_short : length (sheet_text h w) ≤ max_text
  text_short = go h house_short
    where
      go : (g : House) → length (sheet_text h w) ≤ longest_text g → length (sheet_text h w) ≤ max_text
      go Ours l = omega arith
      go Partner l = l

-- question 1 holds of them all
pub text_readable : max_text ≤ max_bytes
text_readable = omega arith
