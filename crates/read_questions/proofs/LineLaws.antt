-- One line's questions, and what the code asks of it.
-- Key idea: what the lines so far are, `before`, is what the code's three numbers stand for (`Matches`). A line more is asked the questions of the
-- definition; the code's tests of it are the same, by cases on what the line is (`line_verdict`).
use Rattle.std.specs.Prelude.{ℕ, suc, ◌+◌, ◌≤◌, ◌≡◌, Bool, ◌&&◌, cond, List, [], ◌∷◌, ◌++◌, eqb, leb, ltb, Result, Ok, Err}
use Rattle.std.proofs.Math.Path.{refl, sym, ap}
use Rattle.std.proofs.Common.{◌∙◌, arith, add-zero}
use Rattle.std.proofs.Math.Bool.{true, false, not, and-false, or-true, not-not}
use Rattle.std.proofs.Math.ListN.{length, length-append}
use borrow.Author.Tests.{ne_eqb, le-leb, leb-true, ltb-true}
use Rattle.lists.specs.Lists.{every}
use Rattle.questions.specs.Numbers.{number_of}
use Rattle.questions.specs.Questions.{Question, Verdict, no, first_no}
use Rattle.questions.specs.declared.Question.{Question as Asked}
use Rattle.questions.specs.declared.Question.TheVariants.{Printable, LineForm, PlainNumbers, SheetLine, Span, Stretch, Counts, Units, Rules, NoteBrackets, Loader}
use Rattle.sheet.specs.Sizes.{max_slots, max_units, max_rules}
use Rattle.sheet.specs.Questions.{is_span, rising, is_stretch, is_count, is_new}
use Rattle.sheet.specs.declared.Sheet.{Sheet}
use Rattle.forms.specs.declared.House.{House}
use Rattle.forms.specs.Form.{printable, plain}
use Rattle.lists.specs.Members.{and_left}
use Rattle.forms.specs.Lines.{TextLine}
use Rattle.read_line.specs.Content.{Content, note, sheet, unit, rule, other, content_of, brackets_match, numbers_in}
use Rattle.read_line.specs.Line.{values_of, said, line_of}
use Rattle.read_line.specs.declared.Line.{Line}
use Rattle.read_questions.specs.Reading.{is_sheet, has_sheet, span_else, span_in, unit_of, units_in, loaders_in, rule_of, rules_in, is_form}
use Rattle.read_steps.specs.Steps.{last_place, counted}
use Rattle.read_questions.specs.Reading.{in_order, span_allowed, in_span, loader_fits, count_fits, questions_of}
use Rattle.read_questions.specs.Steps.{step_of, line_units, line_rules}
use Rattle.read_questions.proofs.SpanLaws.{joined_append, has_sheet_more, has_sheet_same, span_in_same, span_in_first}

-- ---- what the code's numbers stand for

pub record Matches (s : Sheet) (before : List Content) : Type 0 where
  pub span : s.span ≡ span_in before
  pub sheeted : has_sheet before ≡ not (eqb s.span 0)
  pub units : s.units ≡ length (units_in before)
  pub rules : s.rules ≡ length (rules_in before)
  pub few_units : s.units ≤ max_units
  pub few_rules : s.rules ≤ max_rules

pub matches_none : Matches (counted 0 0 0) []
unfolding span_in has_sheet units_in rules_in
matches_none = record { span = refl; sheeted = refl; units = refl; rules = refl; few_units = omega arith; few_rules = omega arith }

-- a line that passed: the numbers with it, and what it adds to the arrays
pub record Added (m : Sheet) (before : List Content) (x : Content) (line : Result Line Asked) : Type 0 where
  pub counts : Matches m (before ++ (x ∷ []))
  pub units : line_units line ≡ unit_of x
  pub rules : line_rules line ≡ rule_of x

-- what a step says of the questions, where w is what is left to ask
abbrev pub Verdicts : Result Sheet Asked → Result Line Asked → List Content → Content → ℕ → Verdict → Verdict → Type 0
Verdicts (Err q) line before x n v w = v ≡ no (number_of q) n
Verdicts (Ok m) line before x n v w = (v ≡ w) × Added m before x line

module _ (s : Sheet) (before : List Content) (c : Matches s before) where
  more_units : (x : Content) → length (units_in (before ++ (x ∷ []))) ≡ s.units + length (units_in (x ∷ []))
  unfolding units_in
  more_units x =
      omega (arith, c.units, ap length (joined_append unit_of before (x ∷ [])), length-append (units_in before) (units_in (x ∷ [])))

  more_rules : (x : Content) → length (rules_in (before ++ (x ∷ []))) ≡ s.rules + length (rules_in (x ∷ []))
  unfolding rules_in
  more_rules x =
      omega (arith, c.rules, ap length (joined_append rule_of before (x ∷ [])), length-append (rules_in before) (rules_in (x ∷ [])))

  -- questions 9 and 10 of a line that adds no unit, or no rule
  nine : (x : Content) → length (units_in (x ∷ [])) ≡ 0 → leb (length (units_in (before ++ (x ∷ [])))) max_units ≡ true
  nine x e = le-leb (length (units_in (before ++ (x ∷ [])))) max_units (omega (arith, more_units x, c.few_units))

  ten : (x : Content) → length (rules_in (x ∷ [])) ≡ 0 → leb (length (rules_in (before ++ (x ∷ [])))) max_rules ≡ true
  ten x e = le-leb (length (rules_in (before ++ (x ∷ [])))) max_rules (omega (arith, more_rules x, c.few_rules))

  -- and of one that adds one
  nine_more : (x : Content) → length (units_in (x ∷ [])) ≡ 1 → leb (length (units_in (before ++ (x ∷ [])))) max_units ≡ ltb s.units max_units
  nine_more x e = let k : length (units_in (before ++ (x ∷ []))) ≡ suc s.units = omega (arith, more_units x) in ap (λ (j : ℕ). leb j max_units) k

  ten_more : (x : Content) → length (rules_in (x ∷ [])) ≡ 1 → leb (length (rules_in (before ++ (x ∷ [])))) max_rules ≡ ltb s.rules max_rules
  ten_more x e = let k : length (rules_in (before ++ (x ∷ []))) ≡ suc s.rules = omega (arith, more_rules x) in ap (λ (j : ℕ). leb j max_rules) k

  -- the numbers with a line that is no sheet form
  matches_more : (x : Content) (u r : ℕ) → is_sheet x ≡ false → ((p : ℕ) → span_else x p ≡ p) → u ≡ s.units + length (units_in (x ∷ []))
      → r ≡ s.rules + length (rules_in (x ∷ [])) → u ≤ max_units → r ≤ max_rules → Matches (counted s.span u r) (before ++ (x ∷ []))
  matches_more x u r e h a b k l =
      record {
        span = c.span ∙ sym (span_in_same before x h);
        sheeted = has_sheet_same before x e ∙ c.sheeted;
        units = a ∙ sym (more_units x);
        rules = b ∙ sym (more_rules x);
        few_units = k;
        few_rules = l;
      }

  matches_sheet : (ds : List (List ℕ)) (p : ℕ) → eqb s.span 0 ≡ true → is_span p ≡ true
      → Matches (counted p s.units s.rules) (before ++ (sheet ds p ∷ []))
  unfolding units_in rules_in
  matches_sheet ds p z h =
      let none : has_sheet before ≡ false = c.sheeted ∙ ap not z in
      let some : 1 ≤ p = leb-true 1 p (and_left (leb 1 p) (leb p max_slots) h) in
      record {
        span = sym (span_in_first before ds p none);
        sheeted = has_sheet_more before (sheet ds p) ∙ or-true (has_sheet before) ∙ sym (ap not (ne_eqb p 0 (λ e. omega arith)));
        units = omega (arith, more_units (sheet ds p));
        rules = omega (arith, more_rules (sheet ds p));
        few_units = c.few_units;
        few_rules = c.few_rules;
      }

-- ---- the verdict on a line, by what it is: the code asks questions 5 to 10 and 16 by its own tests, which are those of the definition

module _ (before : List Content) (n : ℕ) (w : Verdict) (m : Sheet) (x : Content) (line : Result Line Asked) where
  same_verdict : (t₅ t₆ t₇ t₁₆ t₈ t₉ t₁₀ g₅ g₇ g₉ g₁₀ : Bool) → g₅ ≡ t₅ → g₇ ≡ t₇ → g₉ ≡ t₉ → g₁₀ ≡ t₁₀
      → (t₅ ≡ true → t₆ ≡ true → t₉ ≡ true → t₁₀ ≡ true → Added m before x line)
      → Verdicts (cond t₅ (cond t₆ (cond t₇ (cond t₁₆ (cond t₈ (cond t₉ (cond t₁₀ (Ok m) (Err Rules)) (Err Units)) (Err Counts)) (Err Loader)) (Err Stretch)) (Err Span)) (Err SheetLine))
      line before x n
      (cond g₅ (cond t₆ (cond g₇ (cond t₁₆ (cond t₈ (cond g₉ (cond g₁₀ w (no 10 n)) (no 9 n)) (no 8 n)) (no 16 n)) (no 7 n)) (no 6 n)) (no 5 n)) w
  same_verdict t₅ t₆ t₇ t₁₆ t₈ t₉ t₁₀ g₅ g₇ g₉ g₁₀ e₅ e₇ e₉ e₁₀ p = rw (e₅, e₇, e₉, e₁₀) (go t₅ t₆ t₇ t₁₆ t₈ t₉ t₁₀ p)
    where
      go : (t₅ t₆ t₇ t₁₆ t₈ t₉ t₁₀ : Bool) → (t₅ ≡ true → t₆ ≡ true → t₉ ≡ true → t₁₀ ≡ true → Added m before x line)
          → Verdicts (cond t₅ (cond t₆ (cond t₇ (cond t₁₆ (cond t₈ (cond t₉ (cond t₁₀ (Ok m) (Err Rules)) (Err Units)) (Err Counts)) (Err Loader)) (Err Stretch)) (Err Span)) (Err SheetLine))
          line before x n
          (cond t₅ (cond t₆ (cond t₇ (cond t₁₆ (cond t₈ (cond t₉ (cond t₁₀ w (no 10 n)) (no 9 n)) (no 8 n)) (no 16 n)) (no 7 n)) (no 6 n)) (no 5 n)) w
      go false t₆ t₇ t₁₆ t₈ t₉ t₁₀ p = refl
      go true false t₇ t₁₆ t₈ t₉ t₁₀ p = refl
      go true true false t₁₆ t₈ t₉ t₁₀ p = refl
      go true true true false t₈ t₉ t₁₀ p = refl
      go true true true true false t₉ t₁₀ p = refl
      go true true true true true false t₁₀ p = refl
      go true true true true true true false p = refl
      go true true true true true true true p = (refl, p refl refl refl refl)

module _ (h : House) (s : Sheet) (before : List Content) (c : Matches s before) (n : ℕ) (w : Verdict) where
  -- questions 5 to 10 and 16
  abbrev later : Content → Verdict
  later x =
      cond (in_order before x) (cond (span_allowed x) (cond (in_span h (span_in before) x) (cond (loader_fits before x) (cond (count_fits x)
      (cond (leb (length (units_in (before ++ (x ∷ [])))) max_units) (cond (leb (length (rules_in (before ++ (x ∷ [])))) max_rules) w (no 10 n)) (no 9 n))
      (no 8 n)) (no 16 n)) (no 7 n)) (no 6 n)) (no 5 n)

  -- the code's step, after units with the loader numbers of the lines before
  abbrev stepped : Result Line Asked → Result Sheet Asked
  stepped line = step_of h (loaders_in before) s line

  -- a test of the span of the lines before is one of the sheet so far
  span_same : (test : ℕ → Bool) → test (span_in before) ≡ test s.span
  span_same test = ap test (sym c.span)

  note_later : Verdicts (stepped (Ok Line.Note)) (Ok Line.Note) before note n (later note) w
  unfolding step_of units_in rules_in
  note_later =
      same_verdict before n w s note (Ok Line.Note) true true true true true true true true true _ _ refl refl
      (nine s before c note refl) (ten s before c note refl)
      (λ a b d e. record {
        counts = matches_more s before c note s.units s.rules refl (λ p. refl) (sym (add-zero s.units)) (sym (add-zero s.rules)) c.few_units
            c.few_rules;
        units = refl;
        rules = refl;
      })

  sheet_later : (ds : List (List ℕ)) (p : ℕ) → Verdicts (stepped (values_of (sheet ds p))) (values_of (sheet ds p)) before (sheet ds p) n (later (sheet ds p)) w
  unfolding step_of units_in rules_in
  sheet_later ds p =
      same_verdict before n w (counted p s.units s.rules) (sheet ds p) (values_of (sheet ds p))
      (eqb s.span 0) (is_span p) true true true true true _ true _ _
      (ap not c.sheeted ∙ not-not (eqb s.span 0)) refl (nine s before c (sheet ds p) refl) (ten s before c (sheet ds p) refl)
      (λ z t d e. record { counts = matches_sheet s before c ds p z t; units = refl; rules = refl })

  unit_later : (ds : List (List ℕ)) (k f l : ℕ)
      → Verdicts (stepped (values_of (unit ds k f l))) (values_of (unit ds k f l)) before (unit ds k f l) n (later (unit ds k f l)) w
  unfolding step_of units_in rules_in
  unit_later ds k f l =
      same_verdict before n w (counted s.span (s.units + 1) s.rules) (unit ds k f l) (values_of (unit ds k f l))
      (not (eqb s.span 0)) true (rising 1 s.span (last_place h s.span) f l) (is_new (loaders_in before) k) true (ltb s.units max_units) true
      _ _ _ _
      c.sheeted (span_same (λ p. rising 1 p (last_place h p) f l)) (nine_more s before c (unit ds k f l) refl) (ten s before c (unit ds k f l) refl)
      (λ a b t e. record {
        counts =
            matches_more s before c (unit ds k f l) (s.units + 1) s.rules refl (λ p. refl) refl (sym (add-zero s.rules))
            (omega (arith, ltb-true s.units max_units t)) c.few_rules;
        units = refl;
        rules = refl;
      })

  rule_later : (ds : List (List ℕ)) (a b lo hi : ℕ) →
      Verdicts (stepped (values_of (rule ds a b lo hi))) (values_of (rule ds a b lo hi)) before (rule ds a b lo hi) n (later (rule ds a b lo hi)) w
  unfolding step_of units_in rules_in
  rule_later ds a b lo hi =
      same_verdict before n w (counted s.span s.units (s.rules + 1)) (rule ds a b lo hi) (values_of (rule ds a b lo hi))
      (not (eqb s.span 0)) true (is_stretch s.span a b) true (is_count lo hi) true (ltb s.rules max_rules) _ _ _ _
      c.sheeted (span_same (λ p. is_stretch p a b)) (nine s before c (rule ds a b lo hi) refl) (ten_more s before c (rule ds a b lo hi) refl)
      (λ y z d t. record {
        counts =
            matches_more s before c (rule ds a b lo hi) s.units (s.rules + 1) refl (λ p. refl) (sym (add-zero s.units)) refl
            c.few_units (omega (arith, ltb-true s.rules max_rules t));
        units = refl;
        rules = refl;
      })

  -- question 4 before them
  plain_verdict : (t : Bool) (x : Content) (v : Verdict) → Verdicts (stepped (values_of x)) (values_of x) before x n v w
      → Verdicts (stepped (cond t (values_of x) (Err PlainNumbers))) (cond t (values_of x) (Err PlainNumbers)) before x n (cond t v (no 4 n)) w
  unfolding step_of
  plain_verdict true x v h = h
  plain_verdict false x v h = refl

  -- question 3 before it
  form_verdict : (e : Bool) (x : Content)
      → Verdicts (stepped (cond e (said x) (Err LineForm))) (cond e (said x) (Err LineForm)) before x n
      (cond (is_form x && e) (cond (every plain (numbers_in x)) (later x) (no 4 n)) (no 3 n)) w
  unfolding step_of said
  form_verdict false x = rw (and-false (is_form x)) refl
  form_verdict true note = note_later
  form_verdict true (sheet ds p) = plain_verdict (every plain ds) (sheet ds p) (later (sheet ds p)) (sheet_later ds p)
  form_verdict true (unit ds k f l) = plain_verdict (every plain ds) (unit ds k f l) (later (unit ds k f l)) (unit_later ds k f l)
  form_verdict true (rule ds a b lo hi) = plain_verdict (every plain ds) (rule ds a b lo hi) (later (rule ds a b lo hi)) (rule_later ds a b lo hi)
  form_verdict true other = refl

-- all questions of a line
pub line_verdict : (h : House) (s : Sheet) (before : List Content) → Matches s before → (n : ℕ) (l : TextLine) (rest : List Question) →
    let x = content_of h l.bytes in
    Verdicts (step_of h (loaders_in before) s (line_of h l.bytes l.ended)) (line_of h l.bytes l.ended) before x n
    (first_no (questions_of h n before l x ++ rest)) (first_no rest)
unfolding line_of first_no step_of
line_verdict h s before c n l rest = go (printable l.bytes) (brackets_match (content_of h l.bytes) l.bytes)
  where
    x : Content
    x = content_of h l.bytes

    line : Bool → Bool → Result Line Asked
    line p b = cond p (cond b (cond l.ended (said x) (Err LineForm)) (Err NoteBrackets)) (Err Printable)

    go : (p b : Bool) → Verdicts (step_of h (loaders_in before) s (line p b)) (line p b) before x n
        (cond p (cond b (cond (is_form x && l.ended) (cond (every plain (numbers_in x)) (later h s before c n (first_no rest) x) (no 4 n)) (no 3 n)) (no 11 n))
        (no 2 n)) (first_no rest)
    go true true = form_verdict h s before c n (first_no rest) l.ended x
    go true false = refl
    go false b = refl
