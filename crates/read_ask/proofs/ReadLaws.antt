-- The pass over the text, line by line.
-- Key idea: a line's verdict is that of its questions (`line_verdict`). So what is left to ask at a line's start decides the whole (`Asking`).
use Rattle.std.specs.Prelude.{Result, Ok, Err}
use Prim.Native.Nat.{ℕ, suc, ◌+◌, ◌≤◌, ◌<◌}
use mathlib.Core.Path.{◌≡◌, refl, sym, ap, ap₂, subst, ◌∙◌}
use mathlib.Core.Bool.{Bool, true, false, not, cond}
use mathlib.Core.List.{List, [], ◌∷◌, ◌++◌, append-nil, append_assoc}
use native.Mathlib.Omega.{arith}
use native.Mathlib.Numerals.{add-one}
use lib.ListN.{length, take, drop}
use lib.Dec.{eqb}
use borrow.Author.Tests.{eq-eqb, ne_eqb}
use Rattle.questions.specs.Numbers.{number_of}
use Rattle.questions.specs.declared.Question.{Question as Asked}
use Rattle.questions.specs.Questions.{Question, ask, Verdict, no, all_yes, first_no}
use Rattle.questions.proofs.FirstNoLaws.{first_then}
use Rattle.sheet.specs.Sizes.{max_units}
use Rattle.sheet.specs.Sheet.{SheetUnit, Rule}
use Rattle.sheet.specs.declared.Sheet.{Sheet}
use Rattle.forms.specs.declared.House.{House}
use Rattle.forms.specs.Lines.{TextLine, text_line, lines, first_line, has_feed, whole_lines}
use Rattle.forms.specs.LinesLaws.{line_end, lines_at, lines_none, whole_within, whole_ended, whole_next, rest_unended, rest_line}
use Rattle.read_line.specs.Content.{Content, content_of}
use Rattle.read_line.specs.Line.{line_of}
use Rattle.read_line.specs.declared.Line.{Line}
use Rattle.read_questions.specs.Reading.{contents, has_sheet, unit_of, units_in, loaders_in, rule_of, rules_in, sheet_in}
use Rattle.read_steps.specs.Steps.{counted}
use Rattle.read_questions.specs.Reading.{questions_of, line_questions, pass_questions, ListRooms, refused, read, concluded}
use Rattle.read_questions.specs.Steps.{step_of, columns, set_at, line_units, line_rules, pass_reply}
use Rattle.read_questions.proofs.SpanLaws.{units_more, rules_more}
use Rattle.read_questions.proofs.ArrayLaws.{column_front, columns_more}
use Rattle.read_questions.proofs.LineLaws.{Matches, matches_none, Verdicts, line_verdict}

-- at the place `at`, where line n begins: what is left to ask decides, and the arrays hold the numbers of the lines before
pub record Asking (h : House) (t : List ℕ) (at n : ℕ) (s : Sheet) (m₀ m : ListRooms (List ℕ)) : Type 0 where
  pub before : List Content
  pub place : at ≤ whole_lines t
  pub number : n ≤ at + 1
  pub counts : Matches s before
  pub left : first_no (line_questions h 1 [] (lines t)) ≡ first_no (line_questions h n before (lines (drop at t)))
  pub whole : contents h (lines t) ≡ before ++ contents h (lines (drop at t))
  pub in_arrays : m ≡ set_at m₀ 0 0 (columns (units_in before) (rules_in before))

pub asking_start : (h : House) (t : List ℕ) (s : Sheet) (m : ListRooms (List ℕ)) → s ≡ counted 0 0 0 → Asking h t 0 1 s m m
unfolding units_in rules_in
asking_start h t s m e =
    record {
      before = [];
      place = omega arith;
      number = omega arith;
      counts = rw e matches_none;
      left = refl;
      whole = refl;
      in_arrays = refl;
    }

module _ (h : House) (t : List ℕ) (at n : ℕ) (s : Sheet) (m₀ m : ListRooms (List ℕ)) (i : Asking h t at n s m₀ m) where
  -- what the line that starts here is, and the questions that are left
  is : Content
  is = content_of h (first_line (drop at t))

  rest : ℕ → List Question
  rest next = line_questions h (suc n) (i.before ++ (is ∷ [])) (lines (drop next t))

  -- the numbers of the units so far are the loader numbers of the lines before
  numbers_are : max_units ≤ length m₀.loader → take s.units m.loader ≡ loaders_in i.before
  numbers_are room =
      ap (λ (x : ListRooms (List ℕ)). take s.units x.loader) i.in_arrays
      ∙ column_front (λ u. u.loader) m₀.loader (units_in i.before) s.units i.counts.units (omega (arith, i.counts.few_units))

  -- the line, which a line feed ends or not, and what the code makes of it
  module _ (room : max_units ≤ length m₀.loader) (next : ℕ) (some : at < length t) (e : next ≡ line_end t at + 1) (ended : Bool)
      (f : has_feed (drop at t) ≡ ended) (line : Result Line Asked) (k : line ≡ line_of h (first_line (drop at t)) ended) where
    here : TextLine
    here = text_line (first_line (drop at t)) ended

    -- the code's step
    abbrev made : Result Sheet Asked
    made = step_of h (take s.units m.loader) s line

    all_lines : lines (drop at t) ≡ here ∷ lines (drop next t)
    unfolding here
    all_lines = lines_at t at next some e ∙ ap (λ (b : Bool). text_line (first_line (drop at t)) b ∷ lines (drop next t)) f

    all_left : first_no (line_questions h 1 [] (lines t)) ≡ first_no (questions_of h n i.before here is ++ rest next)
    unfolding line_questions here is rest
    all_left = i.left ∙ ap (λ (ls : List TextLine). first_no (line_questions h n i.before ls)) all_lines

    verdict : (r : Result Sheet Asked) → made ≡ r → Verdicts r line i.before is n (first_no (questions_of h n i.before here is ++ rest next)) (first_no (rest next))
    unfolding here is rest
    verdict r q =
        subst (λ (x : Result Line Asked). Verdicts r x i.before is n (first_no (questions_of h n i.before here is ++ rest next)) (first_no (rest next))) (sym k)
        (subst (λ (o : Result Sheet Asked). Verdicts o (line_of h here.bytes here.ended) i.before is n
        (first_no (questions_of h n i.before here is ++ rest next)) (first_no (rest next)))
        (ap₂ (λ ks l. step_of h ks s l) (sym (numbers_are room)) (sym k) ∙ q) (line_verdict h s i.before i.counts n here (rest next)))

    line_no : (q : Asked) → made ≡ Err q → refused (number_of q) n ≡ pass_reply h t
    unfolding pass_reply
    line_no q r =
        let v : first_no (line_questions h 1 [] (lines t)) ≡ no (number_of q) n = all_left ∙ verdict (Err q) r in
        let last = ask 5 0 (has_sheet (contents h (lines t))) ∷ [] in
        sym (ap (λ (x : Verdict). concluded x (sheet_in h t)) (first_then (line_questions h 1 [] (lines t)) last (no (number_of q) n) v))

    line_on : (more : Sheet) (m' : ListRooms (List ℕ)) → next ≤ whole_lines t → made ≡ Ok more
        → m' ≡ set_at m s.units s.rules (columns (line_units line) (line_rules line)) → Asking h t next (n + 1) more m₀ m'
    unfolding rest is here contents
    line_on more m' w r a =
        let p = verdict (Ok more) r in
        let c = i.counts in
        record {
          before = i.before ++ (is ∷ []);
          place = w;
          number = omega (arith, i.number);
          counts = p.1.counts;
          left = all_left ∙ p.0 ∙ ap (λ (j : ℕ). first_no (line_questions h j (i.before ++ (is ∷ [])) (lines (drop next t)))) (sym (add-one n));
          whole = i.whole ∙ ap (λ (ls : List TextLine). i.before ++ contents h ls) all_lines
              ∙ sym (append_assoc i.before (is ∷ []) (contents h (lines (drop next t))));
          in_arrays =
              a ∙ ap (λ (x : ListRooms (List ℕ)). set_at x s.units s.rules (columns (line_units line) (line_rules line))) i.in_arrays
              ∙ ap₂ (λ (us : List SheetUnit) (rs : List Rule).
              set_at (set_at m₀ 0 0 (columns (units_in i.before) (rules_in i.before))) s.units s.rules (columns us rs)) p.1.units p.1.rules
              ∙ columns_more m₀ (units_in i.before) (unit_of is) (rules_in i.before) (rule_of is) s.units s.rules c.units c.rules
              ∙ ap₂ (λ (us : List SheetUnit) (rs : List Rule). set_at m₀ 0 0 (columns us rs)) (sym (units_more i.before is))
              (sym (rules_more i.before is));
        }

  -- a line that starts before the last line feed
  module _ (room : max_units ≤ length m₀.loader) (next : ℕ) (w : at < whole_lines t) (e : next ≡ line_end t at + 1) (line : Result Line Asked)
      (k : line ≡ line_of h (first_line (drop at t)) true) where
    pub asking_no : (q : Asked) → step_of h (take s.units m.loader) s line ≡ Err q → refused (number_of q) n ≡ pass_reply h t
    asking_no = line_no room next (omega (arith, whole_within t)) e true (whole_ended t at w) line k

    pub asking_on : (more : Sheet) (m' : ListRooms (List ℕ)) → step_of h (take s.units m.loader) s line ≡ Ok more
        → m' ≡ set_at m s.units s.rules (columns (line_units line) (line_rules line)) → Asking h t next (n + 1) more m₀ m'
    asking_on more m' =
        line_on room next (omega (arith, whole_within t)) e true (whole_ended t at w) line k more m' (omega (arith, whole_next t at w))

  -- the bytes past the last line feed
  pub asking_last : max_units ≤ length m₀.loader → whole_lines t ≤ at → at < length t → (q : Asked) → Err q ≡ line_of h (drop at t) false
      → refused (number_of q) n ≡ pass_reply h t
  unfolding step_of
  asking_last room w some q k =
      line_no room (line_end t at + 1) some refl false (rest_unended t at w) (Err q)
      (k ∙ ap (λ (l : List ℕ). line_of h l false) (sym (rest_line t at w))) q refl

  module _ (none : length t ≤ at) where
    all_before : contents h (lines t) ≡ i.before
    unfolding contents
    all_before = i.whole ∙ ap (λ (ls : List TextLine). i.before ++ contents h ls) (lines_none t at none) ∙ append-nil i.before

    all_asked : first_no (line_questions h 1 [] (lines t)) ≡ all_yes
    unfolding line_questions first_no
    all_asked = i.left ∙ ap (λ (ls : List TextLine). first_no (line_questions h n i.before ls)) (lines_none t at none)

    last_asked : (z : Bool) → eqb s.span 0 ≡ z → first_no (pass_questions h t) ≡ cond (not z) all_yes (no 5 0)
    unfolding first_no
    last_asked z e =
        first_then (line_questions h 1 [] (lines t)) (ask 5 0 (has_sheet (contents h (lines t))) ∷ []) all_yes all_asked
        ∙ ap (λ (b : Bool). cond b all_yes (no 5 0)) (ap has_sheet all_before ∙ i.counts.sheeted ∙ ap not e)

    pub asking_none : s.span ≡ 0 → refused 5 0 ≡ pass_reply h t
    unfolding pass_reply
    asking_none e = sym (ap (λ (x : Verdict). concluded x (sheet_in h t)) (last_asked true (eq-eqb s.span 0 e)))

    pub asking_sheet : (s.span ≡ 0 → ⊥) → read s.span s.units s.rules ≡ pass_reply h t
    unfolding pass_reply sheet_in
    asking_sheet e =
        let c = i.counts in
        let b = all_before in
        rw (last_asked false (ne_eqb s.span 0 e)) (rw (b, c.span, c.units, c.rules) refl)

    pub arrays_kept : m ≡ set_at m₀ 0 0 (columns (sheet_in h t).units (sheet_in h t).rules)
    unfolding sheet_in
    arrays_kept = i.in_arrays ∙ ap (λ (xs : List Content). set_at m₀ 0 0 (columns (units_in xs) (rules_in xs))) (sym all_before)
