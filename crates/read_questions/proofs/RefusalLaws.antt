-- Which refusals a text can have, where the lent rooms are long enough for every sheet: one of questions 1 to 11 or 16, at a line no later than the longest
-- text's last.
-- Key idea: the first no is one of the questions asked, and a text has no more lines than bytes. Question 12 comes after the lines' own, which keep the units
-- and rules as few as the rooms are long.
use Rattle.std.specs.Prelude.{◌≡◌, Bool, ◌&&◌, ◌||◌, ℕ, suc, ◌+◌, ◌≤◌, eqb, length}
use Rattle.std.proofs.Math.Path.{refl}
use Rattle.std.proofs.Common.{sym, ◌∙◌, arith, leb→le, le-leb, leb-true}
use Rattle.std.proofs.Math.Bool.{true, false, cond}
use mathlib.Core.List.{List, [], ◌∷◌, ◌++◌}
use Rattle.std.proofs.Math.Dec.{T, leb}
use Rattle.lists.specs.Lists.{within, every}
use Rattle.lists.specs.Members.{both, left, right, every_both}
use Rattle.questions.specs.Questions.{Question, ask, Verdict, no, all_yes, first_no}
use Rattle.questions.proofs.FirstNoLaws.{first_then, yes_every, yes_front, first_passes}
use Rattle.sheet.specs.Sizes.{max_units, max_rules, max_bytes}
use Rattle.forms.specs.declared.House.{House}
use Rattle.forms.specs.Words.{line_feed}
use Rattle.forms.specs.Lines.{TextLine, text_line, in_front, lines}
use Rattle.read_line.specs.Content.{Content, content_of}
use Rattle.read_questions.specs.Reading.{contents, has_sheet, sheet_in, line_questions, pass_questions, questions, lists_fit, rooms_for_all}
use Rattle.read_questions.proofs.AcceptedLaws.{few_lines}

-- ---- a text has no more lines than bytes

front_count : (b : ℕ) (ls : List TextLine) → length (in_front b ls) ≤ suc (length ls)
front_count b [] = omega arith
front_count b (l ∷ ls) = omega arith

pub line_count : (text : List ℕ) → length (lines text) ≤ length text
unfolding lines
line_count [] = omega arith
line_count (b ∷ t) = go (eqb b line_feed) (line_count t)
  where
    go : (c : Bool) → length (lines t) ≤ length t → length (cond c (text_line [] true ∷ lines t) (in_front b (lines t))) ≤ suc (length t)
    go true h = omega arith
    go false h = omega (arith, front_count b (lines t))

-- ---- the first no is one of the questions asked

-- the questions that are asked of every text
abbrev pub asks_text : ℕ → Bool
asks_text q = within 1 11 q || eqb q 16

-- a refusal that reading may come to
pub record Refusable (number line : ℕ) : Type 0 where
  pub number_known : T (asks_text number)
  pub line_known : line ≤ max_bytes

abbrev known : ℕ → ℕ → Bool
known q n = asks_text q && leb n max_bytes

-- every question of the lines from n on is known
lines_known : (h : House) (n : ℕ) (before : List Content) (ls : List TextLine) → n + length ls ≤ suc max_bytes
    → T (every (λ q. known q.number q.line) (line_questions h n before ls))
unfolding line_questions
lines_known h n before [] few = tt
lines_known h n before (l ∷ ls) few =
    rw (le-leb n max_bytes (omega arith)) (lines_known h (suc n) (before ++ (content_of h l.bytes ∷ [])) ls (omega arith))

-- ---- rooms for every sheet

pub all_fit : (u r : ℕ) → T (leb u max_units) → T (leb r max_rules) → T (lists_fit u r rooms_for_all)
all_fit u r hu hr =
    let a = leb u max_units in
    let b = leb r max_rules in
    both a ((a && a) && ((b && b) && (b && b))) hu
    (both (a && a) ((b && b) && (b && b)) (both a a hu hu) (both (b && b) (b && b) (both b b hr hr) (both b b hr hr)))

-- ---- what reading can be refused by
module _ (h : House) (text : List ℕ) (number line : ℕ) where
  abbrev fits : Bool
  fits = lists_fit (length (sheet_in h text).units) (length (sheet_in h text).rules) rooms_for_all

  abbrev ends : List Question
  ends = ask 5 0 (has_sheet (contents h (lines text))) ∷ []

  is_refusable : T (known number line) → Refusable number line
  is_refusable k =
      record { number_known = left (asks_text number) (leb line max_bytes) k; line_known = leb→le line max_bytes (right (asks_text number) _ k) }

  -- question 12 is not answered no
  not_rooms : (b : Bool) → T b → cond b all_yes (no 12 0) ≡ no number line → ⊥
  not_rooms true t e = let z : ◌≡◌ {A = ℕ} 0 1 = cc in omega arith
  not_rooms false t e = t

  by_pass_lem : length text ≤ max_bytes → first_no (pass_questions h text ++ (ask 12 0 fits ∷ [])) ≡ no number line → Refusable number line
  unfolding first_no
  by_pass_lem short e = go (first_no (pass_questions h text)) refl
    where
      all_known : T (every (λ q. known q.number q.line) (pass_questions h text))
      all_known =
          every_both (λ q. known q.number q.line) (line_questions h 1 [] (lines text)) ends
          (lines_known h 1 [] (lines text) (omega (arith, line_count text))) tt

      go : (v : Verdict) → first_no (pass_questions h text) ≡ v → Refusable number line
      go (no q n) f =
          let g = first_then (pass_questions h text) (ask 12 0 fits ∷ []) (no q n) f in
          is_refusable (first_passes known (pass_questions h text) all_known number line (f ∙ sym g ∙ e))
      go all_yes f =
          let few = few_lines h text (yes_front (line_questions h 1 [] (lines text)) ends (yes_every (pass_questions h text) f)) in
          let g = first_then (pass_questions h text) (ask 12 0 fits ∷ []) all_yes f in
          absurd (not_rooms fits (all_fit (length (sheet_in h text).units) (length (sheet_in h text).rules) few.0 few.1) (sym g ∙ e))

  pub reading_refusals : first_no (questions h text rooms_for_all) ≡ no number line → Refusable number line
  unfolding questions first_no
  reading_refusals = go (leb (length text) max_bytes) refl
    where
      go : (b : Bool) → leb (length text) max_bytes ≡ b → cond b (first_no (pass_questions h text ++ (ask 12 0 fits ∷ []))) (no 1 0) ≡ no number line
          → Refusable number line
      go true t e = by_pass_lem (leb-true (length text) max_bytes t) e
      go false t e = is_refusable (first_passes known (ask 1 0 false ∷ []) tt number line e)
