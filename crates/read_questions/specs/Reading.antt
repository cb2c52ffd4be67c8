-- What reading a text of a house answers (docs/RULES.md, "The order of the questions"): the text's lines, what each line is, the questions in their order,
-- and the first that is answered no. Definitions only, with no grid and no reading states.
use Rattle.std.specs.Prelude.{ℕ, suc, Bool, true, false, ◌&&◌, ◌||◌, not, List, [], ◌∷◌, ◌++◌, map, length, leb, Result, Ok, Err}
use Rattle.lists.specs.Lists.{every, joined}
use Rattle.questions.specs.Questions.{Question, ask, Verdict, no, all_yes, first_no}
use Rattle.questions.specs.declared.Refusal.{Refusal}
use Rattle.sheet.specs.declared.Sheet.{Sheet}
use Rattle.sheet.specs.Sizes.{max_units, max_rules, max_bytes}
use Rattle.sheet.specs.Sheet.{Rule, SheetUnit, WrittenSheet}
use Rattle.sheet.specs.Questions.{is_span, rising, is_stretch, is_count, is_new}
use Rattle.forms.specs.declared.House.{House}
use Rattle.forms.specs.Form.{printable, plain}
use Rattle.forms.specs.Lines.{TextLine, lines}
use Rattle.read_line.specs.Content.{Content, note, sheet, unit, rule, other, content_of, brackets_match, numbers_in}
use Rattle.read_steps.specs.Steps.{last_place}

-- ---- what the lines say

unfoldable pub contents : House → List TextLine → List Content
contents h ls = map (λ l. content_of h l.bytes) ls

abbrev pub is_sheet : Content → Bool
is_sheet note = false
is_sheet (sheet ds p) = true
is_sheet (unit ds k f l) = false
is_sheet (rule ds a b lo hi) = false
is_sheet other = false

unfoldable pub has_sheet : List Content → Bool
has_sheet [] = false
has_sheet (x ∷ xs) = is_sheet x || has_sheet xs

-- the span of the first sheet form, and 0 without one
abbrev pub span_else : Content → ℕ → ℕ
span_else note p = p
span_else (sheet ds q) p = q
span_else (unit ds k f l) p = p
span_else (rule ds a b lo hi) p = p
span_else other p = p

unfoldable pub span_in : List Content → ℕ
span_in [] = 0
span_in (x ∷ xs) = span_else x (span_in xs)

-- the units and the rules, in order of lines
abbrev pub unit_of : Content → List SheetUnit
unit_of note = []
unit_of (sheet ds p) = []
unit_of (unit ds k f l) = record { loader = k; window = record { first = f; last = l } } ∷ []
unit_of (rule ds a b lo hi) = []
unit_of other = []

unfoldable pub units_in : List Content → List SheetUnit
units_in xs = joined (map unit_of xs)

-- the units' loader numbers
abbrev pub loaders_in : List Content → List ℕ
loaders_in xs = map (λ u. u.loader) (units_in xs)

abbrev pub rule_of : Content → List Rule
rule_of note = []
rule_of (sheet ds p) = []
rule_of (unit ds k f l) = []
rule_of (rule ds a b lo hi) = record { from = a; to = b; low = lo; high = hi } ∷ []
rule_of other = []

unfoldable pub rules_in : List Content → List Rule
rules_in xs = joined (map rule_of xs)

unfoldable pub sheet_in : House → List ℕ → WrittenSheet
sheet_in h text =
    let xs = contents h (lines text) in
    record { span = span_in xs; units = units_in xs; rules = rules_in xs }

-- ---- the questions of a line

-- 3
abbrev pub is_form : Content → Bool
is_form note = true
is_form (sheet ds p) = true
is_form (unit ds k f l) = true
is_form (rule ds a b lo hi) = true
is_form other = false

-- 5, after these lines
abbrev pub in_order : List Content → Content → Bool
in_order before note = true
in_order before (sheet ds p) = not (has_sheet before)
in_order before (unit ds k f l) = has_sheet before
in_order before (rule ds a b lo hi) = has_sheet before
in_order before other = true

-- 6
abbrev pub span_allowed : Content → Bool
span_allowed note = true
span_allowed (sheet ds p) = is_span p
span_allowed (unit ds k f l) = true
span_allowed (rule ds a b lo hi) = true
span_allowed other = true

-- 7, with this span
abbrev pub in_span : House → ℕ → Content → Bool
in_span h span note = true
in_span h span (sheet ds p) = true
in_span h span (unit ds k f l) = rising 1 span (last_place h span) f l
in_span h span (rule ds a b lo hi) = is_stretch span a b
in_span h span other = true

-- 16, after these lines
abbrev pub loader_fits : List Content → Content → Bool
loader_fits before note = true
loader_fits before (sheet ds p) = true
loader_fits before (unit ds k f l) = is_new (loaders_in before) k
loader_fits before (rule ds a b lo hi) = true
loader_fits before other = true

-- 8
abbrev pub count_fits : Content → Bool
count_fits note = true
count_fits (sheet ds p) = true
count_fits (unit ds k f l) = true
count_fits (rule ds a b lo hi) = is_count lo hi
count_fits other = true

-- what is asked of the line with this number that is this content and stands after these lines
abbrev pub questions_of : House → ℕ → List Content → TextLine → Content → List Question
questions_of h n before l x =
    let here = before ++ (x ∷ []) in
    ask 2 n (printable l.bytes) ∷
    ask 11 n (brackets_match x l.bytes) ∷
    ask 3 n (is_form x && l.ended) ∷
    ask 4 n (every plain (numbers_in x)) ∷
    ask 5 n (in_order before x) ∷
    ask 6 n (span_allowed x) ∷
    ask 7 n (in_span h (span_in before) x) ∷
    ask 16 n (loader_fits before x) ∷
    ask 8 n (count_fits x) ∷
    ask 9 n (leb (length (units_in here)) max_units) ∷
    ask 10 n (leb (length (rules_in here)) max_rules) ∷
    []

-- of these lines, numbered from n on, which stand after others
unfoldable pub line_questions : House → ℕ → List Content → List TextLine → List Question
line_questions h n before [] = []
line_questions h n before (l ∷ ls) =
    let x = content_of h l.bytes in
    questions_of h n before l x ++ line_questions h (suc n) (before ++ (x ∷ [])) ls

-- ---- the questions of a call

-- one of these for each lent room
pub record ListRooms (A : Type 0) : Type 0 where
  pub loader : A
  pub first : A
  pub last : A
  pub from : A
  pub to : A
  pub low : A
  pub high : A

abbrev pub rooms : {A : Type 0} → A → A → A → A → A → A → A → ListRooms A
rooms a b c d e f g = record { loader = a; first = b; last = c; from = d; to = e; low = f; high = g }

-- 12, for so many units and rules
abbrev pub lists_fit : ℕ → ℕ → ListRooms ℕ → Bool
lists_fit units rules sizes =
    leb units sizes.loader && ((leb units sizes.first && leb units sizes.last) &&
    ((leb rules sizes.from && leb rules sizes.to) && (leb rules sizes.low && leb rules sizes.high)))

-- rooms for as many units and rules as a sheet may have
abbrev pub rooms_for_all : ListRooms ℕ
rooms_for_all = rooms max_units max_units max_units max_rules max_rules max_rules max_rules

-- of every line, and then of the text: has it a sheet form?
abbrev pub pass_questions : House → List ℕ → List Question
pass_questions h text = line_questions h 1 [] (lines text) ++ (ask 5 0 (has_sheet (contents h (lines text))) ∷ [])

unfoldable pub questions : House → List ℕ → ListRooms ℕ → List Question
questions h text sizes =
    ask 1 0 (leb (length text) max_bytes) ∷
    (pass_questions h text ++ (ask 12 0 (lists_fit (length (sheet_in h text).units) (length (sheet_in h text).rules) sizes) ∷ []))

-- ---- the answer

-- a refusal by this question at this line, or a sheet with this span and so many units and rules
pub data Reply : Type 0 where
  refused : (number line : ℕ) → Reply
  read : (span units rules : ℕ) → Reply

-- the number and the values for each case of the reply
abbrev pub reply_of : Result Sheet Refusal → Reply
reply_of (Err f) = refused f.number f.line
reply_of (Ok s) = read s.span s.units s.rules

abbrev pub concluded : Verdict → WrittenSheet → Reply
concluded (no q n) s = refused q n
concluded all_yes s = read s.span (length s.units) (length s.rules)

unfoldable pub reading : House → List ℕ → ListRooms ℕ → Reply
reading h text sizes = concluded (first_no (questions h text sizes)) (sheet_in h text)
