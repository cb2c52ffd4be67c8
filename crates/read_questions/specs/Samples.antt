-- Texts of both houses read by the definitions alone: P2 of docs/RULES.md, and a refusal by each question that a short text can fail. Each claim is computed.
use Rattle.std.specs.Prelude.{ℕ, ◌+◌, ◌≡◌, refl, true, List, [], ◌∷◌, ◌++◌, map, replicate}
use Rattle.lists.specs.Lists.{joined}
use Rattle.sheet.specs.Sizes.{max_units}
use Rattle.sheet.specs.Questions.{is_new}
use Rattle.forms.specs.declared.House.{House}
use Rattle.forms.specs.declared.House.TheVariants.{Ours, Partner}
use Rattle.forms.specs.Words.{line_feed, space, opening, closing, zero_digit, open_note, text}
use Rattle.forms.specs.Form.{printable, leading, past, value_from, plain, written, matches, numbers}
use Rattle.forms.specs.Forms.{sheet_form, unit_form, rule_form}
use Rattle.read_notes.specs.Note.{matched}
use Rattle.forms.specs.Lines.{text_line, lines}
use Rattle.read_line.specs.Content.{Content, sheet, unit, note_matched, content_of}
use Rattle.read_questions.specs.Reading.{contents, has_sheet, span_in, units_in, rules_in, sheet_in, questions_of, line_questions, ListRooms, rooms, rooms_for_all}
use Rattle.questions.specs.Questions.{Verdict, no, first_no}
use Rattle.read_questions.specs.Reading.{questions, Reply, refused, read, reading}

-- ---- lines

abbrev digit : ℕ → List ℕ
digit n = (zero_digit + n) ∷ []

abbrev feed : List ℕ → List ℕ
feed w = w ++ (line_feed ∷ [])

abbrev sheet_line : List ℕ → List ℕ
sheet_line p = feed (written sheet_form (p ∷ []))

abbrev unit_line : List ℕ → List ℕ → List ℕ → List ℕ
unit_line k f l = feed (written unit_form (k ∷ f ∷ l ∷ []))

abbrev rule_line : List ℕ → List ℕ → List ℕ → List ℕ → List ℕ
rule_line a b lo hi = feed (written rule_form (a ∷ b ∷ lo ∷ hi ∷ []))

-- (note ..), (noted) and (note) with these bytes after the word
abbrev note_line : List ℕ → List ℕ
note_line w = feed (open_note ++ w)

abbrev letter : ℕ
letter = 97

abbrev tab : ℕ
tab = 9

-- ---- texts and their answers

pub record Sample : Type 0 where
  pub house : House
  pub text : List ℕ
  pub sizes : ListRooms ℕ
  pub answer : Reply

-- our lines, and those of the partner house, with rooms that are long enough
abbrev sample : List (List ℕ) → Reply → Sample
sample ls a = record { house = Ours; text = joined ls; sizes = rooms_for_all; answer = a }

abbrev partner : List (List ℕ) → Reply → Sample
partner ls a = record { house = Partner; text = joined (map feed ls); sizes = rooms_for_all; answer = a }

abbrev shown_sheet : List (List ℕ)
shown_sheet =
    sheet_line (digit 4) ∷ unit_line (digit 1) (digit 1) (digit 2) ∷ unit_line (digit 2) (digit 1) (digit 4) ∷
    rule_line (digit 1) (digit 2) (digit 1) (digit 1) ∷ rule_line (digit 2) (digit 3) (digit 1) (digit 1) ∷ rule_line (digit 3) (digit 4) (digit 1) (digit 1) ∷ []

abbrev partner_sheet : List (List ℕ)
partner_sheet =
    text "(day 7)" ∷ text "(note (sent) at noon)" ∷ text "(job 4017 (start 3) (hours 2))" ∷ text "(limit (from 1) (hours 3) (most 2))" ∷ []

-- after the span of 7
abbrev on_day : List ℕ → Reply → Sample
on_day l a = partner (text "(day 7)" ∷ l ∷ []) a

abbrev samples : List Sample
samples =
    sample shown_sheet (read 4 2 3) ∷
    -- 2: a tab in a note
    sample (sheet_line (digit 4) ∷ note_line (space ∷ tab ∷ closing ∷ []) ∷ []) (refused 2 2) ∷
    -- 11: a bracket that is open, and one too many
    sample (note_line (space ∷ opening ∷ letter ∷ closing ∷ []) ∷ []) (refused 11 1) ∷
    sample (note_line (space ∷ closing ∷ closing ∷ []) ∷ []) (refused 11 1) ∷
    -- 3: an empty line, a word that is not `(note`, a line without its line feed, a unit without its loader number
    sample ((line_feed ∷ []) ∷ []) (refused 3 1) ∷
    sample (note_line (letter ∷ closing ∷ []) ∷ []) (refused 3 1) ∷
    sample (note_line (closing ∷ []) ∷ written sheet_form (digit 4 ∷ []) ∷ []) (refused 3 2) ∷
    sample (sheet_line (digit 4) ∷ feed (text "(unit (window 1 2))") ∷ []) (refused 3 2) ∷
    -- 4: a loader number of five digits, and one with needless zeros
    sample (sheet_line (digit 4) ∷ unit_line (text "10000") (digit 1) (digit 2) ∷ []) (refused 4 2) ∷
    sample (sheet_line (digit 4) ∷ unit_line (text "0017") (digit 1) (digit 2) ∷ []) (refused 4 2) ∷
    -- 4 before 5: a needless zero in a rule before the sheet form
    sample (rule_line (digit 0 ++ digit 5) (digit 6) (digit 0) (digit 1) ∷ []) (refused 4 1) ∷
    -- 5 before 6: a second sheet form; and no sheet form at all
    sample (note_line (closing ∷ []) ∷ sheet_line (digit 4) ∷ sheet_line (digit 9 ++ digit 9) ∷ []) (refused 5 3) ∷
    sample [] (refused 5 0) ∷
    -- 6, 7, 8
    sample (sheet_line (digit 4 ++ digit 9) ∷ []) (refused 6 1) ∷
    sample (sheet_line (digit 4) ∷ unit_line (digit 1) (digit 4) (digit 3) ∷ []) (refused 7 2) ∷
    -- a window may end in the carried place; it may not begin there, nor end past it, and a rule may not end there
    sample (sheet_line (digit 4) ∷ unit_line (digit 1) (digit 4) (digit 5) ∷ []) (read 4 1 0) ∷
    sample (sheet_line (digit 4) ∷ unit_line (digit 1) (digit 5) (digit 5) ∷ []) (refused 7 2) ∷
    sample (sheet_line (digit 4) ∷ unit_line (digit 1) (digit 4) (digit 6) ∷ []) (refused 7 2) ∷
    sample (sheet_line (digit 4) ∷ rule_line (digit 1) (digit 5) (digit 0) (digit 1) ∷ []) (refused 7 2) ∷
    sample (sheet_line (digit 3) ∷ rule_line (digit 1) (digit 2) (digit 0) (digit 3 ++ (digit 0 ++ digit 1)) ∷ []) (refused 8 2) ∷
    -- 16: no loader number, and one that is on the line before; 7 before it
    sample (sheet_line (digit 4) ∷ unit_line (digit 0) (digit 1) (digit 2) ∷ []) (refused 16 2) ∷
    sample (sheet_line (digit 4) ∷ unit_line (digit 7) (digit 1) (digit 2) ∷ unit_line (digit 7) (digit 1) (digit 4) ∷ []) (refused 16 3) ∷
    sample (sheet_line (digit 4) ∷ unit_line (digit 0) (digit 4) (digit 3) ∷ []) (refused 7 2) ∷
    -- 12: a room that is too short
    record { house = Ours; text = joined shown_sheet; sizes = rooms 2 2 2 3 3 3 2; answer = refused 12 0 } ∷
    record { house = Ours; text = joined shown_sheet; sizes = rooms 1 2 2 3 3 3 3; answer = refused 12 0 } ∷
    []

abbrev partner_samples : List Sample
partner_samples =
    partner partner_sheet (read 7 1 1) ∷
    -- 3: one of our lines in a partner's sheet, and the other way round
    on_day (text "(unit 4017 (window 3 4))") (refused 3 2) ∷
    sample (sheet_line (digit 7) ∷ feed (text "(job 4017 (start 3) (hours 2))") ∷ []) (refused 3 2) ∷
    -- 4 before 5: a needless zero in a job before the day; and such a job without it
    partner (text "(job 4017 (start 3) (hours 02))" ∷ []) (refused 4 1) ∷
    partner (text "(job 4017 (start 3) (hours 2))" ∷ text "(day 7)" ∷ []) (refused 5 1) ∷
    -- 7: a job of no hours, also one without a start; a job may end on the day's last slot, and not past it; nor may a limit, nor be of no hours
    on_day (text "(job 4017 (start 3) (hours 0))") (refused 7 2) ∷
    on_day (text "(job 4017 (start 0) (hours 0))") (refused 7 2) ∷
    on_day (text "(job 4017 (start 7) (hours 1))") (read 7 1 0) ∷
    on_day (text "(job 4017 (start 7) (hours 2))") (refused 7 2) ∷
    on_day (text "(limit (from 1) (hours 8) (most 2))") (refused 7 2) ∷
    on_day (text "(limit (from 1) (hours 0) (most 2))") (refused 7 2) ∷
    -- 16, and 8
    on_day (text "(job 0 (start 3) (hours 2))") (refused 16 2) ∷
    partner (text "(day 7)" ∷ text "(job 9 (start 1) (hours 2))" ∷ text "(job 9 (start 3) (hours 2))" ∷ []) (refused 16 3) ∷
    on_day (text "(limit (from 1) (hours 3) (most 301))") (refused 8 2) ∷
    []

abbrev ReadAsSaid : List Sample → Type 0
ReadAsSaid ss = map (λ s. reading s.house s.text s.sizes) ss ≡ map (λ s. s.answer) ss

pub samples_read : ReadAsSaid samples × ReadAsSaid partner_samples
unfolding printable leading past value_from plain written matches numbers matched lines note_matched content_of
    contents has_sheet span_in units_in rules_in sheet_in line_questions questions first_no reading text is_new
samples_read = (refl, refl)

-- a unit with this loader number after as many units as a sheet may have, all with the number 1
abbrev one_unit_more : ℕ → Verdict
one_unit_more k =
    let one : ℕ → Content = λ j. unit [] j 1 1 in
    first_no (questions_of Ours 302 (sheet [] 4 ∷ replicate max_units (one 1)) (text_line [] true) (one k))

-- 16 before 9
pub number_before_units : (one_unit_more 1 ≡ no 16 302) × (one_unit_more 2 ≡ no 9 302)
unfolding printable has_sheet span_in units_in rules_in first_no is_new
number_before_units = (refl, refl)

-- the lists of P2
pub shown_lists :
    sheet_in Ours (joined shown_sheet) ≡ record {
      span = 4;
      units =
          record { loader = 1; window = record { first = 1; last = 2 } } ∷ record { loader = 2; window = record { first = 1; last = 4 } } ∷ [];
      rules =
          record { from = 1; to = 2; low = 1; high = 1 } ∷ record { from = 2; to = 3; low = 1; high = 1 } ∷
          record { from = 3; to = 4; low = 1; high = 1 } ∷ [];
    }
unfolding leading past value_from written matches numbers lines content_of contents span_in units_in rules_in sheet_in text
shown_lists = refl

-- a partner's lists: a job of two hours from slot 3 on is a window from 3 to 4, and a limit is a rule with no low
pub partner_lists :
    sheet_in Partner (joined (map feed partner_sheet)) ≡ record {
      span = 7;
      units = record { loader = 4017; window = record { first = 3; last = 4 } } ∷ [];
      rules = record { from = 1; to = 3; low = 0; high = 2 } ∷ [];
    }
unfolding leading past value_from matches numbers lines content_of contents span_in units_in rules_in sheet_in text
partner_lists = refl
