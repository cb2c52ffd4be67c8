-- What the code says of a line is what the definition of a line says.
-- Key idea: the numbers that reading meets are those of the line's form, one after the other, and so are their values (`values_are`). The questions in the
-- code's order are `line_of`, by the line's kind (`line_said_lem`, `line_unended`).
use Prim.Native.Nat.{ℕ, zero, suc, ◌+◌, ◌-◌, ◌≤◌, ◌<◌}
use Rattle.std.specs.Prelude.{Some, Result, Ok, Err}
use Rattle.std.specs.Option.{option_eq}
use mathlib.Core.Path.{◌≡◌, refl, sym, ap, ap₂, ◌∙◌}
use mathlib.Core.Bool.{Bool, true, false, ◌&&◌, cond, and-true, and_assoc}
use mathlib.Core.List.{List, [], ◌∷◌, map}
use native.Mathlib.Omega.{arith}
use native.Mathlib.Nat.{add-zero}
use lib.ListN.{length, get_or, set, drop, replicate, length-set, length-map}
use lib.Seq.{sets, get_or-set_same, get_or-set_other}
use lib.Dec.{eqb}
use borrow.Author.Tests.{eq-eqb, ne_eqb}
use Rattle.lists.specs.Lists.{every}
use Rattle.lists.specs.Members.{and_left, and_right}
use Rattle.forms.specs.Words.{text}
use Rattle.forms.specs.Form.{printable, plain, value, matches, numbers}
use Rattle.forms.specs.Forms.{note_form, short_note_form, span_form_of, unit_form_of, rule_form_of}
use Rattle.forms.specs.declared.House.{House}
use Rattle.forms.specs.declared.House.TheVariants.{Ours, Partner}
use Rattle.read_form.specs.Kinds.{kind_of}
use Rattle.read_form.specs.Grid.{code, ends, start}
use Rattle.read_form.specs.Met.{met, in_turn}
use Rattle.read_form.specs.MetLaws.{sheet_met, unit_met, rule_met}
use Rattle.read_form.specs.declared.Kind.{Kind}
use Rattle.read_notes.specs.Readers.{Rest, rest, unmatched, after_list, end_of, at_end}
use Rattle.read_notes.specs.ReaderLaws.{list_matched}
use Rattle.questions.specs.declared.Question.{Question}
use Rattle.questions.specs.declared.Question.TheVariants.{Printable, LineForm, PlainNumbers, NoteBrackets}
use Rattle.read_number.specs.Number.{max_number, read_value}
use Rattle.read_scan.specs.Scan.{valued, with_numbers, Small}
use Rattle.read_line.specs.Content.{note_matched, brackets_match, value_at, unit_said, rule_said, form_content, content_of}
use Rattle.read_line.specs.Line.{said, line_of}
use Rattle.read_line.specs.Said.{unit_by, rule_by, line_said, unended_fault}
use Rattle.read_line.specs.declared.Line.{Line}
use Rattle.read_line.specs.declared.Line.TheVariants.{Note, Sheet}

-- ---- a note's end

pub note_ends : (s : List ℕ) → 1 ≤ length s → option_eq eqb (end_of (length s) (after_list (drop 1 s) zero 1)) (Some (length s)) ≡ note_matched s
unfolding note_matched end_of
note_ends s h = go (after_list (drop 1 s) zero 1) ∙ list_matched (drop 1 s) zero
  where
    go : (o : Rest) → option_eq eqb (end_of (length s) o) (Some (length s)) ≡ at_end o
    go (rest []) = eq-eqb (length s - 0) (length s) (omega arith)
    go (rest (b ∷ r)) = ne_eqb (length s - suc (length r)) (length s) (λ m. omega arith)
    go unmatched = refl

-- ---- the values of a line's numbers

sets_before : (xs v : List ℕ) (n j : ℕ) → j < n → get_or (sets v n xs) j 0 ≡ get_or v j 0
sets_before [] v n j h = refl
sets_before (x ∷ xs) v n j h = sets_before xs (set v n x) (suc n) j (omega arith) ∙ get_or-set_other v n j x 0 (λ e. omega arith)

sets_at : (xs v : List ℕ) (n i : ℕ) → n + length xs ≤ length v → i < length xs → get_or (sets v n xs) (n + i) 0 ≡ get_or xs i 0
sets_at [] v n i h l = absurd (omega arith)
sets_at (x ∷ xs) v n zero h l =
    ap (λ k. get_or (sets (set v n x) (suc n) xs) k 0) (add-zero n) ∙ sets_before xs (set v n x) (suc n) n (omega arith)
    ∙ get_or-set_same v n x 0 (omega arith)
sets_at (x ∷ xs) v n (suc i) h l =
    let e : n + suc i ≡ suc n + i = omega arith in
    ap (λ k. get_or (sets (set v n x) (suc n) xs) k 0) e ∙ sets_at xs (set v n x) (suc n) i (omega (arith, length-set v n x)) (omega arith)

turn_values : (n : ℕ) (ds : List (List ℕ)) (v : List ℕ) (p : Bool) →
    with_numbers (valued v p) (in_turn (ends + n) ds) ≡ valued (sets v n (map read_value ds)) (p && every plain ds)
unfolding with_numbers
turn_values n [] v p = ap (valued v) (sym (and-true p))
turn_values n (d ∷ ds) v p =
    let e : ends + n - ends ≡ n = omega arith in
    let f : suc (ends + n) ≡ ends + suc n = omega arith in
    ap₂ (λ (k : ℕ) (q : ℕ). with_numbers (valued (set v k (read_value d)) (p && plain d)) (in_turn q ds)) e f
    ∙ turn_values (suc n) ds (set v n (read_value d)) (p && plain d)
    ∙ ap (valued (sets (set v n (read_value d)) (suc n) (map read_value ds))) (and_assoc p (plain d) (every plain ds))

read_at : (ds : List (List ℕ)) (i : ℕ) → every plain ds ≡ true → i < length ds → get_or (map read_value ds) i 0 ≡ value_at ds i
read_at [] i h l = absurd (omega arith)
read_at (d ∷ ds) zero h l = ap (λ (b : Bool). cond b (value d) 0) (and_left (plain d) (every plain ds) h)
read_at (d ∷ ds) (suc i) h l = read_at ds i (and_right (plain d) (every plain ds) h) (omega arith)

-- numbers that were met in turn from the n-th on
module _ (n : ℕ) (ds : List (List ℕ)) (before v : List ℕ) (p : Bool) (fits : n + length ds ≤ length before)
    (e : valued v p ≡ with_numbers (valued before true) (in_turn (ends + n) ds)) where
  whole : valued v p ≡ valued (sets before n (map read_value ds)) (every plain ds)
  whole = e ∙ turn_values n ds before true

  plain_is : p ≡ every plain ds
  plain_is = ap (λ w. w.plain) whole

  value_is : every plain ds ≡ true → (i : ℕ) → i < length ds → get_or v (n + i) 0 ≡ value_at ds i
  value_is h i l =
      ap (λ w. get_or w.values (n + i) 0) whole
      ∙ sets_at (map read_value ds) before n i (omega (arith, length-map ds read_value)) (omega (arith, length-map ds read_value)) ∙ read_at ds i h l

  -- what the code says by the values it says by the digits
  values_are : (x y : Line) → (every plain ds ≡ true → x ≡ y) → cond p (Ok x) (Err PlainNumbers) ≡ cond (every plain ds) (Ok y) (Err PlainNumbers)
  values_are x y h = ap (λ (b : Bool). cond b (Ok x) (Err PlainNumbers)) plain_is ∙ go (every plain ds) refl
    where
      go : (b : Bool) → every plain ds ≡ b → cond b (Ok x) (Err PlainNumbers) ≡ cond b (Ok y) (Err PlainNumbers)
      go true k = ap Ok (h k)
      go false k = refl

unit_said_lem : (h : House) (ds : List (List ℕ)) → said (unit_said h ds) ≡ cond (every plain ds) (Ok (unit_by h (value_at ds 0) (value_at ds 1) (value_at ds 2))) (Err PlainNumbers)
unfolding said
unit_said_lem Ours ds = refl
unit_said_lem Partner ds = refl

rule_said_lem : (h : House) (ds : List (List ℕ)) →
    said (rule_said h ds) ≡ cond (every plain ds) (Ok (rule_by h (value_at ds 0) (value_at ds 1) (value_at ds 2) (value_at ds 3))) (Err PlainNumbers)
unfolding said
rule_said_lem Ours ds = refl
rule_said_lem Partner ds = refl

-- ---- the questions of a line in their order

-- with its line feed, by its kind
abbrev ended : House → Kind → List ℕ → Result Line Question
ended h Kind.Unprintable l = Err Printable
ended h Kind.Note l = cond (note_matched l) (Ok Note) (Err NoteBrackets)
ended h Kind.Sheet l = said (form_content h Kind.Sheet l)
ended h Kind.Unit l = said (form_content h Kind.Unit l)
ended h Kind.Rule l = said (form_content h Kind.Rule l)
ended h Kind.Other l = Err LineForm

module _ (h : House) (l : List ℕ) where
  by_kind : line_of h l true ≡ ended h (kind_of h l) l
  unfolding line_of content_of kind_of said
  by_kind = go (printable l) (matches note_form l) (matches short_note_form l) (matches (span_form_of h) l) (matches (unit_form_of h) l) (matches (rule_form_of h) l)
    where
      line : Bool → Kind → Result Line Question
      line p k = cond p (cond (brackets_match (form_content h k l) l) (said (form_content h k l)) (Err NoteBrackets)) (Err Printable)

      unit : (h : House) → cond (brackets_match (form_content h Kind.Unit l) l) (said (form_content h Kind.Unit l)) (Err NoteBrackets) ≡ ended h Kind.Unit l
      unit Ours = refl
      unit Partner = refl

      rule : (h : House) → cond (brackets_match (form_content h Kind.Rule l) l) (said (form_content h Kind.Rule l)) (Err NoteBrackets) ≡ ended h Kind.Rule l
      rule Ours = refl
      rule Partner = refl

      go : (p m n s u r : Bool) → let k = cond m Kind.Note (cond n Kind.Note (cond s Kind.Sheet (cond u Kind.Unit (cond r Kind.Rule Kind.Other)))) in
          line p k ≡ ended h (cond p k Kind.Unprintable) l
      go false m n s u r = refl
      go true true n s u r = refl
      go true false true s u r = refl
      go true false false true u r = refl
      go true false false false true r = unit h
      go true false false false false true = rule h
      go true false false false false false = refl

  pub line_unended : ◌≡◌ {A = Result Line Question} (Err (unended_fault (kind_of h l) l)) (line_of h l false)
  unfolding line_of content_of kind_of
  line_unended = go (printable l) (matches note_form l) (matches short_note_form l) (matches (span_form_of h) l) (matches (unit_form_of h) l)
      (matches (rule_form_of h) l)
    where
      noted : (b : Bool) → ◌≡◌ {A = Result Line Question} (Err (cond b LineForm NoteBrackets)) (cond b (Err LineForm) (Err NoteBrackets))
      noted true = refl
      noted false = refl

      unit : (h : House) →
          ◌≡◌ {A = Result Line Question} (Err LineForm) (cond (brackets_match (form_content h Kind.Unit l) l) (Err LineForm) (Err NoteBrackets))
      unit Ours = refl
      unit Partner = refl

      rule : (h : House) →
          ◌≡◌ {A = Result Line Question} (Err LineForm) (cond (brackets_match (form_content h Kind.Rule l) l) (Err LineForm) (Err NoteBrackets))
      rule Ours = refl
      rule Partner = refl

      go : (p m n s u r : Bool) → let k = cond m Kind.Note (cond n Kind.Note (cond s Kind.Sheet (cond u Kind.Unit (cond r Kind.Rule Kind.Other)))) in
          ◌≡◌ {A = Result Line Question} (Err (unended_fault (cond p k Kind.Unprintable) l))
          (cond p (cond (brackets_match (form_content h k l) l) (Err LineForm) (Err NoteBrackets)) (Err Printable))
      go false m n s u r = refl
      go true true n s u r = noted (note_matched l)
      go true false true s u r = noted (note_matched l)
      go true false false true u r = refl
      go true false false false true r = unit h
      go true false false false false true = rule h
      go true false false false false false = refl

empty_kind : (h : House) → kind_of h [] ≡ Kind.Other
unfolding kind_of matches printable text
empty_kind Ours = refl
empty_kind Partner = refl

-- a note has bytes
pub note_bytes : (h : House) (l : List ℕ) → kind_of h l ≡ Kind.Note → 1 ≤ length l
note_bytes h [] e = absurd (omega (arith, ap code (sym (empty_kind h) ∙ e)))
note_bytes h (b ∷ l) e = omega arith

-- ---- what the code says by the values

-- how many numbers a line of each form has
sheet_numbers : (h : House) (l : List ℕ) → length (numbers (span_form_of h) l) ≡ 1
unfolding numbers
sheet_numbers Ours l = refl
sheet_numbers Partner l = refl

unit_numbers_lem : (h : House) (l : List ℕ) → length (numbers (unit_form_of h) l) ≡ 3
unfolding numbers
unit_numbers_lem Ours l = refl
unit_numbers_lem Partner l = refl

rule_numbers_lem : (h : House) (l : List ℕ) → (3 ≤ length (numbers (rule_form_of h) l)) × (length (numbers (rule_form_of h) l) ≤ 4)
unfolding numbers
rule_numbers_lem Ours l = (omega arith, omega arith)
rule_numbers_lem Partner l = (omega arith, omega arith)

-- ours has one more
four : (l : List ℕ) → length (numbers (rule_form_of Ours) l) ≡ 4
unfolding numbers
four l = refl

module _ (h : House) (l before v : List ℕ) (p : Bool) (room : length before ≡ 8) (e : valued v p ≡ with_numbers (valued before true) (met h start l)) where
  sheet_line_lem : kind_of h l ≡ Kind.Sheet → cond p (Ok (Sheet (get_or v 0 0))) (Err PlainNumbers) ≡ said (form_content h Kind.Sheet l)
  unfolding said
  sheet_line_lem k =
      let ds = numbers (span_form_of h) l in
      let n = sheet_numbers h l in
      let there : valued v p ≡ with_numbers (valued before true) (in_turn (ends + 0) ds) = e ∙ ap (with_numbers (valued before true)) (sheet_met h l k) in
      let fits : 0 + length ds ≤ length before = omega (arith, n) in
      values_are 0 ds before v p fits there _ _ (λ t. ap Sheet (value_is 0 ds before v p fits there t 0 (omega (arith, n))))

  unit_line_lem : kind_of h l ≡ Kind.Unit → cond p (Ok (unit_by h (get_or v 1 0) (get_or v 2 0) (get_or v 3 0))) (Err PlainNumbers) ≡ said (form_content h Kind.Unit l)
  unit_line_lem k =
      let ds = numbers (unit_form_of h) l in
      let n = unit_numbers_lem h l in
      let there : valued v p ≡ with_numbers (valued before true) (in_turn (ends + 1) ds) = e ∙ ap (with_numbers (valued before true)) (unit_met h l k) in
      let fits : 1 + length ds ≤ length before = omega (arith, n) in
      let at = value_is 1 ds before v p fits there in
      values_are 1 ds before v p fits there _ _ (λ t. ap₂ (λ (a b : ℕ). unit_by h a b (get_or v 3 0)) (at t 0 (omega (arith, n))) (at t 1 (omega (arith, n)))
      ∙ ap (unit_by h (value_at ds 0) (value_at ds 1)) (at t 2 (omega (arith, n)))) ∙ sym (unit_said_lem h ds)

  rule_line_lem : kind_of h l ≡ Kind.Rule → cond p (Ok (rule_by h (get_or v 4 0) (get_or v 5 0) (get_or v 6 0) (get_or v 7 0))) (Err PlainNumbers) ≡ said (form_content h Kind.Rule l)
  rule_line_lem k =
      let ds = numbers (rule_form_of h) l in
      let n = rule_numbers_lem h l in
      let there : valued v p ≡ with_numbers (valued before true) (in_turn (ends + 4) ds) = e ∙ ap (with_numbers (valued before true)) (rule_met h l k) in
      let fits : 4 + length ds ≤ length before = omega (arith, n.1) in
      let at = value_is 4 ds before v p fits there in
      values_are 4 ds before v p fits there _ _ (λ t. ap₂ (λ (a b : ℕ). rule_by h a b (get_or v 6 0) (get_or v 7 0)) (at t 0 (omega (
        arith,
        n.0,
      ))) (at t 1 (omega (arith, n.0)))
      ∙ ap (λ c. rule_by h (value_at ds 0) (value_at ds 1) c (get_or v 7 0)) (at t 2 (omega (arith, n.0))) ∙ last h t at) ∙ sym (rule_said_lem h ds)
    where
      last : (h : House) → every plain (numbers (rule_form_of h) l) ≡ true → ((t : every plain (numbers (rule_form_of h) l) ≡ true) (i : ℕ)
          → i < length (numbers (rule_form_of h) l) → get_or v (4 + i) 0 ≡ value_at (numbers (rule_form_of h) l) i) →
          let ds = numbers (rule_form_of h) l in
          rule_by h (value_at ds 0) (value_at ds 1) (value_at ds 2) (get_or v 7 0) ≡ rule_by h (value_at ds 0) (value_at ds 1) (value_at ds 2) (value_at ds 3)
      last Ours t at = ap (rule_by Ours _ _ _) (at t 3 (omega (arith, four l)))
      last Partner t at = refl

  pub line_said_lem : (k : Kind) → k ≡ kind_of h l → line_said h k p v l ≡ line_of h l true
  line_said_lem k is = go k is ∙ sym (by_kind h l)
    where
      go : (k : Kind) → k ≡ kind_of h l → line_said h k p v l ≡ ended h (kind_of h l) l
      go Kind.Unprintable is = ap (λ j. ended h j l) is
      go Kind.Note is = ap (λ j. ended h j l) is
      go Kind.Sheet is = sheet_line_lem (sym is) ∙ ap (λ j. ended h j l) is
      go Kind.Unit is = unit_line_lem (sym is) ∙ ap (λ j. ended h j l) is
      go Kind.Rule is = rule_line_lem (sym is) ∙ ap (λ j. ended h j l) is
      go Kind.Other is = ap (λ j. ended h j l) is

-- before a line is read every value is 0
pub zeros_small : Small (replicate 8 0)
zeros_small = record { each = λ i. zero_at 8 i }
  where
    zero_at : (n i : ℕ) → get_or (replicate n 0) i 0 ≤ max_number
    zero_at zero i = omega arith
    zero_at (suc n) zero = omega arith
    zero_at (suc n) (suc i) = zero_at n i
