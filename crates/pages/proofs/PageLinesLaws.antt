-- What is read on a page is what was written on it.
-- Key idea: each line is a form written out with the digits of its numbers and ended by a line feed. A form written out matches itself and gives its
-- numbers back, a line without a line feed inside is found again, and each form differs from an earlier one at a word, which is one computed test (`clear`).
-- So one law, `says`, reads every line. A carried unit's slot is past the span, so it is in the count of no slot line.
use Rattle.std.specs.Prelude.{◌≡◌, Bool, ◌&&◌, cond, ℕ, zero, suc, ◌+◌, ◌-◌, ◌≤◌, T, eqb, leb, ltb, length, get_or, neg_ℤ}
use Rattle.std.proofs.Math.Path.{refl, ap}
use Rattle.std.proofs.Common.{sym, ap₂, ◌∙◌, arith, ne_eqb, leb-false}
use Rattle.std.proofs.Math.Bool.{true, false}
use mathlib.Core.List.{List, [], ◌∷◌, ◌++◌, map, append_assoc, append-nil}
use Rattle.lists.specs.Members.{left, right, is_true}
use Rattle.lists.specs.Values.{list_of_is, values_same}
use Rattle.lists.specs.Lists.{run, from_to, how_many, one_if, joined}
use Rattle.integers.specs.Parts.{up}
use Rattle.network.specs.Network.{Weights}
use Rattle.forms.specs.Words.{line_feed, text}
use Rattle.forms.specs.Form.{Piece, printable, numbers, value}
use Rattle.forms.specs.FormLaws.{Suits, separated, written_matches, forms_apart, apart_unmatched}
use Rattle.forms.specs.Decimal.{digits, spell, form_line}
use Rattle.forms.specs.DecimalLaws.{values_digits, numbers_in, suits_digits}
use Rattle.forms.specs.Lines.{lines}
use Rattle.forms.specs.WrittenLines.{words_printable, written_printable, next_line}
use Rattle.print_bytes.specs.Writing.{Room, Written, plan_head, unit_line, carried_line, slot_line, fits_head, range_line}
use Rattle.print_bytes.specs.Writing.{none_head, at_most_line, at_least_line, shortfall_line, refused_line}
use Rattle.print_bytes.proofs.WritingLaws.{written_part}
use Rattle.pages.specs.Page.{placed_line, unit_line_at, unit_lines, slot_line_at, slot_lines, units_at, plan_page}
use Rattle.pages.specs.Page.{range_line_at, range_lines, fits_page, step_line, step_lines, ring_lines, shortfall_of, none_page}
use Rattle.pages.specs.PageLines.{Said, plan, unit, carried, slot, fits, range, none, at_most, at_least, shortfall, refused, other}
use Rattle.pages.specs.PageLines.{Reading, reading, readings, read_by, read_line, said_by, read_lines, answer_on, is_unit_with, unit_lines_with}
use Rattle.pages.specs.PageLines.{unit_said, slot_said, range_said, step_said, steps_said, ring_said}

-- ---- lines

-- a line that says s
pub record Says (line : List ℕ) (s : Said) : Type 0 where
  pub bytes : List ℕ
  pub ended : line ≡ bytes ++ (line_feed ∷ [])
  pub whole : T (printable bytes)
  pub read : read_line bytes ≡ s

read_next : {line : List ℕ} {s : Said} (t : List ℕ) → Says line s → read_lines (line ++ t) ≡ s ∷ read_lines t
unfolding read_lines
read_next {line} {s} t l =
    ap (λ r. map said_by (lines r)) (ap (λ r. r ++ t) l.ended ∙ append_assoc l.bytes (line_feed ∷ []) t)
    ∙ ap (map said_by) (next_line l.bytes t l.whole)
    ∙ ap (λ r. r ∷ map said_by (lines t)) l.read

-- ---- a form, read by the first reading that has it

abbrev nth : List Reading → ℕ → Reading
nth [] i = reading [] (λ n. other)
nth (r ∷ rs) zero = r
nth (r ∷ rs) (suc i) = nth rs i

-- a form whose lines are read back: words end its numbers, and they are printable, so that no line feed stands in a line
abbrev sound : List Piece → Bool
sound f = separated f && words_printable f

-- the form at a place is one, and differs from each earlier one at a word
abbrev clear : List Reading → ℕ → Bool
clear [] i = false
clear (r ∷ rs) zero = sound r.form
clear (r ∷ rs) (suc i) = forms_apart r.form (nth rs i).form && clear rs i

clear_sound : (rs : List Reading) (i : ℕ) → T (clear rs i) → T (sound (nth rs i).form)
clear_sound [] i h = absurd h
clear_sound (r ∷ rs) zero h = h
clear_sound (r ∷ rs) (suc i) h = clear_sound rs i (right (forms_apart r.form (nth rs i).form) (clear rs i) h)

clear_separated : (rs : List Reading) (i : ℕ) → T (clear rs i) → separated (nth rs i).form ≡ true
clear_separated rs i h = let f = (nth rs i).form in is_true (separated f) (left (separated f) (words_printable f) (clear_sound rs i h))

clear_printable : (rs : List Reading) (i : ℕ) → T (clear rs i) → T (words_printable (nth rs i).form)
clear_printable rs i h = let f = (nth rs i).form in right (separated f) (words_printable f) (clear_sound rs i h)

reads : (rs : List Reading) (i : ℕ) (ns : List ℕ) → T (clear rs i) → Suits (nth rs i).form (map digits ns)
    → read_by rs (spell (nth rs i).form ns) ≡ (nth rs i).says (λ j. get_or ns j 0)
unfolding read_by
reads [] i ns h s = absurd h
reads (r ∷ rs) zero ns h s =
    let f = written_matches r.form (map digits ns) (clear_separated (r ∷ rs) zero h) s in
    ap₂ (λ m v. cond m (r.says (λ i. get_or (map value v) i 0)) (read_by rs (spell r.form ns))) f.matched f.found
    ∙ ap (λ v. r.says (λ i. get_or v i 0)) (values_digits ns)
reads (r ∷ rs) (suc i) ns h s =
    let l = spell (nth rs i).form ns in
    let differs = forms_apart r.form (nth rs i).form in
    let later = right differs (clear rs i) h in
    ap (λ m. cond m (r.says (λ i. get_or (map value (numbers r.form l)) i 0)) (read_by rs l))
    (apart_unmatched r.form (nth rs i).form (map digits ns) (left differs (clear rs i) h) (clear_separated rs i later) s)
    ∙ reads rs i ns later s

-- the line of the form at place i of the readings says what that reading has it say
says : (i : ℕ) (ns : List ℕ) → T (clear readings i) → length ns ≡ numbers_in (nth readings i).form
    → Says (form_line (nth readings i).form ns) ((nth readings i).says (λ j. get_or ns j 0))
says i ns h e =
    let s = suits_digits (nth readings i).form ns e in
    record {
      bytes = spell (nth readings i).form ns;
      ended = refl;
      whole = written_printable (nth readings i).form (map digits ns) (clear_printable readings i h) s;
      read = reads readings i ns h s;
    }

plan_says : (n : ℕ) → Says (plan_head n) (plan n)
unfolding plan_head text printable
plan_says n = says 0 (n ∷ []) tt refl

unit_says : (a b c d : ℕ) → Says (unit_line a b c d) (unit a b c d)
unfolding unit_line text printable
unit_says a b c d = says 1 (a ∷ b ∷ c ∷ d ∷ []) tt refl

carried_says : (a b c : ℕ) → Says (carried_line a b c) (carried a b c)
unfolding carried_line text printable
carried_says a b c = says 2 (a ∷ b ∷ c ∷ []) tt refl

slot_says : (a b c d : ℕ) → Says (slot_line a b c d) (slot a b c d)
unfolding slot_line text printable
slot_says a b c d = says 3 (a ∷ b ∷ c ∷ d ∷ []) tt refl

fits_says : (n : ℕ) → Says (fits_head n) (fits n)
unfolding fits_head text printable
fits_says n = says 4 (n ∷ []) tt refl

range_says : (a b c : ℕ) → Says (range_line a b c) (range a b c)
unfolding range_line text printable
range_says a b c = says 5 (a ∷ b ∷ c ∷ []) tt refl

none_says : Says none_head none
unfolding none_head text printable
none_says = says 6 [] tt refl

at_most_says : (a b c : ℕ) → Says (at_most_line a b c) (at_most a b c)
unfolding at_most_line text printable
at_most_says a b c = says 7 (a ∷ b ∷ c ∷ []) tt refl

at_least_says : (a b c : ℕ) → Says (at_least_line a b c) (at_least a b c)
unfolding at_least_line text printable
at_least_says a b c = says 8 (a ∷ b ∷ c ∷ []) tt refl

shortfall_says : (n : ℕ) → Says (shortfall_line n) (shortfall n)
unfolding shortfall_line text printable
shortfall_says n = says 9 (n ∷ []) tt refl

refused_says : (q n : ℕ) → Says (refused_line q n) (refused q n)
unfolding refused_line text printable
refused_says q n = says 10 (q ∷ n ∷ []) tt refl

-- ---- the page of a plan, read

how_many_append : {A : Type 0} (t : A → Bool) (xs ys : List A) → how_many t (xs ++ ys) ≡ how_many t xs + how_many t ys
how_many_append t [] ys = omega arith
how_many_append t (x ∷ xs) ys = omega (arith, how_many_append t xs ys)

-- lines one after another, and then more
read_lines_lem : (f : ℕ → List ℕ) (g : ℕ → Said) → ((j : ℕ) → Says (f j) (g j)) → (i k : ℕ) (t : List ℕ)
    → read_lines (joined (map f (run i k)) ++ t) ≡ map g (run i k) ++ read_lines t
read_lines_lem f g says i zero t = refl
read_lines_lem f g says i (suc k) t =
    ap read_lines (append_assoc (f i) (joined (map f (run (suc i) k))) t)
    ∙ read_next (joined (map f (run (suc i) k)) ++ t) (says i)
    ∙ ap (λ ls. g i ∷ ls) (read_lines_lem f g says (suc i) k t)

read_nothing : read_lines [] ≡ []
unfolding read_lines lines
read_nothing = refl

placed_says : (span k x e l : ℕ) → Says (placed_line span k x e l) (cond (leb x span) (unit k x e l) (carried k e l))
unfolding placed_line
placed_says span k x e l = go (leb x span)
  where
    go : (b : Bool) → Says (cond b (unit_line k x e l) (carried_line k e l)) (cond b (unit k x e l) (carried k e l))
    go true = unit_says k x e l
    go false = carried_says k e l

-- the unit lines with a slot are as many as the units that have it
module _ (span : ℕ) (loaders slots first last count low high : ℕ → ℕ) where
  abbrev said_of : ℕ → Said
  said_of = unit_said span loaders slots first last

  unit_counted : (t j : ℕ) → t ≤ span → is_unit_with t (said_of j) ≡ eqb t (slots j)
  unit_counted t j h = go (leb (slots j) span) refl
    where
      go : (b : Bool) → leb (slots j) span ≡ b
          → is_unit_with t (cond b (unit (loaders j) (slots j) (first j) (last j)) (carried (loaders j) (first j) (last j))) ≡ eqb t (slots j)
      go true e = refl
      go false e = sym (ne_eqb t (slots j) (λ z. omega (arith, leb-false (slots j) span e)))

  units_counted : (t i k : ℕ) → t ≤ span → how_many (is_unit_with t) (map said_of (run i k)) ≡ how_many (eqb t) (map slots (run i k))
  units_counted t i zero h = refl
  units_counted t i (suc k) h = ap₂ (λ b n. one_if b + n) (unit_counted t i h) (units_counted t (suc i) k h)

  no_units : (t i k : ℕ) → how_many (is_unit_with t) (map (slot_said count low high) (run i k)) ≡ 0
  no_units t i zero = refl
  no_units t i (suc k) = omega (arith, no_units t (suc i) k)

  pub lines_counted : (t m n i k : ℕ) → t ≤ span
      → unit_lines_with t (plan m ∷ (map said_of (run 0 n) ++ map (slot_said count low high) (run i k))) ≡ how_many (eqb t) (map slots (run 0 n))
  lines_counted t m n i k h =
      omega (
        arith,
        how_many_append (is_unit_with t) (map said_of (run 0 n)) (map (slot_said count low high) (run i k)),
        units_counted t 0 n h,
        no_units t i k,
      )

module _ (span : ℕ) (loaders slots first last : List ℕ) (low high : ℕ → ℕ) where
  abbrev page : List ℕ
  page = plan_page span loaders slots first last low high

  abbrev of_unit : ℕ → Said
  of_unit = unit_said span (λ j. get_or loaders j 0) (λ j. get_or slots j 0) (λ j. get_or first j 0) (λ j. get_or last j 0)

  abbrev of_slot : (ℕ → ℕ) → ℕ → Said
  of_slot count = slot_said count low high

  -- the lines with the counts of the plan
  counted_read : read_lines page ≡ plan (length slots) ∷ (map of_unit (run 0 (length slots)) ++ map (of_slot (units_at slots)) (from_to 1 span))
  unfolding plan_page unit_lines unit_line_at slot_lines slot_line_at
  counted_read =
      read_next (joined (unit_lines span loaders slots first last ∷ slot_lines span (units_at slots) low high ∷ [])) (plan_says (length slots))
      ∙ ap (λ ls. plan (length slots) ∷ ls)
      (read_lines_lem (unit_line_at span loaders slots first last) of_unit
      (λ j. placed_says span (get_or loaders j 0) (get_or slots j 0) (get_or first j 0) (get_or last j 0)) 0 (length slots)
      (joined (slot_lines span (units_at slots) low high ∷ []))
      ∙ ap (λ ls. map of_unit (run 0 (length slots)) ++ ls)
      (read_lines_lem (slot_line_at (units_at slots) low high) (of_slot (units_at slots)) (λ t. slot_says t (units_at slots t) (low t) (high t)) 1 (suc span - 1) []
      ∙ ap (λ ls. map (of_slot (units_at slots)) (from_to 1 span) ++ ls) read_nothing ∙ append-nil (map (of_slot (units_at slots)) (from_to 1 span))))

  lines_with : (t : ℕ) → t ≤ span → unit_lines_with t (read_lines page) ≡ units_at slots t
  lines_with t h =
      ap (unit_lines_with t) counted_read
      ∙ lines_counted span (λ j. get_or loaders j 0) (λ j. get_or slots j 0) (λ j. get_or first j 0) (λ j. get_or last j 0) (units_at slots) low high
      t (length slots) (length slots) 1 (suc span - 1) h
      ∙ sym (ap (how_many (eqb t)) (list_of_is (λ j. get_or slots j 0) 0 (length slots) slots refl (λ j h. refl)))

  -- The lines of the page, all of them: the head with the number of units; the units in their order; the slots in theirs, each with the number of these
  -- very lines that give a unit this slot.
  pub plan_read : read_lines page
      ≡ plan (length slots) ∷ (map of_unit (run 0 (length slots)) ++ map (of_slot (λ t. unit_lines_with t (read_lines page))) (from_to 1 span))
  plan_read =
      counted_read
      ∙ ap (λ ls. plan (length slots) ∷ (map of_unit (run 0 (length slots)) ++ ls))
      (values_same (of_slot (units_at slots)) (of_slot (λ t. unit_lines_with t (read_lines page))) 1 (suc span - 1)
      (λ t l h. ap (λ c. slot t c (low t) (high t)) (sym (lines_with t (omega arith)))))

-- ---- the page of a sheet that fits, read

-- the head with the number of units, and the slots in their order, each with its least and greatest count
pub fits_read : (span n : ℕ) (low high : ℕ → ℕ) → read_lines (fits_page span n low high) ≡ fits n ∷ map (range_said low high) (from_to 1 span)
unfolding fits_page range_lines range_line_at
fits_read span n low high =
    read_next (joined (range_lines span low high ∷ [])) (fits_says n)
    ∙ ap (λ ls. fits n ∷ ls)
    (read_lines_lem (range_line_at low high) (range_said low high) (λ t. range_says t (low t) (high t)) 1 (suc span - 1) []
    ∙ ap (λ ls. map (range_said low high) (from_to 1 span) ++ ls) read_nothing ∙ append-nil (map (range_said low high) (from_to 1 span)))

-- ---- the page of a ring, read
module _ (d : Weights) where
  step_says : (a b : ℕ) → Says (step_line d a b) (step_said d a b)
  unfolding step_line
  step_says a b = go (ltb a b)
    where
      go : (c : Bool) → Says (cond c (at_most_line (up (d a b)) (suc a) b) (at_least_line (up (neg_ℤ (d a b))) (suc b) a))
          (cond c (at_most (up (d a b)) (suc a) b) (at_least (up (neg_ℤ (d a b))) (suc b) a))
      go true = at_most_says (up (d a b)) (suc a) b
      go false = at_least_says (up (neg_ℤ (d a b))) (suc b) a

  read_steps : (a : ℕ) (bs : List ℕ) (e : ℕ) (t : List ℕ) → read_lines (joined (step_lines d a bs e) ++ t) ≡ steps_said d a bs e ++ read_lines t
  unfolding step_lines
  read_steps a [] e t = ap read_lines (append_assoc (step_line d a e) [] t) ∙ read_next t (step_says a e)
  read_steps a (b ∷ bs) e t =
      ap read_lines (append_assoc (step_line d a b) (joined (step_lines d b bs e)) t)
      ∙ read_next (joined (step_lines d b bs e) ++ t) (step_says a b)
      ∙ ap (λ ls. step_said d a b ∷ ls) (read_steps b bs e t)

  read_ring : (ring : List ℕ) (t : List ℕ) → read_lines (joined (ring_lines d ring) ++ t) ≡ ring_said d ring ++ read_lines t
  unfolding ring_lines
  read_ring [] t = refl
  read_ring (a ∷ bs) t = read_steps a bs a t

  -- the head, the ring's steps from its first boundary on, and the shortfall
  pub none_read : (ring : List ℕ) → read_lines (none_page d ring) ≡ none ∷ (ring_said d ring ++ (shortfall (shortfall_of d ring) ∷ []))
  unfolding none_page
  none_read ring =
      read_next (joined (joined (ring_lines d ring) ∷ shortfall_line (shortfall_of d ring) ∷ [])) none_says
      ∙ ap (λ ls. none ∷ ls)
      (read_ring ring (joined (shortfall_line (shortfall_of d ring) ∷ []))
      ∙ ap (λ ls. ring_said d ring ++ ls) (read_next [] (shortfall_says (shortfall_of d ring)) ∙ ap (λ ls. shortfall (shortfall_of d ring) ∷ ls) read_nothing))

-- ---- the page of a refusal, read
pub refused_read : (q n : ℕ) → read_lines (refused_line q n) ≡ refused q n ∷ []
refused_read q n =
    ap read_lines (sym (append-nil (refused_line q n))) ∙ read_next [] (refused_says q n) ∙ ap (λ ls. refused q n ∷ ls) read_nothing

-- ---- the answer on a page that was written on: its own lines, and nothing that stood there before
pub answer_read : {page : List ℕ} {at : ℕ} {bytes left : List ℕ} {next : ℕ} → Room page at bytes → Written page at bytes left next
    → answer_on left at next ≡ read_lines bytes
unfolding answer_on
answer_read room w = ap read_lines (written_part room w)
