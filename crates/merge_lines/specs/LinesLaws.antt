-- A line that was found stands in its text; and where the merge's questions are all yes, the place of a loader number among the units of both is that of its
-- line among the lines of units of both.
-- Key idea: a text has as many lines of units as its sheet has units, so that a place past the first's units is one of the second's.
use Rattle.std.specs.Prelude.{ℕ, suc, ◌+◌, ◌-◌, ◌≤◌, ◌≡◌, Bool, ◌||◌, cond, eqb, ltb, Result, Ok, Err}
use Rattle.std.proofs.Math.Path.{refl, ap, ap₂}
use Rattle.std.proofs.Common.{sym, ◌∙◌, arith, zero-add}
use Rattle.std.proofs.Math.Bool.{true, false}
use mathlib.Core.List.{List, [], ◌∷◌, ◌++◌, map-append}
use Rattle.std.proofs.Math.Dec.{leb, leb→le, leb-suc-suc}
use Rattle.std.proofs.Math.ListN.{length}
use Rattle.std.proofs.lemmas.List.{length-map}
use borrow.Author.Tests.{lt-ltb, ltb-true, ltb-false}
use Rattle.lists.specs.Lists.{member}
use Rattle.lists.specs.Members.{left}
use Rattle.sheet.specs.Sizes.{max_units}
use Rattle.questions.specs.Questions.{ask, Verdict, no, all_yes, first_no, AllYes}
use Rattle.questions.proofs.FirstNoLaws.{first_then, every_yes}
use Rattle.forms.specs.declared.House.TheVariants.{Ours}
use Rattle.sheet.specs.Sheet.{loaders}
use Rattle.read_questions.specs.Reading.{sheet_in, refused, read}
use Rattle.read_questions.proofs.ConcludedLaws.{concluded_read, concluded_no}
use Rattle.read_form.specs.declared.Kind.TheVariants as Kind
use Rattle.read_places.specs.Places.{spots, sought}
use Rattle.read_places.specs.PlacesLaws.{unit_count, sought_at, sought_past, spot_inside}
use Rattle.merge_read.specs.Behind.{text_questions}
use Rattle.merge_read.specs.BehindLaws.{lines_asked}
use Rattle.merge_sheets.specs.Merge.{merged}
use Rattle.merge_questions.specs.Merging.{merge_questions, merged_in, blamed, blamed_sheet}
use Rattle.merge_questions.specs.FirstLaws.{first_cons}
use Rattle.merge_join.specs.Join.{join_reply}
use Rattle.merge_laws.proofs.Merged.{first_asked, second_asked, merge_fits}
use Rattle.merge_lines.specs.Lines.{has_loader, questions_of_line, loader_place, spot_of, place_of, found_by, found_line, in_second, in_either, located_at}
use Rattle.merge_questions.specs.declared.Blamed.{Blamed}
use Rattle.merge_lines.specs.declared.LinePlace.{LinePlace}
use Rattle.merge_lines.specs.declared.LinePlace.TheVariants.{First, Second}

-- ---- the place of a loader number

module _ (k : ℕ) where
  place_cons : (x : ℕ) (xs : List ℕ) → loader_place (x ∷ xs) k ≡ cond (eqb x k) 0 (suc (loader_place xs k))
  place_cons x xs = first_cons (λ y. eqb y k) 0 x xs

  -- it lies within the list exactly where the list has the number
  pub place_found : (ks : List ℕ) → ltb (loader_place ks k) (length ks) ≡ member k ks
  place_found [] = refl
  place_found (x ∷ xs) = ap (λ (r : ℕ). ltb r (suc (length xs))) (place_cons x xs) ∙ go (eqb x k) (place_found xs)
    where
      go : (b : Bool) → ltb (loader_place xs k) (length xs) ≡ member k xs → ltb (cond b 0 (suc (loader_place xs k))) (suc (length xs)) ≡ cond b true (member k xs)
      go true e = lt-ltb 0 (suc (length xs)) (omega arith)
      go false e = leb-suc-suc (suc (loader_place xs k)) (length xs) ∙ e

  -- of two lists one behind the other
  place_both : (xs ys : List ℕ) → loader_place (xs ++ ys) k ≡ cond (member k xs) (loader_place xs k) (length xs + loader_place ys k)
  place_both [] ys = sym (zero-add (loader_place ys k))
  place_both (x ∷ xs) ys = place_cons x (xs ++ ys) ∙ go (eqb x k) (loader_place (x ∷ xs) k) (place_cons x xs) (place_both xs ys)
    where
      later : (m : Bool) (p : ℕ) → p ≡ suc (loader_place xs k)
          → suc (cond m (loader_place xs k) (length xs + loader_place ys k)) ≡ cond m p (suc (length xs) + loader_place ys k)
      later true p e = sym e
      later false p e = omega arith

      go : (b : Bool) (p : ℕ) → p ≡ cond b 0 (suc (loader_place xs k))
          → loader_place (xs ++ ys) k ≡ cond (member k xs) (loader_place xs k) (length xs + loader_place ys k)
          → cond b 0 (suc (loader_place (xs ++ ys) k)) ≡ cond (cond b true (member k xs)) p (suc (length xs) + loader_place ys k)
      go true p e h = sym e
      go false p e h = ap suc h ∙ later (member k xs) p e

-- ---- a text whose questions are all yes
module _ (text : List ℕ) (asked : AllYes (text_questions Ours text)) (k : ℕ) where
  abbrev numbers : List ℕ
  numbers = loaders (sheet_in Ours text)

  spots_many : length (spots Kind.Unit text) ≡ length numbers
  spots_many = unit_count text (lines_asked Ours text asked) ∙ sym (length-map (sheet_in Ours text).units (λ u. u.loader))

  spot_there : has_loader text k ≡ true → sought Kind.Unit text (loader_place numbers k) ≡ Ok (spot_of text k)
  unfolding sought
  spot_there h =
      sought_at (spots Kind.Unit text) (loader_place numbers k)
      (omega (arith, spots_many, ltb-true (loader_place numbers k) (length numbers) (place_found k numbers ∙ h)))

  -- past this text's units: so far past them
  spot_past : (i : ℕ) → sought Kind.Unit text (length numbers + i) ≡ Err i
  unfolding sought
  spot_past i =
      let e : length numbers + i - length (spots Kind.Unit text) ≡ i = omega (arith, spots_many) in
      sought_past (spots Kind.Unit text) (length numbers + i) (omega (arith, spots_many)) ∙ ap Err e

  nowhere : has_loader text k ≡ false → in_second (sought Kind.Unit text (loader_place numbers k)) ≡ Err (record { refusal = record { number = 27; line = 0 }; sheet = 0 })
  unfolding sought
  nowhere h =
      ap in_second (sought_past (spots Kind.Unit text) (loader_place numbers k)
      (omega (arith, spots_many, ltb-false (loader_place numbers k) (length numbers) (place_found k numbers ∙ h))))

-- ---- both texts
module _ (one two : List ℕ) (k : ℕ) where
  -- a refusal of the merge is one of the line
  pub found_refused : (b : Blamed) → refused b.refusal.number b.refusal.line ≡ join_reply one two → b.sheet ≡ blamed_sheet one two
      → Err b ≡ found_line one two k
  unfolding found_line questions_of_line join_reply
  found_refused b r s =
      let f = b.refusal in
      let e = concluded_no (first_no (merge_questions one two)) (merged_in one two) f.number f.line r in
      ap (λ (n : ℕ). Err (record { refusal = f; sheet = n })) s
      ∙ ap (λ (v : Verdict). found_by v (blamed_sheet one two) (place_of one two k))
      (sym (first_then (merge_questions one two) (ask 27 0 (has_loader one k || has_loader two k) ∷ []) (no f.number f.line) e))

  module _ (p u r : ℕ) (j : read p u r ≡ join_reply one two) where
    e : first_no (merge_questions one two) ≡ all_yes
    unfolding join_reply
    e = (concluded_read (first_no (merge_questions one two)) (merged_in one two) p u r j).verdict

    -- the merged sheet's units are within the arrays for both
    pub units_few : u ≤ max_units + max_units
    unfolding join_reply
    units_few =
        let m = merged_in one two in
        let c = concluded_read (first_no (merge_questions one two)) m p u r j in
        omega (arith, c.units, leb→le (length m.units) max_units (left (leb (length m.units) max_units) _ (merge_fits one two e)))

    none_blamed : blamed_sheet one two ≡ 0
    unfolding blamed_sheet
    none_blamed = ap₂ blamed (every_yes (text_questions Ours one) (first_asked one two e)) e

    abbrev a : List ℕ
    a = loaders (sheet_in Ours one)

    abbrev b : List ℕ
    b = loaders (sheet_in Ours two)

    in_one : has_loader one k ≡ true → located_at one two (loader_place (a ++ b) k) ≡ Ok (First (spot_of one k).start (spot_of one k).end)
    in_one h =
        ap (located_at one two) (place_both k a b ∙ ap (λ (c : Bool). cond c (loader_place a k) (length a + loader_place b k)) h)
        ∙ ap (in_either two) (spot_there one (first_asked one two e) k h)

    past_one : has_loader one k ≡ false → located_at one two (loader_place (a ++ b) k) ≡ in_second (sought Kind.Unit two (loader_place b k))
    past_one h =
        ap (located_at one two) (place_both k a b ∙ ap (λ (c : Bool). cond c (loader_place a k) (length a + loader_place b k)) h)
        ∙ ap (in_either two) (spot_past one (first_asked one two e) k (loader_place b k))

    both_loaders : loaders (merged_in one two) ≡ a ++ b
    unfolding merged
    both_loaders = map-append (λ u. u.loader) (sheet_in Ours one).units (sheet_in Ours two).units

    -- the code's place among the units of both is the definition's
    pub found_located : (ks : List ℕ) → ks ≡ loaders (merged_in one two) → located_at one two (loader_place ks k) ≡ found_line one two k
    unfolding found_line questions_of_line first_no
    found_located ks is =
        ap (λ (xs : List ℕ). located_at one two (loader_place xs k)) (is ∙ both_loaders)
        ∙ go (has_loader one k) (has_loader two k) refl refl
        ∙ ap₂ (λ (v : Verdict) (s : ℕ). found_by v s (place_of one two k))
        (sym (first_then (merge_questions one two) (ask 27 0 (has_loader one k || has_loader two k) ∷ []) all_yes e)) (sym none_blamed)
      where
        go : (c d : Bool) → has_loader one k ≡ c → has_loader two k ≡ d → located_at one two (loader_place (a ++ b) k)
            ≡ found_by (cond (c || d) all_yes (no 27 0)) 0
            (cond c (First (spot_of one k).start (spot_of one k).end) (Second (spot_of two k).start (spot_of two k).end))
        go true d p q = in_one p
        go false true p q = past_one p ∙ ap in_second (spot_there two (second_asked one two e) k q)
        go false false p q = past_one p ∙ nowhere two (second_asked one two e) k q

  -- ---- what was found lies within its text
  abbrev pub Inside : Result LinePlace Blamed → Type 0
  Inside (Err b) = Unit {0}
  Inside (Ok (First a b)) = (a ≤ b) × (b ≤ length one)
  Inside (Ok (Second a b)) = (a ≤ b) × (b ≤ length two)

  pub found_inside : Inside (found_line one two k)
  unfolding found_line
  found_inside = go (first_no (questions_of_line one two k)) (has_loader one k)
    where
      go : (v : Verdict) (b : Bool) → Inside (found_by v (blamed_sheet one two)
          (cond b (First (spot_of one k).start (spot_of one k).end) (Second (spot_of two k).start (spot_of two k).end)))
      go (no q n) b = tt
      go all_yes true = spot_inside Kind.Unit one (loader_place (loaders (sheet_in Ours one)) k)
      go all_yes false = spot_inside Kind.Unit two (loader_place (loaders (sheet_in Ours two)) k)
