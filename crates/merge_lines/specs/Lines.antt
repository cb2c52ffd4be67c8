-- Where the line of a unit of two sheets stands, and what a part of a text is (docs/RULES.md, "Two sheets made one"). Definitions only.
use Rattle.std.specs.Prelude.{ℕ, ◌+◌, ◌-◌, ◌≡◌, Bool, ◌||◌, cond, List, [], ◌∷◌, ◌++◌, eqb, length, get_or, take, drop, Result, Ok, Err}
use Rattle.std.specs.Borrow.{Bor}
use Rattle.lists.specs.Lists.{member}
use Rattle.lists.specs.First.{first_place}
use Rattle.questions.specs.Questions.{Question, ask, Verdict, no, all_yes, first_no}
use Rattle.sheet.specs.Sheet.{loaders}
use Rattle.forms.specs.declared.House.TheVariants.{Ours}
use Rattle.read_questions.specs.Reading.{sheet_in}
use Rattle.read_form.specs.declared.Kind.TheVariants as Kind
use Rattle.read_places.specs.Places.{spots, no_spot, sought}
use Rattle.read_places.specs.declared.Spot.{Spot}
use Rattle.merge_questions.specs.Merging.{merge_questions, blamed_sheet}
use Rattle.merge_questions.specs.declared.Blamed.{Blamed}
use Rattle.merge_lines.specs.declared.LinePlace.{LinePlace}
use Rattle.merge_lines.specs.declared.LinePlace.TheVariants.{First, Second}

-- ---- the questions

-- is it the loader number of a unit of this text's sheet?
abbrev pub has_loader : List ℕ → ℕ → Bool
has_loader text k = member k (loaders (sheet_in Ours text))

-- all of the merge's questions but 12, then 27
unfoldable pub questions_of_line : List ℕ → List ℕ → ℕ → List Question
questions_of_line one two k = merge_questions one two ++ (ask 27 0 (has_loader one k || has_loader two k) ∷ [])

-- ---- the answer

-- the first place of a number in a list, or the list's length
abbrev pub loader_place : List ℕ → ℕ → ℕ
loader_place ks k = first_place (length ks) (λ j. eqb (get_or ks j 0) k)

-- the line of a text's first unit with this loader number
abbrev pub spot_of : List ℕ → ℕ → Spot
spot_of text k = get_or (spots Kind.Unit text) (loader_place (loaders (sheet_in Ours text)) k) no_spot

-- the line in the text whose sheet has the unit
abbrev pub place_of : List ℕ → List ℕ → ℕ → LinePlace
place_of one two k =
    cond (has_loader one k) (First (spot_of one k).start (spot_of one k).end) (Second (spot_of two k).start (spot_of two k).end)

-- a refusal with the sheet that it is of, or the place
abbrev pub found_by : Verdict → ℕ → LinePlace → Result LinePlace Blamed
found_by (no q n) sheet place = Err (record { refusal = record { number = q; line = n }; sheet = sheet })
found_by all_yes sheet place = Ok place

unfoldable pub found_line : List ℕ → List ℕ → ℕ → Result LinePlace Blamed
found_line one two k = found_by (first_no (questions_of_line one two k)) (blamed_sheet one two) (place_of one two k)

-- what the code makes of a place among the units of both: the line in the first text, or, where it is past the first's units, in the second
abbrev pub in_second : Result Spot ℕ → Result LinePlace Blamed
in_second (Ok s) = Ok (Second s.start s.end)
in_second (Err j) = Err (record { refusal = record { number = 27; line = 0 }; sheet = 0 })

abbrev pub in_either : List ℕ → Result Spot ℕ → Result LinePlace Blamed
in_either two (Ok s) = Ok (First s.start s.end)
in_either two (Err j) = in_second (sought Kind.Unit two j)

abbrev pub located_at : List ℕ → List ℕ → ℕ → Result LinePlace Blamed
located_at one two i = in_either two (sought Kind.Unit one i)

-- ---- a part of a text

-- the slice r is the bytes from a to e of the slice s, where they stand: in the same memory, and not a copy
pub record PartOf (s r : Bor (List ℕ)) (a e : ℕ) : Type 0 where
  pub bytes : r.now ≡ take (e - a) (drop a s.now)
  pub block : r.ref_ptr.0 ≡ s.ref_ptr.0
  pub place : r.ref_ptr.1 ≡ a + s.ref_ptr.1

abbrev pub PartAsked : Bor (List ℕ) → Bor (List ℕ) → Bor (List ℕ) → Result LinePlace Blamed → Type 0
PartAsked one two r (Err b) = PartOf one r 0 0
PartAsked one two r (Ok (First a e)) = PartOf one r a e
PartAsked one two r (Ok (Second a e)) = PartOf two r a e
