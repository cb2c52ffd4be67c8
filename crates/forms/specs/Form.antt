-- The forms of a line, by concatenation of words and numbers. A line is the list of its bytes, without the line feed.
-- Definitions only, with no grid and no reading states: docs/RULES.md, "Sheets and answers", and questions 2 to 4.
use Rattle.std.specs.Prelude.{ℕ, ◌+◌, ◌-◌, ◌*◌, Bool, true, false, ◌&&◌, ◌||◌, not, cond, List, [], ◌∷◌, ◌++◌, length, drop, eqb, leb}
use Rattle.lists.specs.Lists.{within, every}
use Rattle.forms.specs.Words.{zero_digit, nine_digit, first_printable, last_printable}

-- ---- bytes

abbrev pub is_printable : ℕ → Bool
is_printable b = within first_printable last_printable b

abbrev pub is_digit : ℕ → Bool
is_digit b = within zero_digit nine_digit b

-- question 2
unfoldable pub printable : List ℕ → Bool
printable line = every is_printable line

-- ---- numbers

abbrev pub some : List ℕ → Bool
some [] = false
some (b ∷ l) = true

-- the digits that a text starts with, and what stands past them
unfoldable pub leading : List ℕ → List ℕ
leading [] = []
leading (b ∷ l) = cond (is_digit b) (b ∷ leading l) []

unfoldable pub past : List ℕ → List ℕ
past [] = []
past (b ∷ l) = cond (is_digit b) (past l) (b ∷ l)

-- what a number's digits are worth, in tens
unfoldable pub value_from : ℕ → List ℕ → ℕ
value_from v [] = v
value_from v (b ∷ l) = value_from (v * 10 + (b - zero_digit)) l

abbrev pub value : List ℕ → ℕ
value digits = value_from 0 digits

abbrev max_digits : ℕ
max_digits = 4

-- question 4: at most four digits and no needless leading zero
unfoldable pub plain : List ℕ → Bool
plain [] = false
plain (b ∷ l) = leb (length (b ∷ l)) max_digits && (not (some l) || not (eqb b zero_digit))

-- ---- forms

-- a form is words and numbers, one after the other; `any_bytes` is what stands up to the line's end, and only a note has it, as its last piece
pub data Piece : Type 0 where
  word : List ℕ → Piece
  number : Piece
  any_bytes : Piece

-- a form written out with the digits of its numbers
unfoldable pub written : List Piece → List (List ℕ) → List ℕ
written [] ns = []
written (word w ∷ f) ns = w ++ written f ns
written (number ∷ f) [] = []
written (number ∷ f) (n ∷ ns) = n ++ written f ns
written (any_bytes ∷ f) ns = written f ns

abbrev pub starts_with : List ℕ → List ℕ → Bool
starts_with [] l = true
starts_with (x ∷ w) [] = false
starts_with (x ∷ w) (b ∷ l) = eqb x b && starts_with w l

-- Whether a line is of a form: its words as shown, and one or more digits for each number.
-- FormLaws: for a form of words and numbers these are the lines that it can be written out to.
unfoldable pub matches : List Piece → List ℕ → Bool
matches [] l = not (some l)
matches (word w ∷ f) l = starts_with w l && matches f (drop (length w) l)
matches (number ∷ f) l = some (leading l) && matches f (past l)
matches (any_bytes ∷ f) l = true

-- the digits of each number of a line of a form
unfoldable pub numbers : List Piece → List ℕ → List (List ℕ)
numbers [] l = []
numbers (word w ∷ f) l = numbers f (drop (length w) l)
numbers (number ∷ f) l = leading l ∷ numbers f (past l)
numbers (any_bytes ∷ f) l = []
