-- Numbers in decimal, and the lines of a page: a form written out with the digits of its numbers, ended by a line feed. Definitions only.
use Rattle.std.specs.Prelude.{cond, List, [], ◌∷◌, ◌++◌, map, ℕ, zero, suc, ◌+◌, ◌/◌, ◌%◌, ltb}
use Rattle.forms.specs.Words.{zero_digit, line_feed}
use Rattle.forms.specs.Form.{Piece, written}

-- the byte of a digit
abbrev pub digit : ℕ → ℕ
digit d = zero_digit + d

-- the decimal digits of n, highest first, where k digits are enough
unfoldable pub digits_within : ℕ → ℕ → List ℕ
digits_within zero n = []
digits_within (suc k) n = cond (ltb n 10) (digit n ∷ []) (digits_within k (n / 10) ++ (digit (n % 10) ∷ []))

-- a number in decimal with no leading zero; 0 is `0`
unfoldable pub digits : ℕ → List ℕ
digits n = digits_within (suc n) n

-- a form written out with numbers
abbrev pub spell : List Piece → List ℕ → List ℕ
spell form ns = written form (map digits ns)

-- the same as a line
abbrev pub form_line : List Piece → List ℕ → List ℕ
form_line form ns = spell form ns ++ (line_feed ∷ [])
