-- What the number reader answers at a place of a text.
use Rattle.std.specs.Prelude.{ℕ, ◌+◌, cond, List, length, Option, Some, None}
use Rattle.forms.specs.Form.{plain, value}
use Rattle.read_number.specs.declared.Number.{Number}

-- the largest number of four digits
abbrev pub max_number : ℕ
max_number = 9999

abbrev pub number_with : Option ℕ → ℕ → Number
number_with v next = record { value = v; next = next }

-- a number that question 4 lets pass has its value, and one that it does not has none
abbrev pub read_value : List ℕ → ℕ
read_value digits = cond (plain digits) (value digits) 0

-- the number with these digits, which starts at a place
unfoldable pub number_read : List ℕ → ℕ → Number
number_read digits at = number_with (cond (plain digits) (Some (value digits)) None) (at + length digits)
