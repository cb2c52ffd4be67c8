-- What the program says on standard error of a refusal by 17 or 18, whose line is a place in its list. Definitions only.
use Rattle.std.specs.Prelude.{cond, List, [], ◌∷◌, ℕ, eqb}
use Rattle.forms.specs.Words.{text}
use Rattle.forms.specs.Decimal.{form_line}
use Rattle.print_bytes.specs.Writing.{one_number}

-- `unit 2`, or `rule 2`
abbrev pub place_line : List ℕ → ℕ → List ℕ
place_line word place = form_line (one_number word []) (place ∷ [])

-- of a refusal by any other question, nothing
unfoldable pub fault_words : ℕ → ℕ → List ℕ
fault_words question place =
    cond (eqb question 17) (place_line (text "unit ") place) (cond (eqb question 18) (place_line (text "rule ") place) [])
