-- The numbers of a line, where reading it meets them. Definitions only; MetLaws ties them to the numbers of the line's form.
use Rattle.std.specs.Prelude.{ℕ, suc, Bool, ◌&&◌, not, cond, List, [], ◌∷◌, eqb, leb, ltb}
use Rattle.forms.specs.Form.{leading}
use Rattle.forms.specs.declared.House.{House}
use Rattle.read_form.specs.Grid.{ends, stops, next_of, class_of}

-- the state past a number's first digit, and its digits
pub record Met : Type 0 where
  pub state : ℕ
  pub digits : List ℕ

-- a number has begun in this state
abbrev pub is_number : ℕ → Bool
is_number q = leb ends q && ltb q stops

-- the numbers that reading meets from a state on
unfoldable pub met : House → ℕ → List ℕ → List Met
met h q [] = []
met h q (b ∷ l) =
    let r = next_of h q (class_of b) in
    cond (is_number r && not (eqb q r)) (record { state = r; digits = leading (b ∷ l) } ∷ met h r l) (met h r l)

-- numbers that are met in the states from q on, one after the other
abbrev pub in_turn : ℕ → List (List ℕ) → List Met
in_turn q [] = []
in_turn q (ds ∷ rest) = record { state = q; digits = ds } ∷ in_turn (suc q) rest
