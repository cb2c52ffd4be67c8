-- What reading a text asks of it alone, all but question 12, and where its numbers go. Definitions only.
use Rattle.std.specs.Prelude.{ℕ, ◌≤◌, ◌≡◌, List, ◌∷◌, leb, length, Result, IfOk}
use Rattle.questions.specs.Questions.{Question, ask, first_no}
use Rattle.questions.specs.declared.Refusal.{Refusal}
use Rattle.sheet.specs.Sizes.{max_units, max_rules, max_bytes}
use Rattle.sheet.specs.declared.Sheet.{Sheet}
use Rattle.forms.specs.declared.House.{House}
use Rattle.forms.specs.declared.House.TheVariants.{Ours}
use Rattle.read_questions.specs.Reading.{sheet_in, pass_questions, ListRooms, Reply, concluded}
use Rattle.read_questions.specs.Steps.{columns, set_at}

-- reading's questions but 12
abbrev pub text_questions : House → List ℕ → List Question
text_questions h text = ask 1 0 (leb (length text) max_bytes) ∷ pass_questions h text

unfoldable pub text_reply : House → List ℕ → Reply
text_reply h text = concluded (first_no (text_questions h text)) (sheet_in h text)

-- the numbers of a sheet that was read, in the arrays from these places on
pub record NumbersBehind (s : Sheet) (text : List ℕ) (units rules : ℕ) (m m' : ListRooms (List ℕ)) : Type 0 where
  pub few_units : s.units ≤ max_units
  pub few_rules : s.rules ≤ max_rules
  pub in_arrays : m' ≡ set_at m units rules (columns (sheet_in Ours text).units (sheet_in Ours text).rules)

abbrev pub KeptBehind : Result Sheet Refusal → List ℕ → ℕ → ℕ → ListRooms (List ℕ) → ListRooms (List ℕ) → Type 0
KeptBehind r text units rules m m' = IfOk r (λ s. NumbersBehind s text units rules m m')
