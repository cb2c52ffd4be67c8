-- Questions that a call asks in their order, and what they come to: the first that is answered no, by number and line
-- (docs/RULES.md, "The order of the questions"). Definitions only.
use Rattle.std.specs.Prelude.{Bool, cond, List, [], ◌∷◌, ℕ, T, Result, Ok, Err}
use Rattle.lists.specs.Lists.{every}
use Rattle.questions.specs.declared.Refusal.{Refusal}

-- the number of the question, the line that it is asked of, 0 where it is asked of none, and the answer
pub record Question : Type 0 where
  pub number : ℕ
  pub line : ℕ
  pub yes : Bool

abbrev pub ask : ℕ → ℕ → Bool → Question
ask q n y = record { number = q; line = n; yes = y }

pub data Verdict : Type 0 where
  no : (number line : ℕ) → Verdict
  all_yes : Verdict

-- the first no decides
unfoldable pub first_no : List Question → Verdict
first_no [] = all_yes
first_no (q ∷ qs) = cond q.yes (first_no qs) (no q.number q.line)

-- the verdict of these questions, where those before them come to this one
abbrev pub and_then : Verdict → Verdict → Verdict
and_then (no q n) v = no q n
and_then all_yes v = v

-- every answer is yes
abbrev pub AllYes : List Question → Type 0
AllYes qs = T (every (λ q. q.yes) qs)

-- the code's reply as a verdict
abbrev pub verdict_of : {A : Type 0} → Result A Refusal → Verdict
verdict_of (Err f) = no f.number f.line
verdict_of (Ok a) = all_yes
