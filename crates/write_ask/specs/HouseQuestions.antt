-- What a house asks of a sheet that goes out as its text: the partner knows no carried unit and no low (docs/RULES.md, "Questions", 17 and 18).
-- Definitions only.
use Rattle.std.specs.Prelude.{Bool, cond, List, [], ◌∷◌, map, ℕ, suc, leb, eqb}
use Rattle.lists.specs.Lists.{every}
use Rattle.questions.specs.Questions.{Question, ask}
use Rattle.slots.specs.Slots.{Slot}
use Rattle.sheet.specs.Sheet.{Sheet}
use Rattle.forms.specs.declared.House.{House}
use Rattle.forms.specs.declared.House.TheVariants.{Ours, Partner}

-- the first place that fails a test, where the places are counted from i on; 0 where none does
abbrev pub fault_from : {A : Type 0} → (A → Bool) → ℕ → List A → ℕ
fault_from t i [] = 0
fault_from t i (x ∷ xs) = cond (t x) (fault_from t (suc i) xs) i

abbrev pub first_at_fault : {A : Type 0} → (A → Bool) → List A → ℕ
first_at_fault t xs = fault_from t 1 xs

-- a question that is asked of each entry of a list: its line is the first place at fault
abbrev pub ask_each : {A : Type 0} → ℕ → (A → Bool) → List A → Question
ask_each q t xs = ask q (first_at_fault t xs) (every t xs)

-- 17: may no unit be carried, by its last slot? 18: is every low 0?
abbrev pub end_questions : House → ℕ → List Slot → List ℕ → List Question
end_questions Ours span lasts lows = []
end_questions Partner span lasts lows = ask_each 17 (λ t. leb t span) lasts ∷ ask_each 18 (λ k. eqb k 0) lows ∷ []

abbrev pub house_questions : House → Sheet → List Question
house_questions h s = end_questions h s.span (map (λ w. w.last) s.units) (map (λ r. r.low) s.rules)
