-- What reading two texts and asking about both answers, all but question 12, and where the merged sheet then stands. Definitions only.
use Rattle.std.specs.Prelude.{ℕ, ◌≡◌, List, take, Result, IfOk}
use Rattle.questions.specs.Questions.{first_no}
use Rattle.sheet.specs.declared.Sheet.{Sheet}
use Rattle.read_questions.specs.Reading.{ListRooms, rooms, Reply, concluded}
use Rattle.read_questions.specs.Steps.{Holds, columns}
use Rattle.merge_questions.specs.Merging.{merge_questions, merged_in}
use Rattle.merge_questions.specs.declared.Blamed.{Blamed}

unfoldable pub join_reply : List ℕ → List ℕ → Reply
join_reply one two = concluded (first_no (merge_questions one two)) (merged_in one two)

-- of each array as many places as there are units or rules
abbrev pub fronts_of : Sheet → ListRooms (List ℕ) → ListRooms (List ℕ)
fronts_of s m =
    rooms (take s.units m.loader) (take s.units m.first) (take s.units m.last) (take s.rules m.from) (take s.rules m.to)
    (take s.rules m.low) (take s.rules m.high)

-- the merged sheet's numbers stand at the fronts of the arrays
pub record MergedAtFront (s : Sheet) (one two : List ℕ) (m : ListRooms (List ℕ)) : Type 0 where
  pub long : Holds s.units s.rules m
  pub fronts : fronts_of s m ≡ columns (merged_in one two).units (merged_in one two).rules

abbrev pub LeavesMerged : Result Sheet Blamed → List ℕ → List ℕ → ListRooms (List ℕ) → Type 0
LeavesMerged r one two m = IfOk r (λ s. MergedAtFront s one two m)
