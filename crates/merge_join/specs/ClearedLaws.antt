-- Arrays for both sheets, as a call makes them, hold both; and what they hold by the answer, where it is a merged sheet.
use Rattle.std.specs.Prelude.{ℕ, ◌+◌, ◌≡◌, List, Result, Ok}
use Rattle.std.proofs.Common.{subst, lit≤}
use Rattle.sheet.specs.Sizes.{max_units, max_rules}
use Rattle.sheet.specs.declared.Sheet.{Sheet}
use Rattle.read_questions.specs.Reading.{ListRooms}
use Rattle.read_questions.specs.Steps.{Holds}
use Rattle.merge_questions.specs.declared.Blamed.{Blamed}
use Rattle.merge_join.specs.Join.{MergedAtFront, LeavesMerged}
use Rattle.merge_join.specs.JoinedArrays.{cleared}

pub cleared_hold : Holds (max_units + max_units) (max_rules + max_rules) cleared
cleared_hold =
    record {
      in_loader = lit≤ tt;
      in_first = lit≤ tt;
      in_last = lit≤ tt;
      in_from = lit≤ tt;
      in_to = lit≤ tt;
      in_low = lit≤ tt;
      in_high = lit≤ tt;
    }

pub left_of : (j : Result Sheet Blamed) (s : Sheet) (one two : List ℕ) (m : ListRooms (List ℕ)) → j ≡ Ok s → LeavesMerged j one two m → MergedAtFront s one two m
left_of j s one two m e k = subst (λ x. LeavesMerged x one two m) e k
