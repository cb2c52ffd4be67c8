-- What a call from another language is told and left: some reply with these numbers, and rooms and page as that reply leaves them. Definitions only.
use Rattle.std.specs.Prelude.{◌≡◌, List, ℕ}
use Rattle.sheet.specs.Sheet.{Sheet}
use Rattle.sheet.specs.Lists.{WrittenLists}
use Rattle.plan_rooms.specs.Rooms.{Rooms, DecideRooms, SeatRooms}
use Rattle.plan_answers.specs.Planning.{Conclusion, looked_by, Settled, DecideSettled, SeatSettled}
use Rattle.plan_answers.specs.Reply as planning
use Rattle.print_answer.specs.Printing as print
use Rattle.print_answer.specs.Reply as printing
use Rattle.tugrokt_replies.specs.Numbers.{planning_of, seating_of, printing_of}
use Rattle.tugrokt_replies.specs.declared.planning.Planning.{Planning}
use Rattle.tugrokt_replies.specs.declared.printing.Printing.{Printing}
use Rattle.tugrokt_replies.specs.declared.seating.Seating.{Seating}

pub record PlanTold (v : Conclusion) (s : Sheet) (before : Rooms) (numbers : Planning) (after : Rooms) : Type 0 where
  pub reply : planning.Reply
  pub left : Settled v s before reply after
  pub told : numbers ≡ planning_of reply

pub record DecideTold (v : Conclusion) (s : Sheet) (before : DecideRooms) (numbers : Planning) (after : DecideRooms) : Type 0 where
  pub reply : planning.Reply
  pub left : DecideSettled v s before reply after
  pub told : numbers ≡ planning_of reply

pub record SeatTold (v : Conclusion) (s : Sheet) (before : SeatRooms) (numbers : Seating) (after : SeatRooms) : Type 0 where
  pub reply : planning.Reply
  pub left : SeatSettled v s before reply after
  pub told : numbers ≡ seating_of (looked_by v s) reply

pub record PrintTold (l : WrittenLists) (before : Rooms) (page : List ℕ) (at : ℕ) (numbers : Printing) (after : Rooms) (left : List ℕ) : Type 0 where
  pub reply : printing.Reply
  pub call : print.Printing l before page at reply after left
  pub told : numbers ≡ printing_of at reply
