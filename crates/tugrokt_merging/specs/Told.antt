-- What merging tells another language and leaves in the lent lists, and what it is told of a line. Definitions only.
use Rattle.std.specs.Prelude.{◌≡◌, List, ℕ}
use Rattle.read_questions.specs.Reading.{ListRooms}
use Rattle.read_rooms.specs.Rooms.{sizes_of, leaves}
use Rattle.merge_questions.specs.Merging.{merged_in, merging}
use Rattle.merge_lines.specs.Lines.{found_line}
use Rattle.tugrokt_replies.specs.Numbers.{reading_of, line_of}
use Rattle.tugrokt_replies.specs.declared.line.Line.{Line}
use Rattle.tugrokt_replies.specs.declared.reading.Reading.{Reading}

pub record MergeTold (one two : List ℕ) (before : ListRooms (List ℕ)) (numbers : Reading) (after : ListRooms (List ℕ)) : Type 0 where
  pub told : numbers ≡ reading_of (merging one two (sizes_of before))
  pub left : after ≡ leaves (merging one two (sizes_of before)) (merged_in one two) before

pub record LineTold (one two : List ℕ) (loader : ℕ) (numbers : Line) : Type 0 where
  pub told : numbers ≡ line_of (found_line one two loader)
