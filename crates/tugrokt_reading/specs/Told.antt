-- What reading tells another language and leaves in the lent lists. Definitions only.
use Rattle.std.specs.Prelude.{◌≡◌, List, ℕ}
use Rattle.forms.specs.declared.House.{House}
use Rattle.read_questions.specs.Reading.{ListRooms, reading}
use Rattle.read_rooms.specs.Rooms.{sizes_of, rooms_after}
use Rattle.tugrokt_replies.specs.Numbers.{reading_of}
use Rattle.tugrokt_replies.specs.declared.reading.Reading.{Reading}

pub record ReadTold (h : House) (text : List ℕ) (before : ListRooms (List ℕ)) (numbers : Reading) (after : ListRooms (List ℕ)) : Type 0 where
  pub told : numbers ≡ reading_of (reading h text (sizes_of before))
  pub left : after ≡ rooms_after h text before
