-- The arrays that two texts are read into, as the seven lists of a sheet; and as they are made. Definitions only.
use Rattle.std.specs.Prelude.{ℕ, ◌+◌, List, replicate}
use Rattle.sheet.specs.Sizes.{max_units, max_rules}
use Rattle.read_questions.specs.Reading.{ListRooms, rooms}
use Rattle.merge_join.specs.declared.JoinedLists.{JoinedLists}

abbrev pub lists_in : JoinedLists → ListRooms (List ℕ)
lists_in l = rooms l.numbers l.firsts l.lasts l.froms l.tos l.lows l.highs

abbrev pub cleared : ListRooms (List ℕ)
cleared =
    let units : List ℕ = replicate (max_units + max_units) 0 in
    let rules : List ℕ = replicate (max_rules + max_rules) 0 in
    rooms units units units rules rules rules rules
