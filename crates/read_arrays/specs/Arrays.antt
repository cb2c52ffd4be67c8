-- The arrays that a text is read into, as the seven lists of a sheet; and as they are made. Definitions only.
use Rattle.std.specs.Prelude.{ℕ, List, replicate}
use Rattle.sheet.specs.Sizes.{max_units, max_rules}
use Rattle.read_questions.specs.Reading.{ListRooms, rooms}
use Rattle.read_arrays.specs.declared.SheetArrays.{SheetArrays}

abbrev pub lists_in : SheetArrays → ListRooms (List ℕ)
lists_in a = rooms a.loader a.first a.last a.from a.to a.low a.high

abbrev pub cleared : ListRooms (List ℕ)
cleared =
    let units : List ℕ = replicate max_units 0 in
    let rules : List ℕ = replicate max_rules 0 in
    rooms units units units rules rules rules rules
