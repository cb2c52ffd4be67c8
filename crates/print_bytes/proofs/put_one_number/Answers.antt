-- The pair stands first, and the line's end behind it.
use Rattle.print_bytes.proofs.WritingLaws.{line_begun, pair_room, pair_done, end_room, line_done}
use Rattle.print_bytes.proofs.put_one_number.Goals as goal

pub put_pair-next-requires : goal.put_pair-next-requires
put_pair-next-requires c = pair_room (line_begun _ _ c.requires)

pub put_no_number-requires : goal.put_no_number-requires
put_no_number-requires c = end_room (pair_done (line_begun _ _ c.requires) c.put_pair-next.ensures)

pub returns : goal.returns
returns c = line_done (pair_done (line_begun _ _ c.requires) c.put_pair-next.ensures) c.put_no_number.ensures
