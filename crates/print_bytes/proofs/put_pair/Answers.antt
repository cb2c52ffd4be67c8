-- The word stands first, and the number behind it.
use Rattle.std.proofs.Common.{refl}
use Rattle.print_bytes.proofs.WritingLaws.{first_room, second_room, both_written}
use Rattle.print_bytes.proofs.put_pair.Goals as goal

pub put_word-next-requires : goal.put_word-next-requires
put_word-next-requires c = first_room (record { same = refl }) c.requires

pub put_number-requires : goal.put_number-requires
put_number-requires c = second_room (record { same = refl }) c.requires c.put_word-next.ensures

pub returns : goal.returns
returns c = both_written (record { same = refl }) c.requires c.put_word-next.ensures c.put_number.ensures
