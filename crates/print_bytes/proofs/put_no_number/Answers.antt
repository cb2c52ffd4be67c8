-- A line of no number is its word and a line feed.
use Rattle.print_bytes.proofs.WritingLaws.{word_line, first_room, second_room, both_written}
use Rattle.print_bytes.proofs.put_no_number.Goals as goal

pub put_word-next-requires : goal.put_word-next-requires
put_word-next-requires c = first_room (word_line c.args.end.now) c.requires

pub put_word-requires : goal.put_word-requires
put_word-requires c = second_room (word_line c.args.end.now) c.requires c.put_word-next.ensures

pub returns : goal.returns
returns c = both_written (word_line c.args.end.now) c.requires c.put_word-next.ensures c.put_word.ensures
