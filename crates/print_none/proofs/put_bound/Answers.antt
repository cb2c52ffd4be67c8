-- After each pair the rest of the line is left.
use Rattle.forms.specs.Words.{text}
use Rattle.print_bytes.proofs.WritingLaws.{line_begun, pair_room, pair_done, end_room, line_done}
use Rattle.print_none.proofs.put_bound.Goals as goal

pub put_pair-next-requires : goal.put_pair-next-requires
unfolding text
put_pair-next-requires c = pair_room (line_begun _ _ c.requires.room)

pub put_pair-next2-requires : goal.put_pair-next2-requires
unfolding text
put_pair-next2-requires c = pair_room (pair_done (line_begun _ _ c.requires.room) c.put_pair-next.ensures)

pub put_pair-next3-requires : goal.put_pair-next3-requires
unfolding text
put_pair-next3-requires c =
    let l = line_begun _ _ c.requires.room in
    let l1 = pair_done l c.put_pair-next.ensures in
    let l2 = pair_done l1 c.put_pair-next2.ensures in
    pair_room l2

pub put_no_number-requires : goal.put_no_number-requires
unfolding text
put_no_number-requires c =
    let l = line_begun _ _ c.requires.room in
    let l1 = pair_done l c.put_pair-next.ensures in
    let l2 = pair_done l1 c.put_pair-next2.ensures in
    let l3 = pair_done l2 c.put_pair-next3.ensures in
    end_room l3

pub returns : goal.returns
unfolding text
returns c =
    let l = line_begun _ _ c.requires.room in
    let l1 = pair_done l c.put_pair-next.ensures in
    let l2 = pair_done l1 c.put_pair-next2.ensures in
    let l3 = pair_done l2 c.put_pair-next3.ensures in
    line_done l3 c.put_no_number.ensures
