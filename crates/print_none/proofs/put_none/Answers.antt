-- The head, the steps' lines and the shortfall's line, one after the other.
use Rattle.std.proofs.Common.{refl, List, [], ◌∷◌, ℕ}
use Rattle.lists.specs.Lists.{joined}
use Rattle.network.specs.Network.{Weights}
use Rattle.forms.specs.Words.{text}
use Rattle.print_bytes.specs.Writing.{Room, none_head, shortfall_line}
use Rattle.print_bytes.proofs.WritingLaws.{Pending, pending_whole, pending_room, pending_after, pending_nothing}
use Rattle.pages.specs.Page.{ring_lines, shortfall_of, none_page}
use Rattle.print_none.proofs.put_none.Goals as goal

begun : (d : Weights) (ring : List ℕ) {page : List ℕ} {at : ℕ} → Room page at (none_page d ring)
    → Pending page at (none_page d ring) page at (none_head ∷ joined (ring_lines d ring) ∷ shortfall_line (shortfall_of d ring) ∷ [])
unfolding none_page
begun d ring room = pending_whole _ refl room

pub put_no_number-next-requires : goal.put_no_number-next-requires
unfolding none_head text
put_no_number-next-requires c = pending_room (begun _ _ c.requires.room)

pub put_steps-next2-requires-clause-room : goal.put_steps-next2-requires-clause-room
unfolding none_head text
put_steps-next2-requires-clause-room c = pending_room (pending_after (begun _ _ c.requires.room) c.put_no_number-next.ensures)

pub put_one_number-requires : goal.put_one_number-requires
unfolding none_head shortfall_line text
put_one_number-requires c =
    rw c.shortfall.ensures
    (pending_room (pending_after (pending_after (begun _ _ c.requires.room) c.put_no_number-next.ensures) c.put_steps-next2.ensures))

pub returns : goal.returns
unfolding none_head shortfall_line text
returns c =
    let steps = pending_after (pending_after (begun _ _ c.requires.room) c.put_no_number-next.ensures) c.put_steps-next2.ensures in
    pending_nothing (pending_after steps (rw c.shortfall.ensures at c.put_one_number.ensures))
