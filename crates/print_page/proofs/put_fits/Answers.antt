-- The head and the slots' lines, one after the other.
use Rattle.std.proofs.Common.{refl, List, [], ◌∷◌, ℕ}
use Rattle.forms.specs.Words.{text}
use Rattle.print_bytes.specs.Writing.{Room, fits_head}
use Rattle.print_bytes.proofs.WritingLaws.{Pending, pending_whole, pending_room, pending_after, pending_nothing}
use Rattle.pages.specs.Page.{range_lines, fits_page}
use Rattle.print_page.proofs.put_fits.Goals as goal

begun : (span units : ℕ) (low high : ℕ → ℕ) {page : List ℕ} {at : ℕ} → Room page at (fits_page span units low high)
    → Pending page at (fits_page span units low high) page at (fits_head units ∷ range_lines span low high ∷ [])
unfolding fits_page
begun span units low high room = pending_whole _ refl room

pub put_one_number-next-requires : goal.put_one_number-next-requires
unfolding fits_head text
put_one_number-next-requires c = pending_room (begun _ _ _ _ c.requires.room)

pub put_ranges-requires-clause-room : goal.put_ranges-requires-clause-room
unfolding fits_head text
put_ranges-requires-clause-room c = pending_room (pending_after (begun _ _ _ _ c.requires.room) c.put_one_number-next.ensures)

pub returns : goal.returns
unfolding fits_head text
returns c = pending_nothing (pending_after (pending_after (begun _ _ _ _ c.requires.room) c.put_one_number-next.ensures) c.put_ranges.ensures)
