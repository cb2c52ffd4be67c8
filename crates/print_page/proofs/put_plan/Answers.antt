-- The head, the units' lines and the slots' lines, one after the other; each slot's count is read from the list of counts.
use Rattle.std.proofs.Common.{◌≡◌, ap, ◌∙◌, List, [], ◌∷◌, ℕ, ◌≤◌, length, get_or}
use Rattle.sheet.specs.Sizes.{max_slots}
use Rattle.forms.specs.Words.{text}
use Rattle.print_bytes.specs.Writing.{Room, plan_head}
use Rattle.print_bytes.proofs.WritingLaws.{Pending, pending_whole, pending_room, pending_after, pending_nothing}
use Rattle.pages.specs.Page.{slot_counts, unit_lines, slot_lines, plan_page}
use Rattle.pages.proofs.PageLaws.{page_counted, counts_length}
use Rattle.print_page.proofs.put_plan.Goals as goal

begun : (span : ℕ) (loader plan earliest latest counts : List ℕ) (low high : ℕ → ℕ) → span ≤ max_slots → counts ≡ slot_counts plan
    → {page : List ℕ} {at : ℕ} → Room page at (plan_page span loader plan earliest latest low high)
    → Pending page at (plan_page span loader plan earliest latest low high) page at
    (plan_head (length plan) ∷ unit_lines span loader plan earliest latest ∷ slot_lines span (λ t. get_or counts t 0) low high ∷ [])
begun span loader plan earliest latest counts low high h e room = pending_whole _ (page_counted span loader plan earliest latest counts low high h e) room

pub put_one_number-next-requires : goal.put_one_number-next-requires
unfolding plan_head text
put_one_number-next-requires c = pending_room (begun _ _ _ _ _ _ _ _ c.requires.printable.slots c.count_slots.ensures c.requires.room)

pub put_units-next2-requires-clause-room : goal.put_units-next2-requires-clause-room
unfolding plan_head text
put_units-next2-requires-clause-room c =
    pending_room (pending_after (begun _ _ _ _ _ _ _ _ c.requires.printable.slots c.count_slots.ensures c.requires.room) c.put_one_number-next.ensures)

pub put_slots-requires-clause-counts : goal.put_slots-requires-clause-counts
put_slots-requires-clause-counts c = ap length c.count_slots.ensures ∙ counts_length c.args.plan.now

pub put_slots-requires-clause-room : goal.put_slots-requires-clause-room
unfolding plan_head text
put_slots-requires-clause-room c =
    let b = begun _ _ _ _ _ _ _ _ c.requires.printable.slots c.count_slots.ensures c.requires.room in
    pending_room (pending_after (pending_after b c.put_one_number-next.ensures) c.put_units-next2.ensures)

pub returns : goal.returns
unfolding plan_head text
returns c =
    let b = begun _ _ _ _ _ _ _ _ c.requires.printable.slots c.count_slots.ensures c.requires.room in
    pending_nothing (pending_after (pending_after (pending_after b c.put_one_number-next.ensures) c.put_units-next2.ensures) c.put_slots.ensures)
