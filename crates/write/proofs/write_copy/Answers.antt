-- The text is the front of an array of the call's own. Where the page holds it, it is written; else nothing is.
use Rattle.std.proofs.Common.{◌≡◌, ◌≤◌, length, sym}
use lib.Seq.{length-take-le}
use Rattle.sheet.specs.Lists.{WrittenLists}
use Rattle.forms.specs.declared.House.{House}
use Rattle.plan_ask.specs.Asking.{Listed}
use Rattle.sheet_texts.specs.SheetText.{max_text}
use Rattle.print_bytes.proofs.WritingLaws.{own_room, own_part, own_size, own_long}
use Rattle.write_lines.specs.LinesLaws.{listed_short}
use Rattle.write.specs.Writing.{text_of}
use Rattle.write.proofs.WritingLaws.{held, not_held}
use Rattle.write.proofs.write_copy.Goals as goal

short : (h : House) (l : WrittenLists) → Listed l → length (text_of h l) ≤ max_text
short h l passes = listed_short l passes h

pub put_sheet-length-requires-clause-room : goal.put_sheet-length-requires-clause-room
put_sheet-length-requires-clause-room c = own_room max_text (short c.args.house c.args.lists.now c.requires)

pub slice_bounds-text-end : goal.slice_bounds-text-end
slice_bounds-text-end c = own_long max_text (short c.args.house c.args.lists.now c.requires) c.put_sheet-length.ensures

pub slice_bounds-write-end : goal.slice_bounds-write-end
slice_bounds-write-end c = sym (length-take-le _ _ (own_long max_text (short c.args.house c.args.lists.now c.requires) c.put_sheet-length.ensures))

pub returns-then-not-holds : goal.returns-then-not-holds
returns-then-not-holds c =
    let a = c.args in
    let size = own_size max_text (short a.house a.lists.now c.requires) c.put_sheet-length.ensures in
    rw c.refused.ensures (not_held a.page.now a.at (text_of a.house a.lists.now) _ size _ c.holds.ensures c.if-not-holds.true)

pub returns : goal.returns
returns c =
    let a = c.args in
    let few = short a.house a.lists.now c.requires in
    let size = own_size max_text few c.put_sheet-length.ensures in
    let written = rw (own_part max_text few c.put_sheet-length.ensures) at c.write-next.ensures in
    held a.page.now a.at (text_of a.house a.lists.now) _ size _ c.holds.ensures c.if-not-holds.false _ _ written
