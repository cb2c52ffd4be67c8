-- The answer is the front of an array of the call's own. Where the page holds it, the rooms and the page are written; else nothing is.
use Rattle.std.proofs.Common.{◌≡◌, ◌≤◌, length, refl, sym}
use lib.Seq.{length-take-le}
use Rattle.network.specs.Table.{entry}
use Rattle.pages.specs.Page.{none_page, max_ring_page}
use Rattle.print_bytes.proofs.WritingLaws.{own_room, own_part, own_size, own_long}
use Rattle.print_answer.proofs.PrintingLaws.{asked_yes, asked_no}
use Rattle.print_answer.proofs.print_ring.Goals as goal

pub returns-then-not-holds : goal.returns-then-not-holds
returns-then-not-holds c =
    let a = c.args in
    let size = own_size max_ring_page c.requires.found_len_bound c.put_none-length.ensures in
    rw c.refused.ensures
    (asked_no a.page.now a.at (none_page (entry a.w a.limits.now) a.found.now) _ size _ c.holds.ensures _ _ _ _ _ _ c.if-not-holds.true refl refl refl)

pub returns : goal.returns
returns c =
    let a = c.args in
    let few = c.requires.found_len_bound in
    let size = own_size max_ring_page few c.put_none-length.ensures in
    let written = rw (own_part max_ring_page few c.put_none-length.ensures) at c.write-next.ensures in
    asked_yes a.page.now a.at (none_page (entry a.w a.limits.now) a.found.now) _ size _ c.holds.ensures _ _ _ _ _ _ c.if-not-holds.false _ written refl
    (rw (c.clear.ensures, c.copy_list.ensures) refl)
