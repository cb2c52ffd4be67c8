-- The answer is the front of an array of the call's own. Where the page holds it, the rooms and the page are written; else nothing is.
use Rattle.std.proofs.Common.{◌≡◌, ◌≤◌, length, refl, sym}
use Rattle.pages.specs.Page.{table_page, max_page}
use Rattle.print_bytes.proofs.WritingLaws.{own_room, own_part, own_size, own_long}
use Rattle.print_answer.proofs.PrintingLaws.{asked_yes, asked_no}
use Rattle.print_solved.proofs.print_plan.Goals as goal

pub returns-then-not-holds : goal.returns-then-not-holds
returns-then-not-holds c =
    let a = c.args in
    let s = a.solved.now in
    let size = own_size max_page c.requires.closed_len_bound c.put_plan-length.ensures in
    rw c.refused.ensures
    (asked_no a.page.now a.at (table_page s.span s.loader.now s.seats.now s.firsts.now s.lasts.now s.closed.now) _ size _ c.holds.ensures _ _ _ _ _ _
    c.if-not-holds.true refl refl refl)

pub returns : goal.returns
returns c =
    let a = c.args in
    let s = a.solved.now in
    let k = c.keep_plan.ensures in
    let few = c.requires.closed_len_bound in
    let size = own_size max_page few c.put_plan-length.ensures in
    let written = rw (own_part max_page few c.put_plan-length.ensures) at c.write-next.ensures in
    asked_yes a.page.now a.at (table_page s.span s.loader.now s.seats.now s.firsts.now s.lasts.now s.closed.now) _ size _ c.holds.ensures _ _ _ _ _ _
    c.if-not-holds.false _ written refl (rw (k.0, k.1, k.2, k.3) refl)
