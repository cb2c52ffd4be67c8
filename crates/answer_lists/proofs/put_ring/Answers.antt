-- The limits are the sheet's own, so the lines are those of the ring.
use Rattle.std.proofs.Common.{◌≡◌, ◌≤◌, length, ap, sym, subst, ◌∙◌, arith}
use Rattle.sheet.specs.Sizes.{max_slots, boundaries_of}
use Rattle.pages.specs.Page.{max_page}
use Rattle.plan_ask.proofs.AskingLaws.{span_bound}
use Rattle.answer_conditions.proofs.SheetLaws.{ring_asked, ring_written}
use Rattle.answer_lists.proofs.put_ring.Goals as goal

pub boundaries-requires : goal.boundaries-requires
boundaries-requires c = subst (λ l. l.span ≤ max_slots) (sym c.lists.view_is) (span_bound c.args.lists.now c.requires.0.ok)

pub put_none-requires-clause-ring_fits : goal.put_none-requires-clause-ring_fits
put_none-requires-clause-ring_fits c =
    let size : length c.args.page.now ≡ max_page = omega arith in
    let w = c.boundaries.ensures ∙ ap (λ l. boundaries_of l.span) c.lists.view_is in
    (ring_asked c.args.lists.now _ w _ c.requires.0 _ c.requires.1 _ c.fill_limits.ensures _ size).0

pub put_none-requires-clause-room : goal.put_none-requires-clause-room
put_none-requires-clause-room c =
    let size : length c.args.page.now ≡ max_page = omega arith in
    let w = c.boundaries.ensures ∙ ap (λ l. boundaries_of l.span) c.lists.view_is in
    (ring_asked c.args.lists.now _ w _ c.requires.0 _ c.requires.1 _ c.fill_limits.ensures _ size).1

pub returns : goal.returns
returns c =
    let w = c.boundaries.ensures ∙ ap (λ l. boundaries_of l.span) c.lists.view_is in
    ring_written c.args.lists.now _ w _ c.requires.0 _ c.requires.1 _ c.fill_limits.ensures _ _ _ c.put_none.ensures
