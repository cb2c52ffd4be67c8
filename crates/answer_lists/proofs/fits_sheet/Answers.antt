-- The sheet is decided in arrays of the call's own; how that ended decides what is written.
-- Key idea: every goal past the call of decide rests on what deciding left there.
use Rattle.std.proofs.Common.{ℕ, ◌*◌, ◌≤◌, ◌≡◌, T, true, List, length, take, refl, sym, ap, subst, ◌∙◌, arith}
use lib.Seq.{length-take-le}
use lib.IntN.{ℤ, pos}
use Rattle.std.proofs.Math.ListN.{length-replicate}
use Rattle.network_pass.specs.Pass.{finished, stopped}
use Rattle.sheet.specs.Sizes.{max_slots, max_cells, boundaries_of}
use Rattle.sheet.specs.Sheet.{is_ring}
use Rattle.sheet.specs.Lists.{Lists, listed, given}
use Rattle.pages.specs.Page.{max_page}
use Rattle.plan_rooms.specs.Rooms.{decide_rooms}
use Rattle.plan_ask.specs.Asking.{Solvable}
use Rattle.plan_ask.proofs.AskingLaws.{span_bound}
use Rattle.plan_steps.specs.Closing.{passed}
use Rattle.plan_answers.specs.Planning.{by_pass, DecideSettled}
use Rattle.plan_answers.specs.Reply.{fit_reply}
use Rattle.print_solved.specs.OwnLaws.{own_rooms, own_solvable, cells_few, Front}
use Rattle.wave_words.specs.declared.Query.TheVariants.{Fits}
use Rattle.answer_conditions.specs.Answer.{AnswerToSheet, Answered}
use Rattle.answer_conditions.proofs.SheetLaws.{own_decides, own_fillable, decide_fits, decide_none, fits_asks, fits_is, fit_answered, ring_answered}
use Rattle.answer_lists.proofs.fits_sheet.Goals.{In-Ok, In-Err}
use Rattle.answer_lists.proofs.fits_sheet.Goals as goal

-- the sheet's lists, as the code looks into them
abbrev seen : In-Ok → Lists
seen c = let g = c.lists.inside in listed g.span g.first.now g.last.now g.from.now g.to.now g.low.now g.high.now

solvable : (c : In-Ok) → Solvable (seen c) true
solvable c = subst (λ l. Solvable l true) (sym c.lists.view_is) c.requires

fits_found : (c : In-Ok) → let w = c.boundaries-w.result in
    (t : List ℤ) × (passed (given (seen c)) ≡ finished t) × Front (w * w) t c.decide-fit.new.table
fits_found c =
    let k = c.decide-fit.new in
    let ends = subst (λ l. DecideSettled (by_pass (passed (given l))) (given l) (decide_rooms own_rooms.table own_rooms.ring) (fit_reply c.decide-fit.result)
    (decide_rooms c.decide-fit.new.table c.decide-fit.new.ring)) (sym c.lists.view_is) c.decide-fit.ensures in
    decide_fits (seen c) c.boundaries-w.result c.boundaries-w.ensures (solvable c) k.table k.ring _ ends (ap fit_reply c.in-Ok.is)

-- none, and a ring
w_of : (c : In-Err) → c.boundaries-w.result ≡ boundaries_of c.args.lists.now.span
w_of c = c.boundaries-w.ensures ∙ ap (λ l. boundaries_of l.span) c.lists.view_is

ring_found : (c : In-Err) → let ring = c.decide-fit.new.ring in
    let s = given c.args.lists.now in
    T (is_ring s (take c.in-Err.none.length ring)) × (passed s ≡ stopped) × (c.in-Err.none.length ≤ length ring)
ring_found c =
    let k = c.decide-fit.new in
    decide_none c.args.lists.now _ (w_of c) c.requires k.table k.ring _ c.decide-fit.ensures c.in-Err.none.length (ap fit_reply c.in-Err.is)

-- ---- the goals, in order

pub decide-fit-requires : goal.decide-fit-requires
decide-fit-requires c = own_decides c.args.lists.now _ refl c.requires

pub boundaries-w-requires : goal.boundaries-w-requires
boundaries-w-requires c = subst (λ l. l.span ≤ max_slots) (sym c.lists.view_is) (span_bound c.args.lists.now c.requires.sheet)

pub overflow_mul-table : goal.overflow_mul-table
overflow_mul-table c =
    let o = (goal.at.overflow_mul-table c).In-Ok in
    omega (arith, cells_few (seen o) own_rooms (own_solvable (seen o) true (solvable o)) c.boundaries-w.result c.boundaries-w.ensures)

pub slice_bounds-table-end : goal.slice_bounds-table-end
slice_bounds-table-end c = (fits_found (goal.at.slice_bounds-table-end c).In-Ok).2.long

pub slice_bounds-put_fits-end-in-Ok : goal.slice_bounds-put_fits-end-in-Ok
slice_bounds-put_fits-end-in-Ok c = sym (length-take-le _ _ (fits_found (goal.at.slice_bounds-put_fits-end-in-Ok c).In-Ok).2.long)

pub put_fits-requires-clause-span_le_max_slots : goal.put_fits-requires-clause-span_le_max_slots
put_fits-requires-clause-span_le_max_slots c =
    let o = (goal.at.put_fits-requires-clause-span_le_max_slots c).In-Ok in
    let f = fits_found o in
    let size : length c.args.page.now ≡ max_page = omega arith in
    (fits_asks (seen o) c.boundaries-w.result c.boundaries-w.ensures (solvable o) c.decide-fit.new.table f.0 f.1 f.2 _ size).0

pub put_fits-requires-clause-room : goal.put_fits-requires-clause-room
put_fits-requires-clause-room c =
    let o = (goal.at.put_fits-requires-clause-room c).In-Ok in
    let f = fits_found o in
    let size : length c.args.page.now ≡ max_page = omega arith in
    (fits_asks (seen o) c.boundaries-w.result c.boundaries-w.ensures (solvable o) c.decide-fit.new.table f.0 f.1 f.2 _ size).1

pub returns-in-Ok : goal.returns-in-Ok
returns-in-Ok c ks =
    let o = (goal.at.returns-in-Ok c).In-Ok in
    let f = fits_found o in
    let page = fits_is (seen o) c.boundaries-w.result c.boundaries-w.ensures (solvable o) c.decide-fit.new.table f.0 f.1 f.2 in
    subst (λ l. Answered (AnswerToSheet Fits ks (given l)) c.args.page.now c.put_fits.new.page c.put_fits.result) c.lists.view_is
    (fit_answered Fits ks (given (seen o)) _ _ _ f.0 f.1 _ page c.put_fits.ensures)

pub slice_bounds-ring-end : goal.slice_bounds-ring-end
slice_bounds-ring-end c = (ring_found (goal.at.slice_bounds-ring-end c).In-Err).2

pub slice_bounds-put_ring-end-in-Err : goal.slice_bounds-put_ring-end-in-Err
slice_bounds-put_ring-end-in-Err c = sym (length-take-le _ _ (ring_found (goal.at.slice_bounds-put_ring-end-in-Err c).In-Err).2)

pub put_ring-requires : goal.put_ring-requires
put_ring-requires c =
    let o = (goal.at.put_ring-requires c).In-Err in (
      own_fillable c.args.lists.now _ (w_of o) c.requires c.decide-fit.new.table (c.decide-fit.auto.table ∙ length-replicate max_cells (pos 0)),
      (ring_found o).0,
    )

pub returns-in-Err : goal.returns-in-Err
returns-in-Err c ks =
    let f = ring_found (goal.at.returns-in-Err c).In-Err in
    ring_answered Fits ks (given c.args.lists.now) _ _ _ _ f.0 f.1 c.put_ring.ensures
