-- The sheet is planned in arrays of the call's own; how that ended decides what is written.
-- Key idea: every goal past the call of solve rests on what planning left there.
use Rattle.std.proofs.Common.{ℕ, ◌≤◌, ◌≡◌, T, true, List, length, take, sym, ap, subst, ◌∙◌, arith}
use lib.Seq.{length-take-le}
use lib.IntN.{ℤ, pos}
use Rattle.std.proofs.Math.ListN.{length-replicate}
use Rattle.network_pass.specs.Pass.{finished, stopped}
use Rattle.sheet.specs.Sizes.{max_slots, max_cells, boundaries_of}
use Rattle.sheet.specs.Sheet.{is_ring}
use Rattle.sheet.specs.Questions.{loaders_fit}
use Rattle.sheet.specs.Lists.{Lists, WrittenLists, listed, given, given_by}
use Rattle.pages.specs.Page.{max_page}
use Rattle.plan_rooms.specs.Rooms.{Rooms, lent}
use Rattle.plan_ask.specs.Asking.{Listed, Solvable}
use Rattle.plan_ask.proofs.AskingLaws.{span_bound}
use Rattle.plan_steps.specs.Closing.{passed}
use Rattle.plan_answers.specs.Planning.{by_pass, Settled}
use Rattle.plan_answers.specs.Reply.{fit_reply}
use Rattle.print_solved.specs.OwnLaws.{own_rooms, own_solvable, cells_few, PlanFronts, plan_own}
use Rattle.wave_words.specs.declared.Query.TheVariants.{Plan}
use Rattle.answer_conditions.specs.Answer.{AnswerToSheet, Answered}
use Rattle.answer_conditions.proofs.SheetLaws.{own_fillable, plan_none, plan_asks, plan_is, fit_answered, ring_answered}
use Rattle.answer_lists.proofs.plan_sheet.Goals.{In-Ok, In-Err}
use Rattle.answer_lists.proofs.plan_sheet.Goals as goal

-- every question that solving rests on is answered yes
solved : (l : WrittenLists) → Listed l → Solvable l.constraints true
solved l h = record { lists = h.lists; sheet = h.sheet; rooms = tt }

-- the sheet's lists, as the code looks into them
abbrev seen : In-Ok → Lists
seen c = let g = c.given.inside in listed g.span g.first.now g.last.now g.from.now g.to.now g.low.now g.high.now

solvable : (c : In-Ok) → Solvable (seen c) true
solvable c =
    subst (λ l. Solvable l true) (sym c.given.view_is)
    (subst (λ l. Solvable l.constraints true) (sym c.lists.view_is) (solved c.args.lists.now c.requires))

-- the call's own arrays after planning
abbrev after : In-Ok → Rooms
after c = let r = c.solve-fit.new in lent r.table r.plan r.earliest r.latest r.ring

found : (c : In-Ok) → let s = given (seen c) in
    (t : List ℤ) × (passed s ≡ finished t) × PlanFronts s c.boundaries-w.result (length (seen c).first) t (after c)
found c =
    let ends = subst (λ l. Settled (by_pass (passed (given l))) (given l) own_rooms (fit_reply c.solve-fit.result) (after c)) (sym c.given.view_is)
    c.solve-fit.ensures in
    plan_own (seen c) own_rooms (own_solvable (seen c) true (solvable c)) c.boundaries-w.result c.boundaries-w.ensures own_rooms (after c) _ ends
    (ap fit_reply c.in-Ok.is)

-- the units' loader numbers, as the code looks into them
loaders : (c : In-Ok) → T (loaders_fit c.lists.inside.loader.now) × (length c.lists.inside.loader.now ≡ length (seen c).first)
loaders c =
    let e : (seen c).first ≡ c.lists.inside.constraints.first = ap (λ x. x.first) c.given.view_is in
    let t = subst (λ x. T (loaders_fit x.loader) × (length x.loader ≡ length x.constraints.first)) (sym c.lists.view_is)
    (c.requires.loaders, c.requires.as_many) in
    (t.0, t.1 ∙ sym (ap length e))

-- ---- none, and a ring
w_of : (c : In-Err) → c.boundaries-w.result ≡ boundaries_of c.lists.inside.constraints.span
w_of c = c.boundaries-w.ensures ∙ ap (λ l. boundaries_of l.span) c.given.view_is

ring_solvable : (c : In-Err) → Solvable c.lists.inside.constraints true
ring_solvable c = subst (λ l. Solvable l.constraints true) (sym c.lists.view_is) (solved c.args.lists.now c.requires)

ring_found : (c : In-Err) → let ring = c.solve-fit.new.ring in
    let s = given c.lists.inside.constraints in
    T (is_ring s (take c.in-Err.none.length ring)) × (passed s ≡ stopped) × (c.in-Err.none.length ≤ length ring)
ring_found c =
    let r = c.solve-fit.new in
    plan_none c.lists.inside.constraints c.boundaries-w.result (w_of c) (ring_solvable c) (lent r.table r.plan r.earliest r.latest r.ring) _
    c.solve-fit.ensures c.in-Err.none.length (ap fit_reply c.in-Err.is)

-- ---- the goals, in order

pub solve-fit-requires : goal.solve-fit-requires
solve-fit-requires c =
    own_solvable c.lists.inside.constraints true
    (subst (λ l. Solvable l.constraints true) (sym c.lists.view_is) (solved c.args.lists.now c.requires))

pub boundaries-w-requires : goal.boundaries-w-requires
boundaries-w-requires c =
    let few : c.lists.inside.constraints.span ≤ max_slots =
    subst (λ l. l.constraints.span ≤ max_slots) (sym c.lists.view_is) (span_bound c.args.lists.now.constraints c.requires.sheet) in
    subst (λ l. l.span ≤ max_slots) (sym c.given.view_is) few

pub slice_bounds-plan-end : goal.slice_bounds-plan-end
slice_bounds-plan-end c = (found (goal.at.slice_bounds-plan-end c).In-Ok).2.seats.long

pub slice_bounds-put_plan-end-in-Ok : goal.slice_bounds-put_plan-end-in-Ok
slice_bounds-put_plan-end-in-Ok c = sym (length-take-le _ _ (found (goal.at.slice_bounds-put_plan-end-in-Ok c).In-Ok).2.seats.long)

pub slice_bounds-earliest-end : goal.slice_bounds-earliest-end
slice_bounds-earliest-end c = (found (goal.at.slice_bounds-earliest-end c).In-Ok).2.firsts.long

pub slice_bounds-put_plan-end-in-Ok-2 : goal.slice_bounds-put_plan-end-in-Ok-2
slice_bounds-put_plan-end-in-Ok-2 c = sym (length-take-le _ _ (found (goal.at.slice_bounds-put_plan-end-in-Ok-2 c).In-Ok).2.firsts.long)

pub slice_bounds-latest-end : goal.slice_bounds-latest-end
slice_bounds-latest-end c = (found (goal.at.slice_bounds-latest-end c).In-Ok).2.lasts.long

pub slice_bounds-put_plan-end-in-Ok-3 : goal.slice_bounds-put_plan-end-in-Ok-3
slice_bounds-put_plan-end-in-Ok-3 c = sym (length-take-le _ _ (found (goal.at.slice_bounds-put_plan-end-in-Ok-3 c).In-Ok).2.lasts.long)

pub overflow_mul-table : goal.overflow_mul-table
overflow_mul-table c =
    let o = (goal.at.overflow_mul-table c).In-Ok in
    omega (arith, cells_few (seen o) own_rooms (own_solvable (seen o) true (solvable o)) c.boundaries-w.result c.boundaries-w.ensures)

pub slice_bounds-table-end : goal.slice_bounds-table-end
slice_bounds-table-end c = (found (goal.at.slice_bounds-table-end c).In-Ok).2.closed.long

pub slice_bounds-put_plan-end-in-Ok-4 : goal.slice_bounds-put_plan-end-in-Ok-4
slice_bounds-put_plan-end-in-Ok-4 c = sym (length-take-le _ _ (found (goal.at.slice_bounds-put_plan-end-in-Ok-4 c).In-Ok).2.closed.long)

pub put_plan-requires-clause-printable : goal.put_plan-requires-clause-printable
put_plan-requires-clause-printable c =
    let o = (goal.at.put_plan-requires-clause-printable c).In-Ok in
    let f = found o in
    let k = loaders o in
    let size : length c.args.page.now ≡ max_page = omega arith in
    (plan_asks (seen o) c.boundaries-w.result c.boundaries-w.ensures (solvable o) c.lists.inside.loader.now k.0 k.1 (after o) f.0 f.1 f.2 _ size).0

pub put_plan-requires-clause-room : goal.put_plan-requires-clause-room
put_plan-requires-clause-room c =
    let o = (goal.at.put_plan-requires-clause-room c).In-Ok in
    let f = found o in
    let k = loaders o in
    let size : length c.args.page.now ≡ max_page = omega arith in
    (plan_asks (seen o) c.boundaries-w.result c.boundaries-w.ensures (solvable o) c.lists.inside.loader.now k.0 k.1 (after o) f.0 f.1 f.2 _ size).1

pub returns-in-Ok : goal.returns-in-Ok
returns-in-Ok c =
    let o = (goal.at.returns-in-Ok c).In-Ok in
    let f = found o in
    let k = loaders o in
    let ks = c.lists.inside.loader.now in
    let page = plan_is (seen o) c.boundaries-w.result c.boundaries-w.ensures (solvable o) ks k.0 k.1 (after o) f.0 f.1 f.2 in
    let answered = fit_answered Plan ks (given (seen o)) _ _ _ f.0 f.1 _ page c.put_plan.ensures in
    subst (λ l. Answered (AnswerToSheet Plan l.loader (given_by l)) c.args.page.now c.put_plan.new.page c.put_plan.result) c.lists.view_is
    (subst (λ l. Answered (AnswerToSheet Plan ks (given l)) c.args.page.now c.put_plan.new.page c.put_plan.result) c.given.view_is answered)

pub slice_bounds-ring-end : goal.slice_bounds-ring-end
slice_bounds-ring-end c = (ring_found (goal.at.slice_bounds-ring-end c).In-Err).2

pub slice_bounds-put_ring-end-in-Err : goal.slice_bounds-put_ring-end-in-Err
slice_bounds-put_ring-end-in-Err c = sym (length-take-le _ _ (ring_found (goal.at.slice_bounds-put_ring-end-in-Err c).In-Err).2)

pub put_ring-requires : goal.put_ring-requires
put_ring-requires c =
    let o = (goal.at.put_ring-requires c).In-Err in (
      own_fillable c.lists.inside.constraints _ (w_of o) (ring_solvable o) c.solve-fit.new.table
          (c.solve-fit.auto.table ∙ length-replicate max_cells (pos 0)),
      (ring_found o).0,
    )

pub returns-in-Err : goal.returns-in-Err
returns-in-Err c =
    let f = ring_found (goal.at.returns-in-Err c).In-Err in
    let answered = ring_answered Plan c.lists.inside.loader.now (given c.lists.inside.constraints) _ _ _ _ f.0 f.1 c.put_ring.ensures in
    subst (λ l. Answered (AnswerToSheet Plan l.loader (given_by l)) c.args.page.now c.put_ring.new.page c.put_ring.result) c.lists.view_is answered
