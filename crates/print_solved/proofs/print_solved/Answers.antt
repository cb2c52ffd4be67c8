-- The sheet is planned in arrays of the call's own; how that ended decides what the call leaves.
-- Key idea: what planning left in the call's own arrays (`plan_own`, `none_own`) answers every goal past the call of solve.
use Rattle.std.proofs.Common.{◌≡◌, List, ℕ, ℤ, ◌≤◌, T, refl, sym, ap, subst, ◌∙◌, arith, pos, length, true}
use Rattle.std.proofs.lemmas.List.{length-replicate}
use lib.Seq.{length-take-le}
use Rattle.network_pass.specs.Pass.{finished, stopped}
use Rattle.sheet.specs.Sizes.{max_cells}
use Rattle.sheet.specs.Sheet.{is_ring}
use Rattle.sheet.specs.Questions.{loaders_fit}
use Rattle.sheet.specs.Lists.{Lists, WrittenLists, listed, given, given_by}
use Rattle.limits.specs.LimitTable.{limit_table, CanFill}
use Rattle.plan_rooms.specs.Rooms.{Rooms, lent, plan_lent, rooms_fit}
use Rattle.plan_ask.specs.Asking.{Solvable}
use Rattle.plan_ask.proofs.AskingLaws.{span_bound}
use Rattle.plan_steps.specs.Closing.{passed}
use Rattle.plan_answers.specs.Planning.{by_pass, Settled}
use Rattle.plan_answers.specs.Reply.{Reply, fit_reply}
use Rattle.print_answer.specs.Printing.{PrintingOf}
use Rattle.print_answer.specs.Reply as says
use Rattle.print_solved.specs.OwnLaws.{own_rooms, own_solvable, cells_few, PlanFronts, Front}
use Rattle.print_solved.specs.OwnLaws.{plan_own, plan_asked, plan_shown, none_own, limits_fillable, ring_asked, ring_shown}
use Rattle.print_solved.proofs.print_solved.Goals.{In-Ok, In-Err}
use Rattle.print_solved.proofs.print_solved.Goals as goal

-- the sheet has passed all questions, with the rooms lent
abbrev Passes : Rooms → Lists → Type 0
Passes b l = Solvable l (rooms_fit (given l) (plan_lent b))

-- what planning left in the call's own arrays
abbrev Ends : Rooms → Reply → Lists → Type 0
Ends after reply l = Settled (by_pass (passed (given l))) (given l) own_rooms reply after

-- what printing is to leave, for these lists
abbrev Prints : Rooms → List ℕ → ℕ → says.Reply → Rooms → List ℕ → WrittenLists → Type 0
Prints before page at out after left l = PrintingOf (by_pass (passed (given_by l))) l.loader (given_by l) before page at out after left

-- the code looks into the lists piece by piece
pieces : (before : Rooms) (page : List ℕ) (at : ℕ) (out : says.Reply) (after : Rooms) (left ks : List ℕ) (seen l : Lists) (w : WrittenLists)
    → seen ≡ l → record { loader = ks; constraints = l } ≡ w → Prints before page at out after left (record { loader = ks; constraints = seen })
    → Prints before page at out after left w
pieces before page at out after left ks seen l w e f p =
    subst (Prints before page at out after left) f (subst (λ x. Prints before page at out after left (record { loader = ks; constraints = x })) e p)

pub solve-fit-requires : goal.solve-fit-requires
solve-fit-requires c =
    let a = c.args in
    let b = lent a.table.now a.plan.now a.earliest.now a.latest.now a.ring.now in
    own_solvable c.lists.inside.constraints _ (subst (λ x. Passes b x.constraints) (sym c.lists.view_is) c.requires.fact)

-- the sheet's lists, as the code looks into them
abbrev seen : In-Ok → Lists
seen c = let g = c.given.inside in listed g.span g.first.now g.last.now g.from.now g.to.now g.low.now g.high.now

abbrev seen_ring : In-Err → Lists
seen_ring c = let g = c.given.inside in listed g.span g.first.now g.last.now g.from.now g.to.now g.low.now g.high.now

abbrev rooms : In-Ok → Rooms
rooms c = let a = c.args in lent a.table.now a.plan.now a.earliest.now a.latest.now a.ring.now

abbrev rooms_ring : In-Err → Rooms
rooms_ring c = let a = c.args in lent a.table.now a.plan.now a.earliest.now a.latest.now a.ring.now

abbrev after : In-Ok → Rooms
after c = let r = c.solve-fit.new in lent r.table r.plan r.earliest r.latest r.ring

abbrev after_ring : In-Err → Rooms
after_ring c = let r = c.solve-fit.new in lent r.table r.plan r.earliest r.latest r.ring

pub boundaries-w-requires : goal.boundaries-w-requires
boundaries-w-requires c =
    let a = c.args in
    let b = lent a.table.now a.plan.now a.earliest.now a.latest.now a.ring.now in
    let passes = subst (λ x. Passes b x.constraints) (sym c.lists.view_is) c.requires.fact in
    let g = c.given.inside in
    span_bound (listed g.span g.first.now g.last.now g.from.now g.to.now g.low.now g.high.now) (subst (Passes b) (sym c.given.view_is) passes).sheet

-- ---- a plan was found

passes : (c : In-Ok) → Passes (rooms c) (seen c)
passes c = subst (Passes (rooms c)) (sym c.given.view_is) (subst (λ x. Passes (rooms c) x.constraints) (sym c.lists.view_is) c.requires.fact)

found : (c : In-Ok) → (t : List ℤ) × (passed (given (seen c)) ≡ finished t)
    × PlanFronts (given (seen c)) c.boundaries-w.result (length (seen c).first) t (after c)
found c =
    plan_own (seen c) (rooms c) (passes c) c.boundaries-w.result c.boundaries-w.ensures own_rooms (after c) (fit_reply c.solve-fit.result)
    (subst (Ends (after c) (fit_reply c.solve-fit.result)) (sym c.given.view_is) c.solve-fit.ensures) (ap fit_reply c.in-Ok.is)

pub slice_bounds-seats-end : goal.slice_bounds-seats-end
slice_bounds-seats-end c = (found (goal.at.slice_bounds-seats-end c).In-Ok).2.seats.long

pub slice_bounds-solved-end : goal.slice_bounds-solved-end
slice_bounds-solved-end c = sym (length-take-le _ _ (found (goal.at.slice_bounds-solved-end c).In-Ok).2.seats.long)

pub slice_bounds-firsts-end : goal.slice_bounds-firsts-end
slice_bounds-firsts-end c = (found (goal.at.slice_bounds-firsts-end c).In-Ok).2.firsts.long

pub slice_bounds-solved-end-in-Ok : goal.slice_bounds-solved-end-in-Ok
slice_bounds-solved-end-in-Ok c = sym (length-take-le _ _ (found (goal.at.slice_bounds-solved-end-in-Ok c).In-Ok).2.firsts.long)

pub slice_bounds-lasts-end : goal.slice_bounds-lasts-end
slice_bounds-lasts-end c = (found (goal.at.slice_bounds-lasts-end c).In-Ok).2.lasts.long

pub slice_bounds-solved-end-in-Ok-2 : goal.slice_bounds-solved-end-in-Ok-2
slice_bounds-solved-end-in-Ok-2 c = sym (length-take-le _ _ (found (goal.at.slice_bounds-solved-end-in-Ok-2 c).In-Ok).2.lasts.long)

pub overflow_mul-closed : goal.overflow_mul-closed
overflow_mul-closed c =
    let o = (goal.at.overflow_mul-closed c).In-Ok in
    omega (arith, cells_few (seen o) (rooms o) (passes o) c.boundaries-w.result c.boundaries-w.ensures)

pub slice_bounds-closed-end : goal.slice_bounds-closed-end
slice_bounds-closed-end c = (found (goal.at.slice_bounds-closed-end c).In-Ok).2.closed.long

pub slice_bounds-solved-end-in-Ok-3 : goal.slice_bounds-solved-end-in-Ok-3
slice_bounds-solved-end-in-Ok-3 c = sym (length-take-le _ _ (found (goal.at.slice_bounds-solved-end-in-Ok-3 c).In-Ok).2.closed.long)

-- the units' loader numbers, as the code looks into them
loaders : (c : In-Ok) → T (loaders_fit c.lists.inside.loader.now) × (length c.lists.inside.loader.now ≡ length (seen c).first)
loaders c =
    let e : (seen c).first ≡ c.lists.inside.constraints.first = ap (λ x. x.first) c.given.view_is in
    let t = subst (λ x. T (loaders_fit x.loader) × (length x.loader ≡ length x.constraints.first)) (sym c.lists.view_is) c.requires.t in
    (t.0, t.1 ∙ sym (ap length e))

pub print_plan-requires-clause-printable : goal.print_plan-requires-clause-printable
print_plan-requires-clause-printable c =
    let o = (goal.at.print_plan-requires-clause-printable c).In-Ok in
    let f = found o in
    let k = loaders o in
    (plan_asked (seen o) (rooms o) (passes o) c.boundaries-w.result c.boundaries-w.ensures c.lists.inside.loader.now k.0 k.1 (after o) f.0 f.1 f.2).0

pub print_plan-requires-clause-closed_in_bounds : goal.print_plan-requires-clause-closed_in_bounds
print_plan-requires-clause-closed_in_bounds c =
    let o = (goal.at.print_plan-requires-clause-closed_in_bounds c).In-Ok in
    let f = found o in
    let k = loaders o in
    (plan_asked (seen o) (rooms o) (passes o) c.boundaries-w.result c.boundaries-w.ensures c.lists.inside.loader.now k.0 k.1 (after o) f.0 f.1 f.2).1.0

pub print_plan-requires-clause-closed_len_bound : goal.print_plan-requires-clause-closed_len_bound
print_plan-requires-clause-closed_len_bound c =
    let o = (goal.at.print_plan-requires-clause-closed_len_bound c).In-Ok in
    let f = found o in
    let k = loaders o in
    (plan_asked (seen o) (rooms o) (passes o) c.boundaries-w.result c.boundaries-w.ensures c.lists.inside.loader.now k.0 k.1 (after o) f.0 f.1 f.2).1.1

pub returns-in-Ok : goal.returns-in-Ok
returns-in-Ok c =
    let o = (goal.at.returns-in-Ok c).In-Ok in
    let f = found o in
    let k = loaders o in
    let shown = plan_shown (seen o) (rooms o) (passes o) c.boundaries-w.result c.boundaries-w.ensures c.lists.inside.loader.now k.0 k.1 (after o) f.0 f.1 f.2
    c.args.page.now c.args.at _ _ _ _ _ _ c.print_plan.ensures in
    pieces _ _ _ _ _ _ _ _ _ _ c.given.view_is c.lists.view_is shown

-- ---- none, and a ring

ring_passes : (c : In-Err) → Passes (rooms_ring c) (seen_ring c)
ring_passes c = subst (Passes (rooms_ring c)) (sym c.given.view_is) (subst (λ x. Passes (rooms_ring c) x.constraints) (sym c.lists.view_is) c.requires.fact)

ring_found : (c : In-Err) → (ring : List ℕ) × T (is_ring (given (seen_ring c)) ring) × (passed (given (seen_ring c)) ≡ stopped)
    × Front c.in-Err.none.length ring (after_ring c).ring
ring_found c =
    none_own (seen_ring c) (rooms_ring c) (ring_passes c) c.boundaries-w.result c.boundaries-w.ensures own_rooms (after_ring c) (fit_reply c.solve-fit.result)
    (subst (Ends (after_ring c) (fit_reply c.solve-fit.result)) (sym c.given.view_is) c.solve-fit.ensures) c.in-Err.none.length (ap fit_reply c.in-Err.is)

pub slice_bounds-found-end : goal.slice_bounds-found-end
slice_bounds-found-end c =
    (ring_found (goal.at.slice_bounds-found-end c).In-Err).3.long

pub slice_bounds-print_ring-end-in-Err : goal.slice_bounds-print_ring-end-in-Err
slice_bounds-print_ring-end-in-Err c =
    sym (length-take-le _ _ (ring_found (goal.at.slice_bounds-print_ring-end-in-Err c).In-Err).3.long)

pub fill_limits-requires : goal.fill_limits-requires
fill_limits-requires c =
    let o = (goal.at.fill_limits-requires c).In-Err in
    let f = ring_found o in
    subst (λ l. CanFill l (length c.solve-fit.new.table)) c.given.view_is
    (limits_fillable (seen_ring o) (rooms_ring o) (ring_passes o) c.boundaries-w.result c.boundaries-w.ensures (after_ring o) f.0 f.1 f.2 _ f.3
    c.solve-fit.new.table (c.solve-fit.auto.table ∙ length-replicate max_cells (pos 0)))

pub print_ring-requires-clause-ring_fits : goal.print_ring-requires-clause-ring_fits
print_ring-requires-clause-ring_fits c =
    let o = (goal.at.print_ring-requires-clause-ring_fits c).In-Err in
    let f = ring_found o in
    let filled = subst (λ x. c.fill_limits.new.t ≡ limit_table (given x) c.solve-fit.new.table) (sym c.given.view_is) c.fill_limits.ensures in
    (ring_asked (seen_ring o) (rooms_ring o) (ring_passes o) c.boundaries-w.result c.boundaries-w.ensures (after_ring o) f.0 f.1 f.2 _ f.3 c.solve-fit.new.table
    (c.solve-fit.auto.table ∙ length-replicate max_cells (pos 0)) c.fill_limits.new.t filled).0

pub print_ring-requires-clause-w_in_bounds : goal.print_ring-requires-clause-w_in_bounds
print_ring-requires-clause-w_in_bounds c =
    let o = (goal.at.print_ring-requires-clause-w_in_bounds c).In-Err in
    let f = ring_found o in
    let filled = subst (λ x. c.fill_limits.new.t ≡ limit_table (given x) c.solve-fit.new.table) (sym c.given.view_is) c.fill_limits.ensures in
    (ring_asked (seen_ring o) (rooms_ring o) (ring_passes o) c.boundaries-w.result c.boundaries-w.ensures (after_ring o) f.0 f.1 f.2 _ f.3 c.solve-fit.new.table
    (c.solve-fit.auto.table ∙ length-replicate max_cells (pos 0)) c.fill_limits.new.t filled).1.0

pub print_ring-requires-clause-found_len_bound : goal.print_ring-requires-clause-found_len_bound
print_ring-requires-clause-found_len_bound c =
    let o = (goal.at.print_ring-requires-clause-found_len_bound c).In-Err in
    let f = ring_found o in
    let filled = subst (λ x. c.fill_limits.new.t ≡ limit_table (given x) c.solve-fit.new.table) (sym c.given.view_is) c.fill_limits.ensures in
    (ring_asked (seen_ring o) (rooms_ring o) (ring_passes o) c.boundaries-w.result c.boundaries-w.ensures (after_ring o) f.0 f.1 f.2 _ f.3 c.solve-fit.new.table
    (c.solve-fit.auto.table ∙ length-replicate max_cells (pos 0)) c.fill_limits.new.t filled).1.1

pub returns-in-Err : goal.returns-in-Err
returns-in-Err c =
    let o = (goal.at.returns-in-Err c).In-Err in
    let f = ring_found o in
    let filled = subst (λ x. c.fill_limits.new.t ≡ limit_table (given x) c.solve-fit.new.table) (sym c.given.view_is) c.fill_limits.ensures in
    let shown = ring_shown (seen_ring o) (rooms_ring o) (ring_passes o) c.boundaries-w.result c.boundaries-w.ensures (after_ring o) f.0 f.1 f.2 _ f.3
    c.solve-fit.new.table (c.solve-fit.auto.table ∙ length-replicate max_cells (pos 0)) c.lists.inside.loader.now c.fill_limits.new.t filled
    c.args.page.now c.args.at _ _ _ _ c.print_ring.ensures in
    pieces _ _ _ _ _ _ _ _ _ _ c.given.view_is c.lists.view_is shown
