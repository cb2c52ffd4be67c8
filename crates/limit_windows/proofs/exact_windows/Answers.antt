-- Key idea: each turn takes 1 from the entry of the unit's own stretch (`taken`).
use Rattle.std.proofs.Common.{◌≡◌, refl, sym, ap₂, ◌∙◌, subst, rules, arith, List, ℕ, ◌-◌, ◌*◌, ◌+◌, ◌<◌, ◌++◌, ◌∷◌, length, length-append, get_or, [], pos, to_z-of_z, SFits, w16}
use Rattle.sheet.specs.Questions.{windows_of}
use Rattle.limit_windows.specs.Inside.{exact_weights}
use Rattle.limit_places.specs.LentTableLaws.{TableFilled, cleared_filled, filled_is}
use Rattle.limit_windows.proofs.Exact.{Taken, taken, done_all}
use Rattle.std.proofs.lemmas.Slice.Zip.{zip_turn, zip_end}
use Rattle.limit_windows.proofs.exact_windows.Goals as goal
use Rattle.limit_windows.proofs.exact_windows.Goals.{In-Some, After-back_place}

-- the window whose turn it is
record Here (first last : List ℕ) (j f l : ℕ) : Type 0 where
  inside : j < length first
  opens : f ≡ get_or first j 0
  closes : l ≡ get_or last j 0

here : (c : In-Some) → Here c.args.first.now c.args.last.now (length c.loop-first.yielded) c.in-Some.field-0-0.now c.in-Some.field-0-1.now
here c =
    let z = zip_turn c.args.first.now c.args.last.now c.loop-first.yielded c.into_iter-first-iterator.result c.loop-first.first-iterator c.next.new.self
    c.next.result (cc) (cc) c.loop-first.yielded_by _ c.in-Some.is c.next.ensures.steps in
    record { inside = z.0; opens = z.2 0; closes = z.3 0 }

one : (c : After-back_place) → Here c.args.first.now c.args.last.now (length c.loop-first.yielded) c.in-Some.field-0-0.now c.in-Some.field-0-1.now
    → Taken c.args.w c.args.first.now c.args.last.now c.requires.1 c.args.t.now (length c.loop-first.yielded) c.back_place.result c.loop-first.t
one c h =
    taken c.args.w c.args.first.now c.args.last.now c.requires.1 c.args.t.now (length c.loop-first.yielded) c.back_place.result c.loop-first.t
    c.requires.0 h.inside (c.back_place.ensures ∙ ap₂ (λ (l f : ℕ). l * c.args.w + (f - 1)) h.closes h.opens) c.loop-first.invariant

pub loop-first-init : goal.loop-first-init
unfolding exact_weights
loop-first-init c =
    subst (TableFilled c.args.w (exact_weights []) c.args.t.now) (sym c.clear.ensures)
    (cleared_filled c.args.w (exact_weights []) c.args.t.now c.requires.0 (λ x y. refl))

pub back_place-requires : goal.back_place-requires
back_place-requires c =
    let h = here (goal.at.back_place-requires c).In-Some in
    let e = c.requires.1.each (length c.loop-first.yielded) h.inside in
    (omega arith, omega arith, omega arith, omega arith)

pub overflow_sub-t : goal.overflow_sub-t
overflow_sub-t c =
    let f : SFits w16 (get_or c.loop-first.t c.back_place.result (pos 0)) = search rules in
    rw (to_z-of_z f) (one (goal.at.overflow_sub-t c).After-back_place (here (goal.at.overflow_sub-t c).In-Some)).fits

pub bounds-t-back_place : goal.bounds-t-back_place
bounds-t-back_place c = (one (goal.at.bounds-t-back_place c).After-back_place (here (goal.at.bounds-t-back_place c).In-Some)).inside

pub loop-first-preserved : goal.loop-first-preserved
loop-first-preserved c =
    let a = c.args in
    let o = one (goal.at.loop-first-preserved c).After-back_place (here (goal.at.loop-first-preserved c).In-Some) in
    let f : SFits w16 (get_or c.loop-first.t c.back_place.result (pos 0)) = search rules in
    let e : length c.loop-first.yielded + 1 ≡ length (c.loop-first.yielded ++ ((c.in-Some.field-0-0, c.in-Some.field-0-1) ∷ [])) =
    simp length-append (omega arith) in
    rw (to_z-of_z f, to_z-of_z o.fits, sym e) o.next

pub returns : goal.returns
returns c =
    let a = c.args in
    let e : length c.loop-first.yielded ≡ length a.first.now =
    zip_end a.first.now a.last.now c.loop-first.yielded c.into_iter-first-iterator.result c.loop-first.first-iterator c.next.new.self
    c.next.result (cc) (cc) c.loop-first.yielded_by c.in-None.is c.next.ensures.steps ∙ omega (arith, c.requires.1.paired) in
    let ws = windows_of a.first.now a.last.now in
    filled_is a.w (exact_weights ws) a.t.now c.loop-first.t c.requires.0
    (rw (sym (done_all a.w a.first.now a.last.now c.requires.1 a.t.now), sym e) c.loop-first.invariant)
