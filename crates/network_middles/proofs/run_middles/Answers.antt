-- Each turn is a law of `PassSteps`, and a return hands over what the pass's definition says at that row.
use Rattle.std.proofs.Common.{ℕ, ◌+◌, ◌-◌, ◌*◌, ◌≤◌, ◌<◌, min, ◌≡◌, refl, ◌∙◌, subst, true, false, List, ℤ, pos, length, get_or, take, drop, arith, rules}
use Rattle.std.proofs.Common.{FitsSigned, w16, to_z, of_z, to_z-of_z}
use Rattle.lists.specs.Slices.{back, back_length, back_past, part_length}
use Rattle.network.specs.Table.{max_boundaries}
use Rattle.network.proofs.TableLaws.{row_inside}
use Rattle.network.specs.RowStep.{stretch}
use Rattle.network_middles.proofs.PassSteps.{MidIs, mid_is, RowIs, RowOver, stretch_fits, row_is, row_done, row_low}
use Rattle.network_middles.proofs.PassSteps.{ColsInv, cols_long, cols_again, cols_low}
use Rattle.network_middles.proofs.PassSteps.{rows_past, rows_low, rows_again, pass_start, begins_small, middle_again, pass_left}
use Rattle.network_middles.proofs.run_middles.Goals as goal
use Rattle.network_middles.proofs.run_middles.Goals.{After-stretches-k-end, After-stretch_end-e}

-- ---- a row, once its stretches are counted
abbrev size : ℕ → ℕ → ℕ
size a w = a * w + w - a * w

abbrev part : ℕ → ℕ → List ℤ → List ℤ
part a w t = take (size a w) (drop (a * w) t)

abbrev read : ℤ → ℤ
read z = to_z w16 (of_z w16 z)

row_room : (c : After-stretches-k-end) → (c.loop-a.a * c.args.w + c.args.w ≤ length c.loop-a.t) × (size c.loop-a.a c.args.w ≡ c.args.w)
row_room c =
    let inside = row_inside c.loop-a.a c.args.w c.loop-a-test.true in
    (omega (arith, c.requires, c.loop-m.invariant.long, c.loop-a.invariant.long), omega arith)

row_here : (c : After-stretches-k-end) → RowIs c.args.w c.loop-a.a c.loop-m.t (part c.loop-a.a c.args.w c.loop-a.t)
row_here c = row_is c.loop-a.invariant (size c.loop-a.a c.args.w) (row_room c).1 (omega (arith, row_room c))

mid_here : (c : After-stretches-k-end) → MidIs c.args.w c.loop-m.m c.loop-m.t c.load_row.new.out
mid_here c =
    let h : c.loop-m.m < c.args.w = omega (arith, c.loop-m-test.true, c.requires) in
    let inside = row_inside c.loop-m.m c.args.w h in
    let S = begins_small c.loop-m.invariant c.loop-m-test.true c.requires.5 in
    mid_is c.loop-m.mid h S (omega (arith, c.requires, c.loop-m.invariant.long)) c.load_row.ensures

over : (c : After-stretches-k-end) → (let row = part c.loop-a.a c.args.w c.loop-a.t in
    RowOver c.args.w c.loop-m.m c.loop-a.a c.loop-m.t c.load_row.new.out row (read (get_or row c.loop-m.m (pos 0))))
over c =
    let f : FitsSigned w16 (get_or (part c.loop-a.a c.args.w c.loop-a.t) c.loop-m.m (pos 0)) = search rules in
    record { inside = c.loop-a-test.true; middle = mid_here c; row = row_here c; over = to_z-of_z f ∙ (row_here c).at c.loop-m.m (mid_here c).inside }

-- ---- a stretch of it
stretch_here : (c : After-stretch_end-e)
    → (c.loop-k.k * stretch < c.stretch_end-e.result) × (c.stretch_end-e.result ≤ c.args.w) × (c.args.w ≤ max_boundaries)
stretch_here c =
    let h : c.loop-k.k * stretch < c.args.w = omega (arith, c.loop-k-test.true, c.stretches-k-end.ensures) in
    (omega (arith, c.stretch_end-e.ensures), omega (arith, c.stretch_end-e.ensures), c.requires.1)

cols_here : (c : After-stretch_end-e) → (let row = part c.loop-a.a c.args.w c.loop-a.t in
    ColsInv (read (get_or row c.loop-m.m (pos 0))) c.load_row.new.out row c.args.w c.loop-a.a c.loop-k.row (c.loop-k.k * stretch))
cols_here c =
    let row = part c.loop-a.a c.args.w c.loop-a.t in
    let e : min (c.loop-k.k * stretch) c.args.w ≡ c.loop-k.k * stretch = omega (arith, stretch_here c) in
    subst (λ (b : ℕ). ColsInv (read (get_or row c.loop-m.m (pos 0))) c.load_row.new.out row c.args.w c.loop-a.a c.loop-k.row b) e c.loop-k.invariant

-- ---- the goals
pub loop-m-init : goal.loop-m-init
loop-m-init c = pass_start (omega arith) refl

pub relax_row-requires : goal.relax_row-requires
relax_row-requires c =
    let at = goal.at.relax_row-requires c in
    let s = stretch_here at.After-stretch_end-e in
    let cols = cols_here at.After-stretch_end-e in
    let b = c.loop-k.k * stretch in
    let e = c.stretch_end-e.result in
    let n = part_length b (e - b) c.loop-k.row (omega (arith, s, cols.long)) in
    let room : length c.load_row.new.out ≡ max_boundaries = c.load_row.auto.out ∙ c.loop-m.invariant.room in
    let o = part_length b (e - b) c.load_row.new.out (omega (arith, s, room)) in
    (omega (arith, n, o), stretch_fits (over at.After-stretches-k-end) b (e - b) (omega (arith, s)))

pub loop-k-preserved : goal.loop-k-preserved
loop-k-preserved c =
    let at = (goal.at.loop-k-preserved c).After-stretch_end-e in
    let s = stretch_here at in
    let row = part c.loop-a.a c.args.w c.loop-a.t in
    let b = c.loop-k.k * stretch in
    let e = c.stretch_end-e.result in
    let n : e ≡ min ((c.loop-k.k + 1) * stretch) c.args.w = omega (arith, c.stretch_end-e.ensures) in
    subst (λ (i : ℕ). ColsInv (read (get_or row c.loop-m.m (pos 0))) c.load_row.new.out row c.args.w c.loop-a.a (back b (e - b) c.relax_row.new.row c.loop-k.row) i) n
    (cols_again (cols_here at) e s.0 s.1 c.relax_row.ensures c.falls.ensures c.if-falls.false)

pub loop-a-preserved : goal.loop-a-preserved
loop-a-preserved c =
    let at = (goal.at.loop-a-preserved c).After-stretches-k-end in
    let w = c.args.w in
    let a = c.loop-a.a in
    let s = over at in
    let q = c.loop-k in
    let hb : w ≤ min (q.k * stretch) w = omega (arith, c.loop-k-test.false, c.stretches-k-end.ensures) in
    rows_again c.loop-a.invariant c.loop-a-test.true (size a w) (row_room at).1 (omega (arith, row_room at))
    (row_done s q.invariant hb) (row_low s false (q.invariant.fine (omega (arith, c.loop-a-test.true, hb))))

pub loop-m-preserved : goal.loop-m-preserved
loop-m-preserved c = middle_again c.loop-m.invariant c.loop-m-test.true c.loop-a.invariant c.loop-a-test.false (c.load_row.auto.out ∙ c.loop-m.invariant.room)

pub returns-then-falls : goal.returns-then-falls
returns-then-falls c =
    let at = goal.at.returns-then-falls c in
    let w = c.args.w in
    let a = c.loop-a.a in
    let r = row_room at.After-stretches-k-end in
    let s = stretch_here at.After-stretch_end-e in
    let cols = cols_here at.After-stretch_end-e in
    let b = c.loop-k.k * stretch in
    let e = c.stretch_end-e.result in
    let row = back b (e - b) c.relax_row.new.row c.loop-k.row in
    let low = cols_low cols e s.0 s.1 c.relax_row.ensures c.falls.ensures c.if-falls.true in
    let fits : a * w + size a w ≤ length c.loop-a.t = omega (arith, r) in
    let long : length row ≡ size a w = omega (arith, r, cols_long cols e s.0 s.1 c.relax_row.ensures) in
    let inside = row_inside a w c.loop-a-test.true in
    pass_left c.loop-m.invariant c.loop-m-test.true (back (a * w) (size a w) row c.loop-a.t)
    (rows_low c.loop-a.invariant c.loop-a-test.true (row_low (over at.After-stretches-k-end) true low))
    (back_length (a * w) (size a w) row c.loop-a.t fits long ∙ c.loop-a.invariant.long)
    (back_past (a * w) (size a w) row c.loop-a.t fits long (w * w) (omega (arith, r)) ∙ rows_past c.loop-a.invariant (omega arith))
