-- The windows that open before f have their least cuts, and the floors bar what is known for those that open later.
use Rattle.plan_cuts.proofs.CutWindowsLaws.{CutWindows, windows_none, row_length, known_row, windows_more}
use Rattle.network.proofs.TableLaws.{row_inside}
use mathlib.Core.Path.{◌≡◌, sym, ◌∙◌}
use Prim.Native.Nat.{◌-◌, ◌+◌, ◌*◌, ◌≤◌}
use native.Mathlib.Omega.{arith}
use lib.ListN.{length}
use borrow.Author.Rules.{rules}
use Rattle.plan_cuts.proofs.cut_windows.Statement.{statement}
use Rattle.plan_cuts.proofs.cut_windows.Tie as tie

abbrev invariant-loop : tie.invariant-loop-f
invariant-loop d m w marks₀ floor₀ f₀ marks floor f = CutWindows w d m marks₀ marks floor f

abbrev decreases-loop : tie.decreases-loop-f
decreases-loop d m w marks₀ floor₀ f₀ marks floor f = w - f

loop-holds : tie.Need-loop-f-init invariant-loop decreases-loop
loop-holds c =
    let st = c in
    let a = st.args in
    windows_none a.w a.d.now a.m.now a.marks.now st.requires.2 st.requires.0.some

-- the row in hand is inside the room for the marks
row_fits : (c : tie.In-loop-f invariant-loop decreases-loop)
    → c.loop-f.f * c.args.w + c.args.w ≤ length c.loop-f.marks
row_fits c =
    let st = c in
    omega (arith, row_inside c.loop-f.f st.args.w c.loop-f-test.true, c.loop-f.invariant.long, st.requires.1)

cut_row_requires : tie.Need-cut_row-requires invariant-loop decreases-loop
cut_row_requires c κs =
    let at = c in
    let st = at in
    let a = st.args in
    let l = at.loop-f in
    let h = c.loop-f-test.true in
    let k = l.f * a.w + a.w - l.f * a.w in
    let e : k ≡ a.w = omega arith in (
      (
        st.requires.0,
        l.invariant.place.0,
        h,
        row_length l.invariant st.requires.1 st.requires.2 h e,
        omega (arith, l.invariant.wide, st.requires.0.most),
      ),
      (known_row l.invariant st.requires.1 st.requires.2 h e, l.invariant.floored),
    )

add_f : tie.Need-overflow_step-f invariant-loop decreases-loop
add_f c = let at = c in omega
    (arith, c.loop-f-test.true, at.requires.0.most)

loop-again : tie.Need-loop-f-preserved invariant-loop decreases-loop
loop-again c =
    let at = c in
    let st = at in
    let a = st.args in
    let l = at.loop-f in
    let h = c.loop-f-test.true in
    let r = c.cut_row in
    let k = l.f * a.w + a.w - l.f * a.w in
    let e : k ≡ a.w = omega arith in
    let n = row_length l.invariant st.requires.1 st.requires.2 h e in
    windows_more l.invariant st.requires.1 st.requires.2 h e r.new.row r.new.floor (r.auto.row ∙ n ∙ sym e)
    (r.auto.floor ∙ l.invariant.wide) r.ensures.0
    r.ensures.1

returns : tie.Need-returns invariant-loop decreases-loop
returns c =
    let l = c.loop-f in
    let w = c.args.w in
    let e : l.f ≡ w = omega (arith, l.invariant.place, c.loop-f-test.false) in
    λ f k hf hk. l.invariant.done f k (omega arith) hk

pub cut_windows_spec : {M : Type 1} → statement M
cut_windows_spec = tie.close (tie.spec invariant-loop decreases-loop loop-holds (λ c. omega (arith, row_fits c, c.well_formed))
    (λ c. omega (arith, row_fits c, c.well_formed)) (λ c. omega (arith, row_fits c, c.well_formed))
    (λ c. omega (arith, row_fits c, c.well_formed)) (λ c. omega (arith, row_fits c, c.well_formed))
    (λ c. omega (arith, row_fits c, c.well_formed)) (λ c. search rules) cut_row_requires add_f
    (λ c. omega (arith, c.loop-f-test.true)) loop-again (λ c. c.loop-f.invariant.long) returns)
