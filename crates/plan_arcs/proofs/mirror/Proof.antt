-- The rows above a are done, and so is row a left of column b.
use mathlib.Core.Path.{◌≡◌, refl, ◌∙◌}
use Prim.Native.Nat.{◌+◌, ◌-◌, ◌*◌, ◌≤◌, ◌<◌}
use native.Mathlib.Omega.{arith}
use lib.ListN.{length, get_or, length-set}
use lib.IntN.{pos}
use mir.Syntax.{w16}
use mir.Val.{SFits}
use mir.Facts.{to_z-of_z}
use borrow.Author.Rules.{rules}
use Rattle.network.specs.Network.{Weights}
use Rattle.network.specs.Table.{entry}
use Rattle.network.proofs.TableLaws.{row_inside}
use Rattle.plan_arcs.specs.Arcs.{mirrored}
use Rattle.plan_arcs.proofs.RowFillLaws.{RowsFilled, rows_start, rows_store, rows_next, rows_all}
use Rattle.plan_arcs.proofs.mirror.Statement.{statement}
use Rattle.plan_arcs.proofs.mirror.Tie as tie

abbrev invariant-loop2 : tie.invariant-loop-b
invariant-loop2 t w out₀ a row column b₀ out b =
    (a < w) × (b ≤ w) × (length out ≡ length out₀)
    × ((f : Weights) → RowsFilled w f (mirrored (w - 1) (entry w t)) a 0 out₀ → RowsFilled w f (mirrored (w - 1) (entry w t)) a b out)

abbrev decreases-loop2 : tie.decreases-loop-b
decreases-loop2 t w out₀ a row column b₀ out b = w - b

abbrev invariant-loop : tie.invariant-loop-a
invariant-loop t w out₀ a₀ out a = (a ≤ w) × (length out ≡ length out₀) × RowsFilled w (entry w out₀) (mirrored (w - 1) (entry w t)) a 0 out

abbrev decreases-loop : tie.decreases-loop-a
decreases-loop t w out₀ a₀ out a = w - a

loop-holds : tie.Need-loop-a-init invariant-loop2 decreases-loop2 invariant-loop decreases-loop
loop-holds c =
    let g = c.args in
    let d = mirrored (g.w - 1) (entry g.w g.t.now) in
    (omega arith, refl, rows_start g.w (entry g.w g.out.now) d 0 g.out.now (λ a b ha hb. refl) (λ y h. absurd (omega arith)))

-- the place that a turn reads is inside the table, and so is the one that it stores to
inside : (c : tie.In-loop-b invariant-loop2 decreases-loop2 invariant-loop decreases-loop)
    → let g = c.args in
    let a = c.loop-a.a in
    let b = c.loop-b.b in
    ((g.w - 1 - b) * g.w + (g.w - 1 - a) < length g.t.now) × (a * g.w + b < length c.loop-b.out)
inside c =
    let st = c in
    let w = st.args.w in
    let r = c.loop-a in
    let l = c.loop-b in
    let n = row_inside (w - 1 - l.b) w (omega arith) in
    let m = row_inside r.a w (omega arith) in
    (omega (arith, st.requires), omega (arith, st.requires, r.invariant.1, l.invariant.2))

loop2_again : tie.Need-loop-b-preserved invariant-loop2 decreases-loop2 invariant-loop decreases-loop
loop2_again c =
    let g = c.args in
    let w = g.w in
    let t = g.t.now in
    let a = c.loop-a.a in
    let l = c.loop-b in
    let v = entry w t (w - 1 - l.b) (w - 1 - a) in
    let fits : SFits w16 (get_or t ((w - 1 - l.b) * w + (w - 1 - a)) (pos 0)) = search rules in
    let long = inside c.before in
    simp (to_z-of_z fits) (
      omega arith,
      omega arith,
      length-set l.out (a * w + l.b) v ∙ l.invariant.2,
      λ f F. rows_store w f (mirrored (w - 1) (entry w t)) a l.b l.out (l.invariant.3 f F) v
          (omega (arith, l.invariant.2, c.loop-a.invariant.1)) (omega arith) (omega arith) refl,
    )

loop-again : tie.Need-loop-a-preserved invariant-loop2 decreases-loop2 invariant-loop decreases-loop
loop-again c =
    let g = c.args in
    let r = c.loop-a in
    let l = c.loop-b in
    let f = entry g.w g.out.now in (
      omega arith,
      l.invariant.2 ∙ r.invariant.1,
      rows_next g.w f (mirrored (g.w - 1) (entry g.w g.t.now)) r.a l.b l.out (l.invariant.3 f r.invariant.2) 0 (omega arith)
          (λ y h. absurd (omega arith)),
    )

returns : tie.Need-returns invariant-loop2 decreases-loop2 invariant-loop decreases-loop
returns c =
    let g = c.args in
    let l = c.loop-a in
    rows_all g.w (entry g.w g.out.now) (mirrored (g.w - 1) (entry g.w g.t.now)) l.a 0 l.out l.invariant.2 (omega arith)

pub mirror_spec : {M : Type 1} → statement M
mirror_spec = tie.close (tie.spec invariant-loop2 decreases-loop2 invariant-loop decreases-loop loop-holds
    (λ c. omega (arith, row_inside c.loop-a.a c.args.w (omega arith))) (λ c. omega arith) (λ c. omega arith)
    (λ c. (omega arith, omega arith, refl, λ f F. F)) (λ c. omega arith) (λ c. omega arith) (λ c. omega (arith, inside c))
    (λ c. omega (arith, inside c)) (λ c. omega (arith, inside c)) (λ c. (inside c).0) (λ c. omega (arith, inside c.before))
    (λ c. omega (arith, inside c.before)) (λ c. (inside c.before).1) (λ c. omega arith) (λ c. omega arith) loop2_again (λ c. omega arith)
    (λ c. omega arith) loop-again (λ c. c.loop-a.invariant.1) returns)
