-- What a store reads stands below the diagonal, where no store goes; so each row is done from the old table.
use mathlib.Core.Path.{◌≡◌, refl, sym, ap, ◌∙◌, subst}
use Prim.Native.Nat.{◌+◌, ◌-◌, ◌*◌, ◌≤◌, ◌<◌}
use native.Mathlib.Omega.{arith}
use lib.ListN.{length, get_or, length-set}
use lib.IntN.{ℤ, pos, negsuc, ◌+ℤ◌}
use mir.Syntax.{w16}
use mir.Val.{SFits}
use mir.Facts.{to_z-of_z}
use borrow.Author.Rules.{rules}
use Rattle.integers.specs.Parts.{Within}
use Rattle.network.specs.Network.{Weights}
use Rattle.network.specs.Table.{entry}
use Rattle.network.proofs.TableLaws.{row_inside}
use Rattle.sheet.specs.Sizes.{max_units}
use Rattle.plan_arcs.specs.Arcs.{one_less}
use Rattle.plan_arcs.proofs.ArcLaws.{less_arc, less_other}
use Rattle.plan_arcs.proofs.RowFillLaws.{RowsFilled, rows_start, rows_store, rows_next, rows_all, one_less_fits}
use Rattle.plan_arcs.proofs.arcs.Statement.{statement}
use Rattle.plan_arcs.proofs.arcs.Tie as tie

abbrev invariant-loop2 : tie.invariant-loop-a
invariant-loop2 w t₀ b row a₀ t a =
    (b < w) × (b + 1 ≤ a) × (a ≤ w) × (length t ≡ length t₀) × ((f : Weights) → RowsFilled w f (one_less f) b (b + 1) t₀ → RowsFilled w f (one_less f) b a t)

abbrev decreases-loop2 : tie.decreases-loop-a
decreases-loop2 w t₀ b row a₀ t a = w - a

abbrev invariant-loop : tie.invariant-loop-b
invariant-loop w t₀ b₀ t b = (b ≤ w) × (length t ≡ length t₀) × RowsFilled w (entry w t₀) (one_less (entry w t₀)) b (b + 1) t

abbrev decreases-loop : tie.decreases-loop-b
decreases-loop w t₀ b₀ t b = w - b

loop-holds : tie.Need-loop-b-init invariant-loop2 decreases-loop2 invariant-loop decreases-loop
loop-holds c =
    let t = c.args.t.now in
    let f = entry c.args.w t in
    (omega arith, refl, rows_start c.args.w f (one_less f) 1 t (λ a b ha hb. refl) (λ y h. sym (less_other f 0 y (omega arith))))

-- the two places of a turn are inside the table
inside : (c : tie.In-loop-a invariant-loop2 decreases-loop2 invariant-loop decreases-loop)
    → let w = c.args.w in
    let b = c.loop-b.b in
    let a = c.loop-a.a in
    (a * w + b < length c.loop-a.t) × (b * w + a < length c.loop-a.t)
inside c =
    let st = c in
    let b = c.loop-b in
    let a = c.loop-a in
    let n = row_inside a.a st.args.w (omega arith) in
    let m = row_inside b.b st.args.w (omega arith) in
    (omega (arith, b.invariant.1, a.invariant.3), omega (arith, b.invariant.1, a.invariant.3))

-- the table so far, and the entry that a turn reads: it is still the old one
so_far : (c : tie.In-loop-a invariant-loop2 decreases-loop2 invariant-loop decreases-loop)
    → let f = entry c.args.w c.args.t.now in
    RowsFilled c.args.w f (one_less f) c.loop-b.b c.loop-a.a c.loop-a.t
so_far c =
    let st = c in
    c.loop-a.invariant.4 (entry st.args.w st.args.t.now) c.loop-b.invariant.2

less_fits : (c : tie.In-loop-a invariant-loop2 decreases-loop2 invariant-loop decreases-loop)
    → let l = c.loop-a in SFits w16 (entry c.args.w l.t l.a c.loop-b.b +ℤ negsuc 0)
less_fits c =
    let st = c in
    let w = st.args.w in
    let b = c.loop-b.b in
    let l = c.loop-a in
    one_less_fits (entry w l.t l.a b)
    (subst (Within max_units) (sym ((so_far c).under l.a b (omega arith) (omega arith) (omega arith))) (st.requires.1 l.a b (omega arith) (omega arith)))

sub_t : tie.Need-overflow_sub-t invariant-loop2 decreases-loop2 invariant-loop decreases-loop
sub_t c =
    let l = c.loop-a in
    let i = l.a * c.args.w + c.loop-b.b in
    let x : SFits w16 (get_or l.t i (pos 0)) = search rules in
    rw (to_z-of_z x) (less_fits c.before)

loop2_again : tie.Need-loop-a-preserved invariant-loop2 decreases-loop2 invariant-loop decreases-loop
loop2_again c =
    let w = c.args.w in
    let b = c.loop-b.b in
    let l = c.loop-a in
    let v = entry w l.t l.a b +ℤ negsuc 0 in
    let x : SFits w16 (get_or l.t (l.a * w + b) (pos 0)) = search rules in
    let n = row_inside b w (omega arith) in
    let room = inside c.before in
    simp (to_z-of_z x, to_z-of_z (less_fits c.before)) (
      omega arith,
      omega arith,
      omega arith,
      length-set l.t (b * w + l.a) v ∙ l.invariant.3,
      λ f F. let G = l.invariant.4 f F in
          rows_store w f (one_less f) b l.a l.t G v (omega (arith, l.invariant.3)) (omega arith) (omega arith)
          (ap (λ (z : ℤ). z +ℤ negsuc 0) (G.under l.a b (omega arith) (omega arith) (omega arith)) ∙ sym (less_arc f b l.a (omega arith))),
    )

loop-again : tie.Need-loop-b-preserved invariant-loop2 decreases-loop2 invariant-loop decreases-loop
loop-again c =
    let st = c in
    let w = st.args.w in
    let f = entry w st.args.t.now in
    let r = c.loop-b in
    let l = c.loop-a in (
      omega arith,
      l.invariant.3 ∙ r.invariant.1,
      rows_next w f (one_less f) r.b l.a l.t (l.invariant.4 f r.invariant.2) (r.b + 1 + 1) (omega arith)
          (λ y h. sym (less_other f (r.b + 1) y (omega arith))),
    )

returns : tie.Need-returns invariant-loop2 decreases-loop2 invariant-loop decreases-loop
returns c =
    let a = c.args in
    let f = entry a.w a.t.now in
    let l = c.loop-b in
    rows_all a.w f (one_less f) l.b (l.b + 1) l.t l.invariant.2 (omega arith)

pub arcs_spec : {M : Type 1} → statement M
arcs_spec = tie.close (tie.spec invariant-loop2 decreases-loop2 invariant-loop decreases-loop loop-holds
    (λ c. omega (arith, row_inside c.loop-b.b c.args.w (omega arith))) (λ c. omega arith)
    (λ c. (omega arith, omega arith, omega arith, refl, λ f F. F)) (λ c. omega (arith, inside c)) (λ c. omega (arith, inside c))
    (λ c. omega (arith, inside c)) (λ c. (inside c).0) sub_t (λ c. omega (arith, inside c.before)) (λ c. omega (arith, inside c.before))
    (λ c. (inside c.before).1) (λ c. omega arith) (λ c. omega arith) loop2_again (λ c. omega arith) (λ c. omega arith) loop-again
    (λ c. c.loop-b.invariant.1) returns)
