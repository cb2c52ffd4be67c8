-- Key idea: what is filled is the part of the row right of the diagonal.
use Rattle.std.proofs.Common.{◌≡◌, refl, sym, ap, ◌∙◌, subst, rules, arith, ◌+◌, ◌*◌, ◌-◌, ℕ, ℤ, List, length, take, drop, length-take, length-drop, replicate, to_z, of_z, to_z-of_z, SFits, w16}
use Rattle.network.specs.Table.{entry}
use Rattle.network.proofs.TableLaws.{row_inside}
use Rattle.limits.specs.LimitTable.{with_forward}
use Rattle.limit_places.specs.LentTableLaws.{filled_is}
use Rattle.limit_places.specs.Sweep.{swept_last}
use Rattle.limits.proofs.Forward.{Put, put_part}
use borrow.Rule.Slice.PartMut.{put_mid}
use Rattle.limits.proofs.fill.fill_forward.Goals as goal

pub loop-a-preserved : goal.loop-a-preserved
loop-a-preserved c =
    let a = c.args in
    let l = c.loop-a in
    let lo = l.a * a.w + l.a + 1 in
    let k = l.a * a.w + a.w - lo in
    let z = to_z w16 (of_z w16 c.signed-most.result) in
    let row = row_inside l.a a.w (omega arith) in
    let size : length (take k (drop lo l.t)) ≡ k = simp (length-take, length-drop) (omega (arith, l.invariant.long)) in
    let f : SFits w16 c.signed-most.result = search rules in
    subst (λ (ys : List ℤ). Put a.n a.w a.t.now (l.a + 1) a.w (put_mid lo k l.t ys))
    (sym (c.fill.ensures.after (λ y e. e) ∙ ap (λ (m : ℕ). replicate m z) size))
    (put_part a.n a.w a.t.now l.t l.a lo k z c.requires.1 (omega arith) refl refl (to_z-of_z f ∙ c.signed-most.ensures) l.invariant)

pub returns : goal.returns
returns c =
    let a = c.args in
    let f = entry a.w a.t.now in
    let l = c.loop-a in
    filled_is a.w (with_forward a.n f) a.t.now l.t c.requires.1 (swept_last a.w f (with_forward a.n f) a.t.now l.t l.a a.w (omega arith) l.invariant)
