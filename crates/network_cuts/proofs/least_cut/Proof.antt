-- The cut sought lies from `from` to `to`: the last is admitted, and none below the first is.
use Rattle.network_cuts.proofs.SearchLaws.{Search, search_first, search_yes, search_no, search_last}
use Rattle.network_cuts.specs.Decider.{AdmitsAt, Decides}
use mathlib.Core.Bool.{Bool}
use mathlib.Core.Logic.{⊎_elim}
use mathlib.Core.Path.{subst}
use Prim.Native.Nat.{◌<◌, ◌-◌, ◌+◌, ◌/◌}
use native.Mathlib.Omega.{arith}
use Rattle.network_cuts.proofs.least_cut.Statement.{statement}
use Rattle.network_cuts.proofs.least_cut.Tie as tie

abbrev invariant-loop : tie.invariant-loop-from
invariant-loop d m w f l from₀ to₀ middle₀ from to middle = Search w d m f.0 l.0 to₀ from to middle

abbrev decreases-loop : tie.decreases-loop-from
decreases-loop d m w f l from₀ to₀ middle₀ from to middle = to - from

admits_requires : tie.Need-admits-requires invariant-loop decreases-loop
admits_requires c κs =
    let st = c in
    let s = c.loop-from.invariant in
    (st.requires.0.0, omega (arith, s.start, s.after, s.before, s.end, st.requires.0, c.loop-from-test.true))

-- either answer moves one end
next : (c : tie.Joined-admits invariant-loop decreases-loop) → let a = c.args in
    Search a.w a.d.now a.m.now a.f.0 a.l.0 a.known.0 c.if-admits.from c.if-admits.to (c.if-admits.from + (c.if-admits.to - c.if-admits.from) / 2)
    × (c.if-admits.to - c.if-admits.from < c.loop-from.to - c.loop-from.from)
next c =
    let a = c.args in
    let l = c.loop-from in
    let s = l.invariant in
    let h = c.loop-from-test.true in
    let decided : Bool → Type 0 = λ t. Decides t (AdmitsAt a.w a.d.now a.m.now a.f.0 l.middle a.l.0) in
    ⊎_elim (λ w. rw (w.from-is, w.to-is) (
      search_yes s h (omega arith) (omega (arith, s.after)) (subst decided w.if-admits.true c.admits.ensures),
      omega (arith, s.after, s.before),
    ))
    (λ w. rw (w.from-is, w.to-is) (
      search_no s h (omega arith) (omega (arith, s.before)) (subst decided w.if-admits.false c.admits.ensures),
      omega (arith, s.after, s.before),
    ))
    c.if-admits.branch-raw

add_middle : tie.Need-overflow_add-middle invariant-loop decreases-loop
add_middle c = let s = (next c.before.before).0 in omega (arith, s.end, s.order, c.requires.0)

pub least_cut_spec : {M : Type 1} → statement M
least_cut_spec = tie.close (tie.spec invariant-loop decreases-loop (λ c. search_first c.requires.0.2 c.requires.0.3 c.requires.1.0 c.requires.1.1) admits_requires
    (λ c. let s = c.loop-from.invariant in omega (arith, s.before, s.end, s.order, c.requires.0))
    (λ c. (next c.before.before).0.order) add_middle (λ c. (next c.before.before).1) (λ c. (next c.before.before).0)
    (λ c. search_last c.loop-from.invariant c.loop-from-test.false c.requires.0.4))
