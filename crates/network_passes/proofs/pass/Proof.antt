-- The whole pass is that of all middle boundaries, and over limits its numbers stay small.
use Prim.Native.Nat.{ℕ}
use native.Mathlib.Omega.{arith}
use native.Mathlib.Nat.{sub-zero}
use mathlib.Core.Path.{sym, subst}
use borrow.Author.Rules.{rules}
use Rattle.network_pass.specs.Pass.{pass_from, After}
use Rattle.network_pass.specs.PassBounds.{StaysSmall}
use Rattle.network_pass.proofs.PassBoundLaws.{stays_small}
use Rattle.network_passes.proofs.pass.Statement.{statement}
use Rattle.network_passes.proofs.pass.Tie as tie

pass_middles_requires : tie.Need-pass_middles-requires
pass_middles_requires c κs =
    let st = c in
    let a = st.args in
    let S = stays_small a.w a.t.now st.requires.3 in
    (st.requires.0, st.requires.1, st.requires.2, omega arith, omega arith, subst (λ (k : ℕ). StaysSmall a.w 0 k a.t.now) (sym (sub-zero a.w)) S)

returns : tie.Need-returns
returns c =
    let a = c.args in
    let q = c.pass_middles in
    subst (λ (k : ℕ). After a.w a.t.now (pass_from k 0 a.w a.t.now) q.result q.new.t) (sub-zero a.w) q.ensures

pub pass_spec : {M : Type 1} → statement M
pass_spec = tie.close (tie.spec pass_middles_requires (λ c. search rules) returns)
