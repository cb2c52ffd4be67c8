-- One middle boundary begins at the table lent, so that this table is small is all that its sums ask for.
use Prim.Native.Nat.{ℕ, ◌+◌, ◌-◌}
use native.Mathlib.Omega.{arith}
use mathlib.Core.Path.{◌≡◌, sym, subst}
use Rattle.network_pass.specs.Pass.{pass_from, After}
use Rattle.network_pass.specs.PassBounds.{StaysSmall}
use Rattle.network_pass.proofs.PassBoundLaws.{small_one}
use borrow.Author.Rules.{rules}
use Rattle.network_passes.proofs.pass_middle.Statement.{statement}
use Rattle.network_passes.proofs.pass_middle.Tie as tie

one : (m : ℕ) → m + 1 - m ≡ 1
one m = omega arith

pass_middles_requires : tie.Need-pass_middles-requires
pass_middles_requires c κs =
    let st = c in
    let a = st.args in
    let S = small_one a.w a.m a.t.now st.requires.3 in
    (omega arith, st.requires.1, st.requires.2, omega arith, omega arith, subst (λ (k : ℕ). StaysSmall a.w a.m k a.t.now) (sym (one a.m)) S)

returns : tie.Need-returns
returns c =
    let a = c.args in
    let q = c.pass_middles in
    subst (λ (k : ℕ). After a.w a.t.now (pass_from k a.m a.w a.t.now) q.result q.new.t) (one a.m) q.ensures

pub pass_middle_spec : {M : Type 1} → statement M
pass_middle_spec = tie.close (tie.spec (λ c. search rules) pass_middles_requires (λ c. search rules) returns)
