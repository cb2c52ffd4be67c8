-- Key idea: a place on the stretch is the answer, and one that is not on it is passed (`last_passed`, `last_failed`).
use Rattle.std.proofs.Common.{◌≡◌, sym, ap, ◌∙◌, arith, ℕ, true, false, ◌-◌, length}
use Rattle.std.proofs.lemmas.Bool.Decides.{nat_tests}
use Rattle.lists.specs.Last.{last_below, last_passed, last_failed}
use Rattle.merge_rules.specs.Columns.{stretch_at}
use Rattle.merge_rules.proofs.last_on.Goals as goal

pub returns-then-tos-n : goal.returns-then-tos-n
returns-then-tos-n c =
    let a = c.args in
    let t = stretch_at a.froms.now a.tos.now a.f a.t in
    let here : t (c.loop-n.n - 1) ≡ true = grind (arith, nat_tests) in
    last_passed t (length a.froms.now) c.loop-n.n (omega arith) here ∙ c.loop-n.invariant

pub loop-n-preserved : goal.loop-n-preserved
loop-n-preserved c =
    let a = c.args in
    let t = stretch_at a.froms.now a.tos.now a.f a.t in
    let other : t (c.loop-n.n - 1) ≡ false = grind (arith, nat_tests) in
    last_failed t (length a.froms.now) c.loop-n.n (omega arith) other ∙ c.loop-n.invariant

pub returns : goal.returns
returns c =
    let a = c.args in
    let e : c.loop-n.n ≡ 0 = omega arith in
    ap (λ (k : ℕ). last_below (length a.froms.now) k (stretch_at a.froms.now a.tos.now a.f a.t)) (sym e) ∙ c.loop-n.invariant
