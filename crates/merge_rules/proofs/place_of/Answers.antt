-- Key idea: the search asks the stretches of the first n places.
use Rattle.std.proofs.Common.{◌≡◌, arith, ℕ, ◌&&◌, Bool, true, false, eqb, take, get_or-take, length-take-le, ap₂}
use Rattle.std.proofs.lemmas.Bool.Decides.{nat_tests}
use Rattle.std.proofs.lemmas.Iterator.{YieldsList-from_slice, YieldsList-from_zip, IsFirst-from_position}
use Rattle.merge_rules.specs.Columns.{stretch_at}
use Rattle.merge_rules.proofs.PairLaws.{first_pair}
use Rattle.merge_rules.proofs.place_of.Goals as goal

pub returns : goal.returns
returns c =
    let a = c.args in
    let u : ℕ × ℕ → Bool = λ p. eqb p.0 a.f && eqb p.1 a.t in
    first_pair (take a.n a.froms.now) (take a.n a.tos.now) a.n (length-take-le a.n a.froms.now c.requires.0) (length-take-le a.n a.tos.now c.requires.1) u
    (stretch_at a.froms.now a.tos.now a.f a.t)
    (λ k h. ap₂ (λ (x y : ℕ). eqb x a.f && eqb y a.t) (get_or-take a.n a.froms.now k 0 h) (get_or-take a.n a.tos.now k 0 h))
    c.position.result
    (IsFirst-from_position c.position.new.self _ c.position.result (λ p. u p ≡ true) (λ p. u p ≡ false) c.position.ensures.ran
    (YieldsList-from_zip (YieldsList-from_slice _ (cc)) (YieldsList-from_slice _ (cc)))
    (λ x q k. grind (arith, nat_tests)) (λ x q k. grind (arith, nat_tests)))
