-- Key idea: the search asks the two counts of each rule.
use Rattle.std.proofs.Common.{◌≡◌, ◌∙◌, arith, refl, ℕ, Bool, true, false, ltb, length, get_or}
use Rattle.std.proofs.lemmas.Bool.Decides.{nat_tests}
use Rattle.std.proofs.lemmas.Iterator.{YieldsList-from_slice, YieldsList-from_zip, IsFirst-from_position}
use Rattle.merge_rules.proofs.PairLaws.{first_pair_or}
use Rattle.merge_rules.proofs.first_crossed.Goals as goal

pub returns : goal.returns
returns c =
    let a = c.args in
    let u : ℕ × ℕ → Bool = λ p. ltb p.1 p.0 in
    c.unwrap_or.ensures ∙ first_pair_or a.low.now a.high.now (length a.low.now) refl c.requires u
    (λ j. ltb (get_or a.high.now j 0) (get_or a.low.now j 0)) (λ k h. refl) c.position.result
    (IsFirst-from_position c.position.new.self _ c.position.result (λ p. u p ≡ true) (λ p. u p ≡ false) c.position.ensures.ran
    (YieldsList-from_zip (YieldsList-from_slice _ (cc)) (YieldsList-from_slice _ (cc)))
    (λ x q k. grind (arith, nat_tests)) (λ x q k. grind (arith, nat_tests)))
