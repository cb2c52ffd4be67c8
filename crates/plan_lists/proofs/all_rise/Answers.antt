-- The chain asks each pair of the two lists, and each call of its test says whether that pair rises.
use Rattle.std.proofs.Common.{rules, ◌≡◌, true, false, tests}
use Rattle.std.proofs.lemmas.Iterator.{cases_from_all, YieldsList-from_slice, YieldsList-from_zip}
use Rattle.sheet.specs.Questions.{rising}
use Rattle.plan_lists.specs.RisingLaws.{rising_by_all}
use Rattle.plan_lists.proofs.all_rise.Goals as goal

pub returns : goal.returns
returns c =
    let a = c.args in
    rising_by_all a.least a.start a.most a.first.now a.last.now c.requires c.all.result
    (cases_from_all c.all.new.self _ _ (λ p. rising a.least a.start a.most p.0 p.1 ≡ true) (λ p. rising a.least a.start a.most p.0 p.1 ≡ false)
    c.all.ensures.ran (YieldsList-from_zip (YieldsList-from_slice a.first.now cc) (YieldsList-from_slice a.last.now cc))
    (λ x q k. search (rules, tests)) (λ x q k. search (rules, tests)))
