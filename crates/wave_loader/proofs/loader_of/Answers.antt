-- A byte that is no digit ends the word's naming of a number; each digit is one step of the number so far.
use Rattle.std.proofs.Common.{◌≡◌, arith, rules, sym, ◌∙◌, true, get_or}
use Rattle.forms.specs.Form.{is_digit}
use Rattle.wave_loader.proofs.LoaderLaws.{some_named, none_named, digit_here, all_named}
use Rattle.wave_loader.proofs.loader_of.Goals as goal

pub returns-then-is_empty : goal.returns-then-is_empty
returns-then-is_empty c = sym (none_named _ (search rules))

pub loop-b-init : goal.loop-b-init
loop-b-init c = (omega arith, some_named _ (search rules))

pub loop-b-preserved : goal.loop-b-preserved
loop-b-preserved c =
    let l = c.loop-b in
    let e = c.with_digit-number.ensures in
    let digit : is_digit (get_or c.args.word.now l.b-index 0) ≡ true = search rules in
    (omega (arith, e), l.invariant.1 ∙ digit_here _ l.number l.b-index (omega arith) _ digit e)

pub returns : goal.returns
returns c = let l = c.loop-b in sym (l.invariant.1 ∙ all_named _ l.number l.b-index (omega arith) l.invariant.0)
