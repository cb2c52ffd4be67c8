-- Each turn stores the last of the digits that are left.
use Rattle.std.proofs.Common.{◌+◌, subst}
use Rattle.forms.specs.Decimal.{digits}
use Rattle.print_bytes.specs.Writing.{Written}
use Rattle.print_bytes.proofs.DigitLaws.{all_left, one_left, none_left}
use Rattle.print_bytes.proofs.put_digits.Goals as goal

pub loop-i-init : goal.loop-i-init
loop-i-init g c = all_left _ _ _ _ c.requires.long

pub loop-i-preserved : goal.loop-i-preserved
loop-i-preserved g c = one_left c.loop-i-test.true c.loop-i.invariant

pub returns : goal.returns
returns g c =
    let a = c.args in
    subst (λ k. Written a.page.now a.at (digits a.n) c.loop-i.page (a.at + k)) c.requires.long
    (none_left c.loop-i-test.false c.requires.room c.loop-i.invariant)
