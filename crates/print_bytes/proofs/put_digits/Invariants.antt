-- The digits of the rest are left, the last one of the number first stored.
use Rattle.forms.specs.Decimal.{digits}
use Rattle.print_bytes.proofs.DigitLaws.{Left}
use Rattle.print_bytes.proofs.put_digits.Given as goal

abbrev pub invariant-loop-i : goal.invariant-loop-i
invariant-loop-i g l = Left l.fn.page l.fn.at (digits l.fn.n) l.page l.i l.rest
