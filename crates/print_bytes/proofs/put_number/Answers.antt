-- Each branch knows how many digits the number has.
use Rattle.std.proofs.Common.{arith}
use Rattle.print_bytes.proofs.DigitLaws.{one_digit, so_many_digits}
use Rattle.print_bytes.proofs.put_number.Goals as goal

pub put_digits-requires-clause-long : goal.put_digits-requires-clause-long
put_digits-requires-clause-long c = one_digit c.args.n (omega arith)

pub put_digits-requires-in-10-to-99-clause-long : goal.put_digits-requires-in-10-to-99-clause-long
put_digits-requires-in-10-to-99-clause-long c = so_many_digits 1 c.args.n (omega arith) (omega arith)

pub put_digits-requires-in-100-to-999-clause-long : goal.put_digits-requires-in-100-to-999-clause-long
put_digits-requires-in-100-to-999-clause-long c = so_many_digits 2 c.args.n (omega arith) (omega arith)

pub put_digits-requires-in-1000-to-9999-clause-long : goal.put_digits-requires-in-1000-to-9999-clause-long
put_digits-requires-in-1000-to-9999-clause-long c = so_many_digits 3 c.args.n (omega arith) (omega arith)

pub put_digits-requires-in_default-clause-long : goal.put_digits-requires-in_default-clause-long
put_digits-requires-in_default-clause-long c = so_many_digits 4 c.args.n (omega arith) (omega arith)
