-- The line is short enough for the page.
use Rattle.std.proofs.Common.{arith}
use Rattle.print_bytes.proofs.WritingLaws.{refused_short}
use Rattle.write_fronts.proofs.put_refused.Goals as goal

pub put_refusal-requires : goal.put_refusal-requires
put_refusal-requires c =
    let a = c.args in
    record { fits = omega (arith, refused_short a.number a.line c.requires.0 (omega (arith, c.requires.1))) }
