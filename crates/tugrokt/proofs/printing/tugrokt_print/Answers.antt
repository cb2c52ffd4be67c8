-- The call of print, with its reply as numbers.
use Rattle.print_answer.specs.Reply.{reply_of}
use Rattle.tugrokt.proofs.printing.tugrokt_print.Goals as goal

pub returns : goal.returns
returns c =
    let called = c.print-printed in
    record { reply = reply_of called.result; call = called.ensures; told = c.numbers_of.ensures }
