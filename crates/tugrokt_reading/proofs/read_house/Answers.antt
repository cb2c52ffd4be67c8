-- The call of read, with its reply as numbers.
use Rattle.std.proofs.Common.{ap, ◌∙◌}
use Rattle.tugrokt_replies.specs.Numbers.{reading_of}
use Rattle.tugrokt_reading.proofs.read_house.Goals as goal

pub returns : goal.returns
returns c =
    let called = c.read-reply in
    record { told = c.from.ensures ∙ ap reading_of called.ensures.result_value; left = called.ensures.high_after }
