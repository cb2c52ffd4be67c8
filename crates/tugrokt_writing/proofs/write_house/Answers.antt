-- The call of write_sheet, with its reply as numbers.
use Rattle.std.proofs.Common.{ap, ◌∙◌}
use Rattle.tugrokt_replies.specs.Numbers.{writing_of}
use Rattle.tugrokt_writing.proofs.write_house.Goals as goal

pub returns : goal.returns
returns c =
    let called = c.write_sheet-written in
    record { told = c.numbers_of.ensures ∙ ap (writing_of _) called.ensures.0; page_left = called.ensures.1 }
