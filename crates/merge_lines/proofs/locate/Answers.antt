-- What was found in the first text decides, and past its units what is found in the second.
use Rattle.std.proofs.Common.{ap, ◌∙◌}
use Rattle.merge_lines.specs.Lines.{in_second, in_either}
use Rattle.merge_lines.proofs.locate.Goals as goal

pub returns-in-Ok : goal.returns-in-Ok
returns-in-Ok c = ap (in_either c.args.two.now) c.in-Ok.ensures

pub returns-in-Ok-seek : goal.returns-in-Ok-seek
returns-in-Ok-seek c = ap in_second c.in-Ok-seek.ensures ∙ ap (in_either c.args.two.now) c.in-Err.ensures

pub returns-in-Err-seek : goal.returns-in-Err-seek
returns-in-Err-seek c = rw c.refused.ensures (ap in_second c.in-Err-seek.ensures ∙ ap (in_either c.args.two.now) c.in-Err.ensures)
