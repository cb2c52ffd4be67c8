-- The bytes from the place on have no line feed, so the whole lines of the text are those of its front.
use Rattle.std.proofs.Common.{◌≡◌, take}
use Rattle.forms.specs.Lines.{whole_lines}
use Rattle.read_line.proofs.lines_end.Given as goal

abbrev pub invariant-loop-n : goal.invariant-loop-n
invariant-loop-n l = whole_lines (take l.n l.text) ≡ whole_lines l.text
