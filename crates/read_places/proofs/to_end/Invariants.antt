-- The invariant is `Ending` of EndLaws: the line is read on, or its line feed was the last byte.
use Rattle.std.proofs.Common.{◌-◌, length}
use Rattle.read_places.proofs.EndLaws.{Ending}
use Rattle.read_places.proofs.to_end.Given as goal

abbrev pub invariant-loop-state : goal.invariant-loop-state
invariant-loop-state l = Ending l.text l.at l.i l.state

abbrev pub decreases-loop-state : goal.decreases-loop-state
decreases-loop-state l = length l.text - l.i
