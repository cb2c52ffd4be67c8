-- The lines up to the last line feed, one after the other, until the one that is looked for.
-- Key idea: at each line's start the answer is found among the lines that are left (`Searching`).
use Rattle.std.proofs.Common.{◌-◌}
use Rattle.read_places.proofs.SearchLaws.{Searching}
use Rattle.read_places.proofs.search.Given as goal

abbrev pub invariant-loop-at : goal.invariant-loop-at
invariant-loop-at l = Searching l.kind l.text l.j l.at l.n l.left

abbrev pub decreases-loop-at : goal.decreases-loop-at
decreases-loop-at l = l.whole - l.at
