-- The least sum of the places before i is in hand; the first place is asked twice, which changes nothing.
use Rattle.network_cuts.specs.Decider.{LeastSum}
use Rattle.network_cuts.proofs.least_sum.Given as goal

abbrev pub invariant-loop-i : goal.invariant-loop-i
invariant-loop-i l = LeastSum l.i l.xs l.ys l.least
