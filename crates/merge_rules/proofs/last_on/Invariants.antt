-- Key idea: what is left of the places, from the back, gives the whole answer.
use Rattle.std.proofs.Common.{◌≡◌, length}
use Rattle.lists.specs.Last.{last_below, last_passing}
use Rattle.merge_rules.specs.Columns.{stretch_at}
use Rattle.merge_rules.proofs.last_on.Given as goal

abbrev pub invariant-loop-n : goal.invariant-loop-n
invariant-loop-n l =
    let here = stretch_at l.froms l.tos l.f l.t in
    last_below (length l.froms) l.n here ≡ last_passing (length l.froms) here
