-- Key idea: what the search from the back says of the places behind the one that it found, and of that place.
use Rattle.std.proofs.Common.{arith}
use Rattle.std.proofs.lemmas.Grind.{common_steps}
use Rattle.plan_cuts.proofs.last_marked.Goals as goal

pub returns : goal.returns
returns c = grind (arith, common_steps)
