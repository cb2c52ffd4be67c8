-- Key idea: the two places of a stretch, forward and back, take the smaller number one after the other.
use Rattle.std.proofs.Common.{arith, to_z-of_z}
use Rattle.limit_value.specs.Tightened.{with_bound}
use Rattle.limits.proofs.fill.apply_rule.Goals as goal

pub returns : goal.returns
unfolding with_bound
returns c = grind (arith, to_z-of_z)
