-- Key idea: the smaller of two numbers, by the test that the definition makes.
use Rattle.std.proofs.Common.{◌≡◌, ap, ◌∙◌, rules, arith, to_z, of_z, ℤ, SFits}
use Rattle.limit_value.specs.Tightened.{with_bound}
use Rattle.limit_value.proofs.Limit.with_bound.Goals as goal
use mir.Facts.{to_z-of_z}

pub returns : goal.returns
unfolding with_bound
returns c = grind (arith, to_z-of_z)
