-- The rows 0 to k hold their levels.
use Rattle.network_levels.specs.Finder.{LevelsUpTo}
use Rattle.network_levels.proofs.fill_levels.Given as goal

abbrev pub invariant-loop-k : goal.invariant-loop-k
invariant-loop-k l = LevelsUpTo l.w l.d l.levels l.k
