-- The numbers before place j are in their chains.
use Rattle.std.proofs.Common.{◌≡◌, ◌≤◌, length}
use Rattle.sheet.specs.Sizes.{max_units}
use Rattle.loaders.specs.Chains.{Linked}
use Rattle.merge_units.proofs.link_all.Given as goal

abbrev pub invariant-loop-j : goal.invariant-loop-j
invariant-loop-j l = (l.j ≤ length l.ks) × (length l.nexts ≡ max_units) × Linked l.ks l.j l.heads l.nexts
