-- Every boundary passed leaves v more than its level.
use Rattle.std.proofs.Common.{ℕ, ◌<◌, ◌-◌, ◌+ℤ◌, ◌<ℤ◌}
use Rattle.network.specs.Table.{entry}
use Rattle.network_levels.specs.Levels.{level}
use Rattle.network_cycles.proofs.Levels.source_of.Given as goal

abbrev pub invariant-loop-u : goal.invariant-loop-u
invariant-loop-u l = let w = l.self.w in let d = entry w l.self.d.now in
    (i : ℕ) → i < l.u → entry w l.self.levels.now l.k l.v <ℤ (level w d (l.k - 1) i +ℤ d i l.v)
