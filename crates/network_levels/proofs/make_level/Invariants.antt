-- After the steps from the boundaries below u the row holds the least of prev and of what those steps leave.
use Rattle.std.proofs.Common.{◌≡◌, length}
use Rattle.lists.specs.Values.{list_of}
use Rattle.network_levels.proofs.NextLevelLaws.{reached_by}
use Rattle.network_levels.proofs.make_level.Given as goal

abbrev pub invariant-loop-u : goal.invariant-loop-u
invariant-loop-u l = (length l.row ≡ l.w) × (l.row ≡ list_of l.w (reached_by l.w l.d l.prev l.u))
