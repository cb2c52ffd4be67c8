-- What the first i steps rise and fall by: each by no more than the largest count.
use Rattle.std.proofs.Common.{◌*◌, ◌≤◌}
use Rattle.network.specs.Table.{entry}
use Rattle.sheet.specs.Sizes.{max_count}
use Rattle.pages.proofs.PageLaws.{Walked}
use Rattle.print_none.proofs.shortfall.Given as goal

abbrev pub invariant-loop-i : goal.invariant-loop-i
invariant-loop-i l = record {
  rises : l.rise ≤ l.i * max_count;
  falls : l.fall ≤ l.i * max_count;
  walked : Walked (entry l.w l.limits) l.ring l.i l.rise l.fall;
}
