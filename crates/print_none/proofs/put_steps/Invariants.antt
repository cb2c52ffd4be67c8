-- The lines of the steps from place i on are left to write.
use Rattle.std.proofs.Common.{map, length, ◌-◌}
use Rattle.lists.specs.Lists.{run, joined}
use Rattle.network.specs.Table.{entry}
use Rattle.pages.specs.Page.{ring_lines}
use Rattle.pages.proofs.PageLaws.{step_at}
use Rattle.print_bytes.proofs.WritingLaws.{Pending}
use Rattle.print_none.proofs.put_steps.Given as goal

abbrev pub invariant-loop-i : goal.invariant-loop-i
invariant-loop-i l =
    let d = entry l.w l.limits in
    Pending l.fn.page l.at (joined (ring_lines d l.ring)) l.page l.next (map (step_at d l.ring) (run l.i (length l.ring - l.i)))
