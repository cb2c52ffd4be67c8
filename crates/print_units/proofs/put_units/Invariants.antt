-- The lines of the units from j on are left to write.
use Rattle.std.proofs.Common.{map, length, ◌-◌}
use Rattle.lists.specs.Lists.{run}
use Rattle.pages.specs.Page.{unit_line_at, unit_lines}
use Rattle.print_bytes.proofs.WritingLaws.{Pending}
use Rattle.print_units.proofs.put_units.Given as goal

abbrev pub invariant-loop-j : goal.invariant-loop-j
invariant-loop-j l =
    Pending l.fn.page l.at (unit_lines l.span l.loader l.plan l.earliest l.latest) l.page l.next
    (map (unit_line_at l.span l.loader l.plan l.earliest l.latest) (run l.j (length l.plan - l.j)))
