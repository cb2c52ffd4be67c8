-- The lines of the slots from slot on are left to write.
use Rattle.std.proofs.Common.{map, ℕ, suc, ◌-◌}
use Rattle.lists.specs.Lists.{run}
use Rattle.sheet.specs.Sizes.{boundaries_of}
use Rattle.pages.specs.Page.{range_line_at, range_lines, least_from, greatest_from}
use Rattle.print_bytes.proofs.WritingLaws.{Pending}
use Rattle.print_slots.proofs.put_ranges.Given as goal

abbrev pub invariant-loop-slot : goal.invariant-loop-slot
invariant-loop-slot l =
    let low : ℕ → ℕ = least_from (boundaries_of l.span) l.table in
    let high : ℕ → ℕ = greatest_from (boundaries_of l.span) l.table in
    Pending l.fn.page l.at (range_lines l.span low high) l.page l.next (map (range_line_at low high) (run l.slot (suc l.span - l.slot)))
