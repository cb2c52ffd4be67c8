-- The lines of the slots from t on are left to write.
use Rattle.std.proofs.Common.{map, ℕ, suc, ◌-◌, get_or}
use Rattle.lists.specs.Lists.{run}
use Rattle.sheet.specs.Sizes.{boundaries_of}
use Rattle.pages.specs.Page.{slot_line_at, slot_lines, least_from, greatest_from}
use Rattle.print_bytes.proofs.WritingLaws.{Pending}
use Rattle.print_slots.proofs.put_slots.Given as goal

abbrev pub invariant-loop-t : goal.invariant-loop-t
invariant-loop-t l =
    let count : ℕ → ℕ = λ t. get_or l.counts t 0 in
    let low : ℕ → ℕ = least_from (boundaries_of l.span) l.table in
    let high : ℕ → ℕ = greatest_from (boundaries_of l.span) l.table in
    Pending l.fn.page l.at (slot_lines l.span count low high) l.page l.next (map (slot_line_at count low high) (run l.t (suc l.span - l.t)))
