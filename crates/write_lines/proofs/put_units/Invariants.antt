-- The lines of the units from j on are left to write.
use Rattle.std.proofs.Common.{map, drop}
use Rattle.sheet.specs.Questions.{windows_of}
use Rattle.sheet.specs.Lists.{units_of}
use Rattle.sheet_texts.specs.SheetText.{unit_text, unit_texts}
use Rattle.print_bytes.proofs.WritingLaws.{Pending}
use Rattle.write_lines.proofs.put_units.Given as goal

abbrev pub invariant-loop-j : goal.invariant-loop-j
invariant-loop-j l =
    let units = units_of l.loader (windows_of l.first l.last) in
    Pending l.fn.page l.at (unit_texts l.house units) l.page l.next (map (unit_text l.house) (drop l.j units))
