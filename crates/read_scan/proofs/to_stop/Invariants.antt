-- Past each byte the line is read on, or that byte is the stop (`Past` of ScanLaws), whichever house's tables they are.
use Rattle.std.proofs.Common.{◌-◌, ◌≤◌, length}
use Rattle.forms.specs.declared.House.{House}
use Rattle.read_form.specs.Reader.{Serves}
use Rattle.read_scan.specs.ScanLaws.{Past}
use Rattle.read_scan.proofs.to_stop.Given as goal

abbrev pub invariant-loop-state : goal.invariant-loop-state
invariant-loop-state l = (1 ≤ l.i) × ((h : House) → Serves h l.reader → Past h l.text l.at l.from l.i l.state)

abbrev pub decreases-loop-state : goal.decreases-loop-state
decreases-loop-state l = length l.text - l.i
