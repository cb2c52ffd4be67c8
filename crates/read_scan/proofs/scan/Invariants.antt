-- What is left of the line gathers what the whole line gathers from its start (`Gathering` of ScanLaws), whichever house's tables they are.
use Rattle.std.proofs.Common.{◌-◌, length}
use Rattle.forms.specs.declared.House.{House}
use Rattle.read_form.specs.Reader.{Serves}
use Rattle.read_scan.specs.Scan.{Resumes, Small}
use Rattle.read_scan.specs.ScanLaws.{Gathering}
use Rattle.read_scan.proofs.scan.Given as goal

abbrev pub invariant-loop-stop : goal.invariant-loop-stop
invariant-loop-stop l =
    Resumes l.text l.i l.state × Small l.values
    × ((h : House) → Serves h l.reader → Gathering h l.text l.at l.initial.values l.i l.state l.plain l.values)

abbrev pub decreases-loop-stop : goal.decreases-loop-stop
decreases-loop-stop l = length l.text - l.i
