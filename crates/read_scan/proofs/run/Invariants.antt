-- The bytes that are left lead from the present state where all bytes lead from the start.
use Rattle.std.proofs.Common.{◌≡◌, ◌<◌, drop}
use Rattle.forms.specs.declared.House.{House}
use Rattle.read_form.specs.Grid.{state_count, start, run_of}
use Rattle.read_form.specs.Reader.{Serves}
use Rattle.read_scan.proofs.run.Given as goal

abbrev pub invariant-loop-b : goal.invariant-loop-b
invariant-loop-b l =
    (l.state < state_count) × ((h : House) → Serves h l.reader → run_of h l.state (drop l.b-index l.b-items) ≡ run_of h start l.b-items)
