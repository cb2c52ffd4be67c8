-- Key idea: the table has the exact windows of the units so far.
use Rattle.std.proofs.Common.{length, take}
use Rattle.sheet.specs.Questions.{windows_of}
use Rattle.limit_windows.specs.Inside.{exact_weights}
use Rattle.limit_places.specs.LentTableLaws.{TableFilled}
use Rattle.limit_windows.proofs.exact_windows.Given as goal

abbrev pub invariant-loop-first : goal.invariant-loop-first
invariant-loop-first l = TableFilled l.w (exact_weights (take (length l.yielded) (windows_of l.first l.last))) l.fn.t l.t
