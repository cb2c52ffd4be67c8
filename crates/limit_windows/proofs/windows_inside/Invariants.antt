-- Key idea: both loops keep `Swept`: the inner one moves along the row, the outer one to the next row.
use Rattle.std.proofs.Common.{◌≡◌, pos, neg_ℤ}
use Rattle.lists.specs.Lists.{how_many}
use Rattle.sheet.specs.Questions.{windows_of}
use Rattle.limit_windows.specs.InsideLaws.{ends_in}
use Rattle.limit_windows.proofs.Sums.{Summed}
use Rattle.limit_windows.proofs.windows_inside.Given as goal

abbrev pub invariant-loop-b : goal.invariant-loop-b
invariant-loop-b l = record {
  sum : l.sum ≡ neg_ℤ (pos (how_many (ends_in l.b l.a) (windows_of l.first l.last)));
  swept : Summed l.w (windows_of l.first l.last) l.initial.t l.a l.b l.t;
}

abbrev pub invariant-loop-a : goal.invariant-loop-a
invariant-loop-a l = Summed l.w (windows_of l.first l.last) l.initial.t l.a l.a l.t
