-- Key idea: the windows that close before l have their least cuts; `low` and the floors bar what is known to be barred for the next.
use Rattle.plan_cuts.proofs.CutRowLaws.{Cutting}
use Rattle.plan_cuts.proofs.cut_row.Given as goal

abbrev pub invariant-loop-l : goal.invariant-loop-l
invariant-loop-l l = Cutting l.w l.d l.m l.f.0 l.initial.row l.row l.floor l.low l.l
