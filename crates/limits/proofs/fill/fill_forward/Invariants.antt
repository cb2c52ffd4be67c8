-- Key idea: the rows so far have n on their forward steps, and the others are as they were.
use Rattle.limits.proofs.Forward.{Put}
use Rattle.limits.proofs.fill.fill_forward.Given as goal

abbrev pub invariant-loop-a : goal.invariant-loop-a
invariant-loop-a l = Put l.n l.w l.fn.t l.a l.w l.t
