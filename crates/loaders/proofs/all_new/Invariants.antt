-- Key idea: the numbers before place j are in their chains, so the first that is not new decides.
use Rattle.std.proofs.Common.{◌≡◌, length, take, drop}
use Rattle.sheet.specs.Sizes.{max_units}
use Rattle.sheet.specs.Questions.{loaders_fit, all_new}
use Rattle.loaders.specs.Chains.{Linked}
use Rattle.loaders.proofs.all_new.Given as goal

abbrev pub invariant-loop-j : goal.invariant-loop-j
invariant-loop-j l = record {
  room : length l.nexts ≡ max_units;
  linked : Linked l.ks l.j l.heads l.nexts;
  asked : loaders_fit l.ks ≡ all_new (take l.j l.ks) (drop l.j l.ks);
}
