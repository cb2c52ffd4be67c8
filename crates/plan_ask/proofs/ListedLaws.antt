-- The sheet as it is written of lists that pass their questions passes them too.
-- Key idea: there are as many loader numbers as units, so that this sheet has the lists' own windows, rules and loader numbers.
use Rattle.std.specs.Prelude.{◌≡◌, T, length}
use Rattle.std.proofs.Common.{sym, ◌∙◌, subst}
use Rattle.sheet.specs.Sheet.{Sheet, constraints, loaders}
use Rattle.sheet.specs.Questions.{accepted, loaders_fit}
use Rattle.sheet.proofs.QuestionLaws.{Agree}
use Rattle.sheet.specs.Lists.{WrittenLists, given_by, written_by}
use Rattle.sheet.proofs.WrittenLaws.{written_constraints, written_loaders}
use Rattle.plan_ask.specs.Asking.{Listed}
use Rattle.plan_ask.proofs.AskingLaws.{lists_read, units_length}

module _ (l : WrittenLists) (y : Listed l) where
  pub listed_agree : let k = l.constraints in Agree k.first k.last k.from k.to k.low k.high
  listed_agree = lists_read l.constraints y.lists

  pub as_many_units : length l.loader ≡ length (given_by l).units
  as_many_units = y.as_many ∙ sym (units_length l.constraints listed_agree)

  pub written_accepted : T (accepted (constraints (written_by l)))
  written_accepted = subst (λ (s : Sheet). T (accepted s)) (sym (written_constraints l as_many_units)) y.sheet

  pub written_new : T (loaders_fit (loaders (written_by l)))
  written_new = subst (λ ks. T (loaders_fit ks)) (sym (written_loaders l as_many_units)) y.loaders
