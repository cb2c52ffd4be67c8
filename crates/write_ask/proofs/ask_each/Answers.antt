-- The place that the search finds answers the question.
use Rattle.std.proofs.Common.{refl}
use Rattle.questions.specs.Numbers.{number_of}
use Rattle.write_ask.proofs.HouseQuestionsLaws.{found}
use Rattle.write_ask.proofs.ask_each.Goals as goal

pub returns-in-Some : goal.returns-in-Some
returns-in-Some c = rw (found (number_of c.args.question) c.args.most c.args.xs.now, ← c.first_past.ensures, c.in-Some.is, c.at.ensures) refl

pub returns-in-None : goal.returns-in-None
returns-in-None c = rw (found (number_of c.args.question) c.args.most c.args.xs.now, ← c.first_past.ensures, c.in-None.is) refl
