-- What a yes to every question of a call says. Definitions only; SolvableLaws ties them to the questions.
use Rattle.std.specs.Prelude.{◌≡◌, Bool, T, length}
use Rattle.sheet.specs.Questions.{loaders_fit, accepted}
use Rattle.sheet.specs.Lists.{Lists, given, agree, WrittenLists, given_by}

-- every question of a call's lists is answered yes: the loader numbers are as many as the units, the other lists agree, they make a sheet that is accepted, and
-- the loader numbers are new
pub record Listed (l : WrittenLists) : Type 0 where
  pub as_many : length l.loader ≡ length l.constraints.first
  pub lists : T (agree l.constraints)
  pub sheet : T (accepted (given_by l))
  pub loaders : T (loaders_fit l.loader)

-- every question that solving rests on is answered yes: all but 16; `fit` is the answer to 12, whatever rooms the call asks for
pub record Solvable (l : Lists) (fit : Bool) : Type 0 where
  pub lists : T (agree l)
  pub sheet : T (accepted (given l))
  pub rooms : T fit
