-- What `?` passes on: an error of the same type is the one that came.
-- Key idea: the result that `?` returns is an `Err`, and of the error that was passed on.
use Rattle.std.specs.Prelude.{◌≡◌, Result, Err, IsErrAnd}
use Rattle.std.proofs.Common.{ap, ◌∙◌}
use Rattle.std.proofs.lemmas.Result.{err_from_is_err_and}

pub passed_on : {A E : Type 0} (r : Result A E) (f : E) → IsErrAnd r (λ e. e ≡ f) → r ≡ Err f
passed_on r f h = let p = err_from_is_err_and r h in p.1 ∙ ap Err p.2
