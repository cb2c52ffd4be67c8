-- The outcome of a pass as a number, for callers in other languages. Definitions only.
use Rattle.std.specs.Prelude.{◌≡◌, List, ℕ, ℤ, Ok, Err}
use Rattle.network_pass.specs.Pass.{Passed, After, Outcome}

abbrev pub code_of : Outcome → ℕ
code_of (Ok x) = 0
code_of (Err e) = 1

-- some outcome with this code, and the table as it leaves it
pub record PassTold (w : ℕ) (t : List ℤ) (p : Passed) (code : ℕ) (u : List ℤ) : Type 0 where
  pub outcome : Outcome
  pub after : After w t p outcome u
  pub coded : code ≡ code_of outcome
