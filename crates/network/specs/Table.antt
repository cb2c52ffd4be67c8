-- The table of a network as a list of numbers, row by row, and its step over one middle boundary. Definitions only.
use Rattle.std.specs.Prelude.{List, ◌++◌, ℕ, ◌+◌, ◌*◌, get_or, drop, replicate, ℤ, pos}
use Rattle.lists.specs.Lists.{joined}
use Rattle.lists.specs.Values.{list_of}
use Rattle.network.specs.Network.{Weights}
use Rattle.network.specs.Closure.{step}

-- the largest number of boundaries
abbrev pub max_boundaries : ℕ
max_boundaries = 50

-- the table of w boundaries whose entry (a, b) is f a b
abbrev pub table_of : ℕ → Weights → List ℤ
table_of w f = joined (list_of w (λ a. list_of w (f a)))

-- entry (a, b) of the table t of w boundaries
abbrev pub entry : ℕ → List ℤ → Weights
entry w t a b = get_or t (a * w + b) (pos 0)

-- the table after middle boundary m; places past the table stay
unfoldable pub middle : ℕ → ℕ → List ℤ → List ℤ
middle w m t = table_of w (step m (entry w t)) ++ drop (w * w) t

-- the list with 0 at its first n places
abbrev pub cleared : ℕ → List ℤ → List ℤ
cleared n t = replicate n (pos 0) ++ drop n t
