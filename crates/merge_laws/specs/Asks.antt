-- The questions that may refuse a merge. Definitions only.
use Rattle.std.specs.Prelude.{Bool, ◌||◌, ℕ}
use Rattle.lists.specs.Lists.{within}
use Rattle.read_questions.proofs.RefusalLaws.{asks_text}

-- one of reading's, or one of the merge's own, of which 9 and 10 are reading's too
abbrev pub asks_merge : ℕ → Bool
asks_merge q = asks_text q || within 19 21 q
