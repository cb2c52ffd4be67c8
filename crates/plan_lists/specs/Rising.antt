-- Questions 7 and 8 as the code asks them: two lists place by place. Definitions only; RisingLaws has the loop over them.
use Rattle.std.specs.Prelude.{Bool, List, ℕ}
use Rattle.lists.specs.Lists.{every}
use Rattle.sheet.specs.Questions.{windows_of, rising}

unfoldable pub all_rising : ℕ → ℕ → ℕ → List ℕ → List ℕ → Bool
all_rising least start most fs ls = every (λ w. rising least start most w.first w.last) (windows_of fs ls)
