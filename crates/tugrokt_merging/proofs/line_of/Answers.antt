-- The call of find_line, with its reply as numbers; a line that was found lies within its text, and so does not end before it starts.
use Rattle.std.proofs.Common.{ℕ, ◌≡◌, List, sym, ap, ◌∙◌, subst, Result, Ok, Err}
use Rattle.merge_questions.specs.declared.Blamed.{Blamed}
use Rattle.merge_lines.specs.Lines.{found_line}
use Rattle.merge_lines.specs.LinesLaws.{Inside, found_inside}
use Rattle.merge_lines.specs.declared.LinePlace.{LinePlace}
use Rattle.merge_lines.specs.declared.LinePlace.TheVariants.{First, Second}
use Rattle.tugrokt_replies.specs.Numbers.{line_of, Rises}
use Rattle.tugrokt_merging.proofs.line_of.Goals as goal

rises : (one two : List ℕ) (k : ℕ) (found : Result LinePlace Blamed) → Inside one two k found → Rises found
rises one two k (Err b) h = tt
rises one two k (Ok (First a e)) h = h.0
rises one two k (Ok (Second a e)) h = h.0

found_rises : (one two : List ℕ) (k : ℕ) (found : Result LinePlace Blamed) → found ≡ found_line one two k → Rises found
found_rises one two k found e = subst Rises (sym e) (rises one two k (found_line one two k) (found_inside one two k))

pub numbers_of-requires : goal.numbers_of-requires
numbers_of-requires c = found_rises _ _ _ _ c.find_line-found.ensures

pub returns : goal.returns
returns c = record { told = c.numbers_of.ensures ∙ ap line_of c.find_line-found.ensures }
