-- What answering a text tells another language and leaves on the page. Definitions only.
use Rattle.std.specs.Prelude.{◌≡◌, List, ℕ, length}
use Rattle.questions.specs.Questions.{Verdict, first_no}
use Rattle.write.specs.Writing.{page_asked, concluded, leaves}
use Rattle.tugrokt_replies.specs.Numbers.{writing_of}
use Rattle.tugrokt_replies.specs.declared.writing.Writing.{Writing}

-- what the page is asked, before bytes are put there from the place on: 15 alone
abbrev pub refusal : List ℕ → ℕ → List ℕ → Verdict
refusal page place bytes = first_no (page_asked (length page) place bytes)

-- some bytes that are an answer, and what is told and left of them: refused, the page is as it was; else they stand there from the place on
pub record AnswerTold (Answer : List ℕ → Type 0) (page : List ℕ) (place : ℕ) (numbers : Writing) (left : List ℕ) : Type 0 where
  pub bytes : List ℕ
  pub answers : Answer bytes
  pub told : numbers ≡ writing_of place (concluded (refusal page place bytes) place bytes)
  pub page_left : left ≡ leaves (refusal page place bytes) page place bytes
