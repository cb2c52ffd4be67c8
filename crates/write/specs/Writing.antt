-- What writing a sheet as a text of a house answers and leaves (docs/RULES.md, "The order of the questions"): the questions in their order, and the first that
-- is answered no. Definitions only.
use Rattle.std.specs.Prelude.{Bool, List, [], ◌∷◌, ◌++◌, ℕ, ◌+◌, leb, length, Result, Ok, Err}
use Rattle.questions.specs.Questions.{Question, ask, Verdict, no, all_yes, first_no}
use Rattle.forms.specs.declared.House.{House}
use Rattle.sheet.specs.Lists.{WrittenLists, given_by, written_by}
use Rattle.plan_ask.specs.Questions.{list_questions}
use Rattle.sheet_texts.specs.SheetText.{sheet_text}
use Rattle.write_ask.specs.HouseQuestions.{house_questions}
use Rattle.print_bytes.specs.Writing.{with_bytes}
use Rattle.questions.specs.declared.Refusal.{Refusal}

-- the text of a call's lists
abbrev pub text_of : House → WrittenLists → List ℕ
text_of h l = sheet_text h (written_by l)

-- ---- the questions, in their order

-- what is asked of the lists: what planning asks of them, and then what the house asks
abbrev pub sheet_asked : House → WrittenLists → List Question
sheet_asked h l = list_questions l ++ house_questions h (given_by l)

-- and then 15; `fits` is its answer
abbrev pub outgoing : House → WrittenLists → Bool → List Question
outgoing h l fits = sheet_asked h l ++ (ask 15 0 fits ∷ [])

-- 15: does a page of this length, from its running place on, hold the bytes?
abbrev pub holds : ℕ → ℕ → List ℕ → Bool
holds size at bytes = leb (at + length bytes) size

abbrev pub page_asked : ℕ → ℕ → List ℕ → List Question
page_asked size at bytes = ask 15 0 (holds size at bytes) ∷ []

-- the refusal, by number and line, or none
unfoldable pub refusal : House → WrittenLists → ℕ → ℕ → Verdict
refusal h l size at = first_no (outgoing h l (holds size at (text_of h l)))

-- ---- the answer

-- the rules' number and line of a refusal, or the place just past the text
pub data Reply : Type 0 where
  refused : (number line : ℕ) → Reply
  text : (place : ℕ) → Reply

abbrev pub reply_of : Result ℕ Refusal → Reply
reply_of (Err f) = refused f.number f.line
reply_of (Ok next) = text next

-- by this verdict, of a call that has these bytes to write
abbrev pub concluded : Verdict → ℕ → List ℕ → Reply
concluded (no q n) at bytes = refused q n
concluded all_yes at bytes = text (at + length bytes)

-- the page: a refusal changes nothing
abbrev pub leaves : Verdict → List ℕ → ℕ → List ℕ → List ℕ
leaves (no q n) page at bytes = page
leaves all_yes page at bytes = with_bytes page at bytes

-- what a call replies, by the length of its page, and the page that it leaves
abbrev pub writing : House → WrittenLists → ℕ → ℕ → Reply
writing h l size at = concluded (refusal h l size at) at (text_of h l)

abbrev pub page_after : House → WrittenLists → List ℕ → ℕ → List ℕ
page_after h l page at = leaves (refusal h l (length page) at) page at (text_of h l)
