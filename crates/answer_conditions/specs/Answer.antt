-- The answer to what is asked of a text, byte by byte: what reading refuses, or the page of the sheet that was read (docs/RULES.md, "Sheets and answers").
-- Definitions only.
use Rattle.std.specs.Prelude.{◌≡◌, List, ℕ, T}
use Rattle.forms.specs.declared.House.{House}
use Rattle.network_pass.specs.Pass.{Passed, finished, stopped}
use Rattle.sheet.specs.Sheet.{Sheet, WrittenSheet, constraints, loaders, is_ring}
use Rattle.questions.specs.Questions.{Verdict, no, all_yes, first_no}
use Rattle.read_questions.specs.Reading.{questions, rooms_for_all, sheet_in}
use Rattle.plan_steps.specs.Closing.{passed}
use Rattle.print_bytes.specs.Writing.{Written, refused_line}
use Rattle.pages.specs.SheetPages.{plan_bytes, fits_bytes, ring_bytes}
use Rattle.wave_words.specs.declared.Query.{Query}
use Rattle.wave_words.specs.declared.Query.TheVariants.{Plan, Fits}

-- the question that refuses a text, by number and line, or that every answer is yes
abbrev pub verdict : House → List ℕ → Verdict
verdict h input = first_no (questions h input rooms_for_all)

-- the page of a sheet that fits, by what is asked of it: its plan, with its units' loader numbers, or its slots' ranges alone
abbrev pub page_of : Query → List ℕ → Sheet → List ℕ
page_of Plan ks s = plan_bytes ks s
page_of Fits ks s = fits_bytes s

-- the answer by the pass over the sheet's limits: the page of a sheet that fits, or else the page of a ring, which may be any
abbrev pub ByPass : Query → Passed → List ℕ → Sheet → List ℕ → Type 0
ByPass query (finished t) ks s bytes = bytes ≡ page_of query ks s
ByPass query stopped ks s bytes = (ring : List ℕ) × T (is_ring s ring) × (bytes ≡ ring_bytes s ring)

abbrev pub AnswerToSheet : Query → List ℕ → Sheet → List ℕ → Type 0
AnswerToSheet query ks s bytes = ByPass query (passed s) ks s bytes

-- the answer by reading's first no, or to the sheet that was read
abbrev pub ByReading : Query → Verdict → WrittenSheet → List ℕ → Type 0
ByReading query (no number line) w bytes = bytes ≡ refused_line number line
ByReading query all_yes w bytes = AnswerToSheet query (loaders w) (constraints w) bytes

-- the answer to what is asked of a text of a house, with rooms for every sheet
abbrev pub AnswerTo : House → Query → List ℕ → List ℕ → Type 0
AnswerTo h query input bytes = ByReading query (first_no (questions h input rooms_for_all)) (sheet_in h input) bytes

-- what a call leaves: an answer from the page's first place on, and the place just past it
pub record Answered (Answer : List ℕ → Type 0) (page left : List ℕ) (next : ℕ) : Type 0 where
  pub bytes : List ℕ
  pub answers : Answer bytes
  pub written : Written page 0 bytes left next
