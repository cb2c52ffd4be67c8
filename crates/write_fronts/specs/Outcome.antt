-- What is written by a verdict, the line of a refusal or the text of a sheet, and the reply that tells of it. Definitions only.
use Rattle.std.specs.Prelude.{List, ℕ, length}
use Rattle.questions.specs.Questions.{Verdict, no, all_yes}
use Rattle.print_bytes.specs.Writing.{refused_line}

-- what is written, by this verdict of a sheet with this text
abbrev pub bytes_by : Verdict → List ℕ → List ℕ
bytes_by (no q n) text = refused_line q n
bytes_by all_yes text = text

-- a sheet or a refusal by this question at this line, and the place just past what was written
pub data Reply : Type 0 where
  sheet : (place : ℕ) → Reply
  refused : (number line place : ℕ) → Reply

abbrev pub reply_by : Verdict → List ℕ → Reply
reply_by (no q n) text = refused q n (length (refused_line q n))
reply_by all_yes text = sheet (length text)
