-- What printing replies, case by case of what the code answers: the rules' number and line of a refusal; a plan, or none with the ring's length, each with
-- the place just past the answer. Promises speak of these. Definitions only.
use Rattle.std.specs.Prelude.{ℕ, Result, Ok, Err}
use Rattle.questions.specs.Questions.{Verdict, no, all_yes}
use Rattle.questions.specs.declared.Refusal.{Refusal}
use Rattle.plan_answers.specs.declared.Ring.{Ring}
use Rattle.plan_answers.specs.Reply as planning
use Rattle.print_answer.specs.declared.Printed.{Printed}

pub data Reply : Type 0 where
  refused : (number line : ℕ) → Reply
  plan : (place : ℕ) → Reply
  none : (length place : ℕ) → Reply

-- an answer, by whether the sheet fits and the place just past it
abbrev pub answered : Result Unit Ring → ℕ → Reply
answered (Ok u) next = plan next
answered (Err r) next = none r.length next

abbrev pub reply_of : Result Printed Refusal → Reply
reply_of (Err f) = refused f.number f.line
reply_of (Ok p) = answered p.fit p.place

-- the question that refused, by number and line, or that every answer was yes
abbrev pub refusal_of : Reply → Verdict
refusal_of (refused q n) = no q n
refusal_of (plan next) = all_yes
refusal_of (none k next) = all_yes

-- the same without the place: what planning replies
abbrev pub planning_of : Reply → planning.Reply
planning_of (refused q n) = planning.refused q n
planning_of (plan next) = planning.plan
planning_of (none k next) = planning.none k
