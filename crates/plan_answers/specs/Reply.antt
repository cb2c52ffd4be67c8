-- What a call replies, case by case of what the code answers with: the rules' number and line of a refusal, that there is a plan, or none with the
-- length of the ring that was written. Promises speak of these. Definitions only.
use Rattle.std.specs.Prelude.{ℕ, Option, Some, None, Result, Ok, Err}
use Rattle.questions.specs.Questions.{Verdict, no, all_yes}
use Rattle.questions.specs.declared.Refusal.{Refusal}
use Rattle.plan_answers.specs.declared.Ring.{Ring}

-- what solving gives, as the code answers it
abbrev pub Fit : Type 0
Fit = Result (Unit {0}) Ring

pub data Reply : Type 0 where
  refused : (number line : ℕ) → Reply
  plan : Reply
  none : (length : ℕ) → Reply

-- what solving gives, as the reply that it comes to
abbrev pub fit_reply : Fit → Reply
fit_reply (Ok u) = plan
fit_reply (Err k) = none k.length

-- planning
abbrev pub reply_of : Result Fit Refusal → Reply
reply_of (Err f) = refused f.number f.line
reply_of (Ok fit) = fit_reply fit

-- deciding: a sheet fits where it has a plan
abbrev pub decision_reply : Result Fit Refusal → Reply
decision_reply = reply_of

-- seating a sheet of which every question is answered yes, which writes no ring
abbrev pub seated_reply : Option ℕ → Reply
seated_reply (Some k) = plan
seated_reply None = none 0

-- seating
abbrev pub seat_reply : Result (Option ℕ) Refusal → Reply
seat_reply (Err f) = refused f.number f.line
seat_reply (Ok seated) = seated_reply seated

-- how many units seating says that it looked at: none without a plan
abbrev pub seated_looks : Option ℕ → ℕ
seated_looks (Some k) = k
seated_looks None = 0

abbrev pub looks_told : Result (Option ℕ) Refusal → ℕ
looks_told (Err f) = 0
looks_told (Ok seated) = seated_looks seated

-- the question that refused, by number and line, or that every answer was yes
abbrev pub refusal_of : Reply → Verdict
refusal_of (refused q n) = no q n
refusal_of plan = all_yes
refusal_of (none k) = all_yes
