-- The user's three conditions, of seating from lists, in the words of lawful plans alone.
-- `call` is what the entry `seat` ensures of every call: `SeatSettled`, in Planning.antt. `reply` is what its answer says (`seat_reply`, in Reply.antt),
-- `before` and `after` are the rooms lent, `s` the sheet in the lists.
use Rattle.std.specs.Prelude.{◌≡◌, refl, ◌↔◌, Bool, ℕ, T, length, take}
use Rattle.std.proofs.Common.{sym, ap, ◌∙◌}
use Rattle.network.specs.Table.{entry}
use Rattle.questions.specs.Questions.{no, all_yes}
use Rattle.sheet.specs.Sheet.{Sheet, boundaries, lawful, fair, printed_plan, looked}
use Rattle.sheet.specs.Lists.{WrittenLists, given_by}
use Rattle.plan_rooms.specs.Rooms.{SeatRooms, seat_lent, rooms_fit}
use Rattle.plan_ask.specs.Questions.{refusal_in}
use Rattle.network_pass.specs.Pass.{Passed, finished, stopped}
use Rattle.plans.proofs.LookedLaws.{unlawful_looked}
use Rattle.plan_steps.specs.Closing.{passed}
use Rattle.plan_steps.specs.PassedLaws.{stopped_unlawful}
use Rattle.plan_answers.specs.Planning.{by_pass, conclusion_in, looked_by, seated, unseated, SeatNone, SeatSettled}
use Rattle.plan_answers.proofs.ConclusionLaws.{looked_by_lem}
use Rattle.plan_answers.specs.Reply as says
use Rattle.plan_answers.specs.Reply.{refusal_of}
use Rattle.plan_conditions.specs.Statements.{SomeLawful, NoneLawful, AllEarliest, AllLatest, AllCounts, Soonest}
use Rattle.plan_conditions.proofs.ConditionLaws as laws
use Rattle.plan_conditions.proofs.ConditionLaws.{Planned}
use Rattle.plan_conditions.proofs.SharedConditions as all

module _ (l : WrittenLists) (before : SeatRooms) (reply : says.Reply) (after : SeatRooms)
    (call : SeatSettled (conclusion_in l (seat_lent before)) (given_by l) before reply after) where
  abbrev pub s : Sheet
  s = given_by l

  -- the answer to 12, and what none replies and leaves
  abbrev rooms : Bool
  rooms = rooms_fit s (seat_lent before)

  abbrev None : SeatRooms → says.Reply → SeatRooms → Type 0
  None = SeatNone s

  said : None before reply after → (k : ℕ) × (reply ≡ says.none k)
  said left = (0, left.0)

  -- ---- 1. Ground. (That a call ends and does nothing undefined is what the checker asks of every function; `seat` has no `requires`.)

  -- The reply's refusal, by number and line, is the first question whose answer is no, in the order of docs/RULES.md; an answer has none.
  pub number_is_first_no : refusal_of reply ≡ refusal_in l (seat_lent before)
  number_is_first_no = all.number_is_first_no (seated s) None l rooms before reply after call said

  -- A refusal changes no place lent.
  pub refused_changes_nothing : (q n : ℕ) → refusal_in l (seat_lent before) ≡ no q n → after ≡ before
  refused_changes_nothing = all.refused_changes_nothing (seated s) None l rooms before reply after call said

  -- ---- 2. Plan or none. A sheet that is not refused gets a plan exactly when some assignment meets all windows and all rules;
  pub plan_exactly_when_lawful : refusal_in l (seat_lent before) ≡ all_yes → (reply ≡ says.plan) ↔ SomeLawful s
  plan_exactly_when_lawful = all.plan_exactly_when_lawful (seated s) None l rooms before reply after call said

  -- else it says none, the table's places are 0, and nothing else is changed.
  pub none_otherwise : refusal_in l (seat_lent before) ≡ all_yes → NoneLawful s → (reply ≡ says.none 0) × (after ≡ unseated s before)
  none_otherwise = all.none_otherwise (seated s) None l rooms before reply after call said

  -- None is said only where no plan is lawful.
  pub none_unlawful : (k : ℕ) → reply ≡ says.none k → NoneLawful s
  none_unlawful = all.none_unlawful (seated s) None l rooms before reply after call said

  -- ---- How far it looked: `looks` is the number that its answer has (`looks_told`, in Reply.antt).
  module _ (looks : ℕ) (counted : looks ≡ looked_by (conclusion_in l (seat_lent before)) s) where
    by_pass_lem : (p : Passed) → passed s ≡ p → looked_by (by_pass p) s ≡ looked s
    by_pass_lem (finished t) e = refl
    by_pass_lem stopped e = sym (unlawful_looked s (stopped_unlawful s e))

    -- Of a sheet that is not refused it is the number that is defined without a search, which is 0 where no plan is lawful;
    pub looked_as_defined : refusal_in l (seat_lent before) ≡ all_yes → looks ≡ looked s
    looked_as_defined e = counted ∙ looked_by_lem l rooms all_yes e ∙ by_pass_lem (passed s) refl

    -- a call that is refused has looked at no unit.
    pub refused_looks_at_none : (q n : ℕ) → refusal_in l (seat_lent before) ≡ no q n → looks ≡ 0
    refused_looks_at_none q n e = counted ∙ looked_by_lem l rooms (no q n) e

  pub call_planned : reply ≡ says.plan → Planned (seated s) s before reply after
  call_planned = laws.call_planned (seated s) None l rooms before reply after call said

  module _ (planned? : reply ≡ says.plan) where
    P : Planned (seated s) s before reply after
    P = call_planned planned?

    -- Each narrowed window runs from the earliest slot the unit has in any lawful plan
    pub earliest_slot : AllEarliest s after.earliest
    earliest_slot = all.earliest_slot s (entry (boundaries s) P.table) P.solved before.earliest after.earliest (ap (λ r. r.earliest) P.left)

    -- to the latest.
    pub latest_slot : AllLatest s after.latest
    latest_slot = all.latest_slot s (entry (boundaries s) P.table) P.solved before.latest after.latest (ap (λ r. r.latest) P.left)

    -- ---- 3. Counts. The greatest and the least of a stretch, read off the table as seating leaves it.
    pub counts : AllCounts s after.table
    counts = all.counts s P.table P.size P.solved before.table after.table (ap (λ r. r.table) P.left)

    pub plan_at : take (length s.units) after.plan ≡ printed_plan s
    plan_at = all.plan_at s (entry (boundaries s) P.table) P.solved before.plan after.plan (ap (λ r. r.plan) P.left)

    -- The printed plan is lawful and has the seat property,
    pub plan_lawful : T (lawful s (take (length s.units) after.plan))
    plan_lawful = all.plan_lawful s (entry (boundaries s) P.table) P.solved before.plan after.plan (ap (λ r. r.plan) P.left)

    pub plan_fair : T (fair s (take (length s.units) after.plan))
    plan_fair = all.plan_fair s (entry (boundaries s) P.table) P.solved before.plan after.plan (ap (λ r. r.plan) P.left)

    -- and by the end of each slot, the carried place included, no lawful plan has more deliveries.
    pub plan_soonest : Soonest s (take (length s.units) after.plan)
    plan_soonest = all.plan_soonest s (entry (boundaries s) P.table) P.solved before.plan after.plan (ap (λ r. r.plan) P.left)
