-- The user's three conditions, of planning from lists, in the words of lawful plans alone.
-- `call` is what the entry `plan` ensures of every call: `Settled`, in Planning.antt. `reply` is what its answer says (`reply_of`, in Reply.antt), `before` and
-- `after` are the rooms lent, `s` the sheet in the lists.
use Rattle.std.specs.Prelude.{◌≡◌, refl, ◌↔◌, Bool, ℕ, T, length, take}
use Rattle.std.proofs.Common.{ap}
use Rattle.network.specs.Table.{entry}
use Rattle.questions.specs.Questions.{no, all_yes}
use Rattle.sheet.specs.Sheet.{Sheet, boundaries, is_ring, lawful, fair, printed_plan}
use Rattle.sheet.specs.Lists.{WrittenLists, given_by}
use Rattle.plan_rooms.specs.Rooms.{Rooms, plan_lent, rooms_fit}
use Rattle.plan_ask.specs.Questions.{refusal}
use Rattle.plan_answers.specs.Planning.{conclusion, planned, ringed, WithRing, Settled}
use Rattle.plan_answers.specs.Reply as says
use Rattle.plan_answers.specs.Reply.{refusal_of}
use Rattle.plan_conditions.specs.Statements.{SomeLawful, NoneLawful, AllEarliest, AllLatest, AllCounts, Soonest}
use Rattle.plan_conditions.proofs.ConditionLaws as laws
use Rattle.plan_conditions.proofs.ConditionLaws.{Planned}
use Rattle.plan_conditions.proofs.SharedConditions as all

module _ (l : WrittenLists) (before : Rooms) (reply : says.Reply) (after : Rooms) (call : Settled (conclusion l before) (given_by l) before reply after) where
  abbrev pub s : Sheet
  s = given_by l

  -- the answer to 12, and what none replies and leaves
  abbrev rooms : Bool
  rooms = rooms_fit s (plan_lent before)

  abbrev None : Rooms → says.Reply → Rooms → Type 0
  None = WithRing s (ringed s)

  said : None before reply after → (k : ℕ) × (reply ≡ says.none k)
  said left = (length left.0, left.2)

  -- ---- 1. Ground. (That a call ends and does nothing undefined is what the checker asks of every function; `plan` has no `requires`.)

  -- The reply's refusal, by number and line, is the first question whose answer is no, in the order of docs/RULES.md; an answer has none.
  pub number_is_first_no : refusal_of reply ≡ refusal l before
  number_is_first_no = all.number_is_first_no (planned s) None l rooms before reply after call said

  -- A refusal changes no place lent.
  pub refused_changes_nothing : (q n : ℕ) → refusal l before ≡ no q n → after ≡ before
  refused_changes_nothing = all.refused_changes_nothing (planned s) None l rooms before reply after call said

  -- ---- 2. Plan or ring. A sheet that is not refused gets a plan exactly when some assignment meets all windows and all rules;
  pub plan_exactly_when_lawful : refusal l before ≡ all_yes → (reply ≡ says.plan) ↔ SomeLawful s
  plan_exactly_when_lawful = all.plan_exactly_when_lawful (planned s) None l rooms before reply after call said

  -- else it says none, and a ring of the sheet's own limits stands at the front of its room.
  pub ring_at : (k : ℕ) → reply ≡ says.none k → T (is_ring s (take k after.ring))
  ring_at k f =
      all.ring_at s (ringed s) (λ r. r.ring) (λ c r. refl) before reply after
      (laws.call_unplanned (planned s) None l rooms before reply after call said k f).left k f

  pub ring_otherwise : refusal l before ≡ all_yes → NoneLawful s
      → (k : ℕ) × (reply ≡ says.none k) × T (is_ring s (take k after.ring))
  ring_otherwise e f =
      let left = all.none_otherwise (planned s) None l rooms before reply after call said e f in
      (length left.0, left.2, ring_at (length left.0) left.2)

  -- None is said only where no plan is lawful.
  pub none_unlawful : (k : ℕ) → reply ≡ says.none k → NoneLawful s
  none_unlawful = all.none_unlawful (planned s) None l rooms before reply after call said

  pub call_planned : reply ≡ says.plan → Planned (planned s) s before reply after
  call_planned = laws.call_planned (planned s) None l rooms before reply after call said

  module _ (planned? : reply ≡ says.plan) where
    P : Planned (planned s) s before reply after
    P = call_planned planned?

    -- Each narrowed window runs from the earliest slot the unit has in any lawful plan
    pub earliest_slot : AllEarliest s after.earliest
    earliest_slot = all.earliest_slot s (entry (boundaries s) P.table) P.solved before.earliest after.earliest (ap (λ r. r.earliest) P.left)

    -- to the latest.
    pub latest_slot : AllLatest s after.latest
    latest_slot = all.latest_slot s (entry (boundaries s) P.table) P.solved before.latest after.latest (ap (λ r. r.latest) P.left)

    -- ---- 3. Counts. The greatest and the least of a stretch, read off the table as planning leaves it.
    pub counts : AllCounts s after.table
    counts = all.counts s P.table P.size P.solved before.table after.table (ap (λ r. r.table) P.left)

    pub plan_at : take (length s.units) after.plan ≡ printed_plan s
    plan_at = all.plan_at s (entry (boundaries s) P.table) P.solved before.plan after.plan (ap (λ r. r.plan) P.left)

    -- The printed plan is lawful and has the seat property,
    pub plan_lawful : T (lawful s (take (length s.units) after.plan))
    plan_lawful = all.plan_lawful s (entry (boundaries s) P.table) P.solved before.plan after.plan (ap (λ r. r.plan) P.left)

    pub plan_fair : T (fair s (take (length s.units) after.plan))
    plan_fair = all.plan_fair s (entry (boundaries s) P.table) P.solved before.plan after.plan (ap (λ r. r.plan) P.left)

    -- and by the end of each slot, the carried place included, no lawful plan has more deliveries.
    pub plan_soonest : Soonest s (take (length s.units) after.plan)
    plan_soonest = all.plan_soonest s (entry (boundaries s) P.table) P.solved before.plan after.plan (ap (λ r. r.plan) P.left)
