-- The user's three conditions, of deciding from lists, in the words of lawful plans alone.
-- `call` is what the entry `decide` ensures of every call: `DecideSettled`, in Planning.antt. `reply` is what its decision says (`decision_reply`, in
-- Reply.antt: that it fits is that there is a plan), `before` and `after` are the rooms lent, `s` the sheet in the lists.
use Rattle.std.specs.Prelude.{◌≡◌, refl, ◌↔◌, Bool, ℕ, T, length, take}
use Rattle.std.proofs.Common.{ap}
use Rattle.questions.specs.Questions.{no, all_yes}
use Rattle.sheet.specs.Sheet.{Sheet, is_ring}
use Rattle.sheet.specs.Lists.{WrittenLists, given_by}
use Rattle.plan_rooms.specs.Rooms.{DecideRooms, decide_lent, rooms_fit}
use Rattle.plan_ask.specs.Questions.{refusal_in}
use Rattle.plan_answers.specs.Planning.{conclusion_in, decided, contradicted, WithRing, DecideSettled}
use Rattle.plan_answers.specs.Reply as says
use Rattle.plan_answers.specs.Reply.{refusal_of}
use Rattle.plan_conditions.specs.Statements.{SomeLawful, NoneLawful, AllCounts}
use Rattle.plan_conditions.proofs.ConditionLaws as laws
use Rattle.plan_conditions.proofs.ConditionLaws.{Planned}
use Rattle.plan_conditions.proofs.SharedConditions as all

module _ (l : WrittenLists) (before : DecideRooms) (reply : says.Reply) (after : DecideRooms)
    (call : DecideSettled (conclusion_in l (decide_lent before)) (given_by l) before reply after) where
  abbrev pub s : Sheet
  s = given_by l

  -- the answer to 12, and what none replies and leaves
  abbrev rooms : Bool
  rooms = rooms_fit s (decide_lent before)

  abbrev None : DecideRooms → says.Reply → DecideRooms → Type 0
  None = WithRing s (contradicted s)

  said : None before reply after → (k : ℕ) × (reply ≡ says.none k)
  said left = (length left.0, left.2)

  -- ---- 1. Ground. (That a call ends and does nothing undefined is what the checker asks of every function; `decide` has no `requires`.)

  -- The reply's refusal, by number and line, is the first question whose answer is no, in the order of docs/RULES.md; an answer has none.
  pub number_is_first_no : refusal_of reply ≡ refusal_in l (decide_lent before)
  number_is_first_no = all.number_is_first_no (decided s) None l rooms before reply after call said

  -- A refusal changes no place lent.
  pub refused_changes_nothing : (q n : ℕ) → refusal_in l (decide_lent before) ≡ no q n → after ≡ before
  refused_changes_nothing = all.refused_changes_nothing (decided s) None l rooms before reply after call said

  -- ---- 2. Fits or ring. A sheet that is not refused fits exactly when some assignment meets all windows and all rules;
  pub fits_exactly_when_lawful : refusal_in l (decide_lent before) ≡ all_yes → (reply ≡ says.plan) ↔ SomeLawful s
  fits_exactly_when_lawful = all.plan_exactly_when_lawful (decided s) None l rooms before reply after call said

  -- else it says none, and a ring of the sheet's own limits stands at the front of its room.
  pub ring_at : (k : ℕ) → reply ≡ says.none k → T (is_ring s (take k after.ring))
  ring_at k f =
      all.ring_at s (contradicted s) (λ r. r.ring) (λ c r. refl) before reply after
      (laws.call_unplanned (decided s) None l rooms before reply after call said k f).left k f

  pub ring_otherwise : refusal_in l (decide_lent before) ≡ all_yes → NoneLawful s
      → (k : ℕ) × (reply ≡ says.none k) × T (is_ring s (take k after.ring))
  ring_otherwise e f =
      let left = all.none_otherwise (decided s) None l rooms before reply after call said e f in
      (length left.0, left.2, ring_at (length left.0) left.2)

  -- None is said only where no plan is lawful.
  pub none_unlawful : (k : ℕ) → reply ≡ says.none k → NoneLawful s
  none_unlawful = all.none_unlawful (decided s) None l rooms before reply after call said

  pub call_planned : reply ≡ says.plan → Planned (decided s) s before reply after
  call_planned = laws.call_planned (decided s) None l rooms before reply after call said

  -- ---- 3. Counts. The greatest and the least of a stretch, read off the table as deciding leaves it.
  module _ (fits? : reply ≡ says.plan) where
    P : Planned (decided s) s before reply after
    P = call_planned fits?

    pub counts : AllCounts s after.table
    counts = all.counts s P.table P.size P.solved before.table after.table (ap (λ r. r.table) P.left)
