-- What is known of two calls that are not refused.
-- Key idea: what a call leaves is known by its sheet alone, so what two sheets agree on, two calls do.
use Rattle.std.specs.Prelude.{◌≡◌, refl, ◌↔◌, Bool, List, ℕ, ◌≤◌, length, ℤ, ◌≤ℤ◌}
use Rattle.std.proofs.Common.{ap, ◌∙◌}
use Rattle.network.specs.Table.{entry}
use Rattle.questions.specs.Questions.{all_yes}
use Rattle.sheet.specs.Sheet.{top, boundaries}
use Rattle.sheet.specs.Lists.{WrittenLists, given_by, written_by}
use Rattle.plan_rooms.specs.Rooms.{plan_lent, decide_lent, rooms_fit}
use Rattle.plan_ask.specs.Asking.{Listed}
use Rattle.plan_ask.specs.Questions.{refusal_by}
use Rattle.plan_ask.proofs.SolvableLaws.{asked_lists}
use Rattle.plan_answers.specs.Planning.{table_in, conclusion_by, SettledBy, WithRing, planned, ringed, decided, contradicted}
use Rattle.plan_answers.specs.Reply as says
use Rattle.plan_conditions.proofs.ConditionLaws.{call_planned}
use Rattle.plan_conditions.proofs.SharedConditions as all
use Rattle.plan_conditions.specs.Statements.{SomeLawful, NoneLawful}
use Rattle.compare_sheets.specs.Comparing.{Relisted, SameLoader, Looser}
use Rattle.compare.specs.Calls.{PlanCall, DecideCall}
use Rattle.compare.proofs.CallLaws.{Alike, Tabled, lists_alike, looser_some, none_there, tables_looser, tables_same}

-- ---- what is known of a call that is not refused, whatever rooms it has

pub record Known (l : WrittenLists) (reply : says.Reply) (left : List ℤ) : Type 0 where
  pub listed : Listed l
  pub some : (reply ≡ says.plan) ↔ SomeLawful (given_by l)
  pub none : ((k : ℕ) × (reply ≡ says.none k)) ↔ NoneLawful (given_by l)
  pub tabled : reply ≡ says.plan → Tabled (given_by l) left

module _ {R : Type 0} (planned : List ℤ → R → R) (None : R → says.Reply → R → Type 0) (l : WrittenLists) (rooms : Bool)
    (before : R) (reply : says.Reply) (after : R) (call : SettledBy planned None (conclusion_by l rooms) before reply after)
    (said : None before reply after → (k : ℕ) × (reply ≡ says.none k)) (asked : refusal_by l rooms ≡ all_yes)
    (table : R → List ℤ) (left : (t : List ℤ) (r : R) → table (planned t r) ≡ table_in (given_by l) t (table r)) where
  known : Known l reply (table after)
  known = record {
    listed = asked_lists l rooms asked;
    some = all.plan_exactly_when_lawful planned None l rooms before reply after call said asked;
    none = (
      λ f. all.none_unlawful planned None l rooms before reply after call said f.0 f.1,
      λ f. said (all.none_otherwise planned None l rooms before reply after call said asked f),
    );
    tabled = λ f.
        let P = call_planned planned None l rooms before reply after call said f in
        record { table = P.table; size = P.size; solved = P.solved; room = table before; is = ap table P.left ∙ left P.table before };
  }

pub plan_known : (p : PlanCall) → Known p.lists p.reply p.after.table
plan_known p =
    let s = given_by p.lists in
    known (planned s) (WithRing s (ringed s)) p.lists (rooms_fit s (plan_lent p.before)) p.before p.reply p.after p.settled
    (λ left. (length left.0, left.2)) p.asked (λ r. r.table) (λ t r. refl)

pub decide_known : (p : DecideCall) → Known p.lists p.reply p.after.table
decide_known p =
    let s = given_by p.lists in
    known (decided s) (WithRing s (contradicted s)) p.lists (rooms_fit s (decide_lent p.before)) p.before p.reply p.after p.settled
    (λ left. (length left.0, left.2)) p.asked (λ r. r.table) (λ t r. refl)

-- ---- two of them
module _ {l m : WrittenLists} {one two : says.Reply} {left left' : List ℤ} (K : Known l one left) (N : Known m two left') where
  -- of the same wave listed in another order
  module _ (listed : Relisted (written_by l) (written_by m)) where
    pub known_alike : Alike (given_by l) (given_by m) (SameLoader (written_by l) (written_by m))
    known_alike = lists_alike l m K.listed N.listed listed

    pub known_plan : (one ≡ says.plan) ↔ (two ≡ says.plan)
    known_plan = (λ f. N.some.1 (known_alike.some.0 (K.some.0 f)), λ f. K.some.1 (known_alike.some.1 (N.some.0 f)))

    pub known_none : ((k : ℕ) × (one ≡ says.none k)) ↔ ((k : ℕ) × (two ≡ says.none k))
    known_none = (
      λ f. N.none.1 (none_there (given_by l) (given_by m) known_alike.some.1 (K.none.0 f)),
      λ f. K.none.1 (none_there (given_by m) (given_by l) known_alike.some.0 (N.none.0 f)),
    )

    pub known_table : one ≡ says.plan → (a b : ℕ) → a ≤ top (given_by l) → b ≤ top (given_by l)
        → entry (boundaries (given_by l)) left a b ≡ entry (boundaries (given_by m)) left' a b
    known_table f = tables_same (given_by l) (given_by m) _ known_alike left left' (K.tabled f) (N.tabled (known_plan.0 f))

  -- of a wave and one that is allowed more
  module _ (more : Looser (given_by l) (given_by m)) (plan : one ≡ says.plan) where
    pub known_looser : two ≡ says.plan
    known_looser = N.some.1 (looser_some (given_by l) (given_by m) more (K.some.0 plan))

    pub known_looser_table : (a b : ℕ) → a ≤ top (given_by l) → b ≤ top (given_by l)
        → entry (boundaries (given_by l)) left a b ≤ℤ entry (boundaries (given_by m)) left' a b
    known_looser_table = tables_looser (given_by l) (given_by m) more (K.some.0 plan) left left' (K.tabled plan) (N.tabled known_looser)
