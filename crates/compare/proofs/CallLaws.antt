-- What two calls leave in their rooms, by the sheets that their lists make.
-- Key idea: the rooms hold what the sheet's definitions say, entry by entry and unit by unit, and on these two listings of one wave agree.
use Rattle.std.specs.Prelude.{◌≡◌, refl, ◌↔◌, Bool, List, ℕ, suc, ◌≤◌, ◌<◌, length, get_or, ℤ, pos, neg_ℤ, ◌≤ℤ◌}
use Rattle.std.proofs.Common.{sym, ap, ◌∙◌, subst, ⊎_elim, arith, eq-or-lt_of_le}
use Rattle.std.proofs.Math.Decide.{dec_le}
use Rattle.integers.specs.Parts.{ints, neg}
use Rattle.network.specs.Table.{entry}
use Rattle.questions.specs.Questions.{all_yes}
use Rattle.slots.specs.Slots.{Slot, slot_before}
use Rattle.sheet.specs.Sizes.{top_of}
use Rattle.sheet.specs.Sheet.{Sheet, WrittenSheet, constraints, top, boundaries, count_in, least_in, greatest_in, earliest, latest, printed_plan}
use Rattle.sheet.proofs.PlanLaws.{earliest_bound, earliest_attained, latest_bound, latest_attained}
use Rattle.sheet.specs.Lists.{WrittenLists, given_by, written_by}
use Rattle.sheet.proofs.WrittenLaws.{units_of_length, written_constraints}
use Rattle.plans.proofs.CountLaws.{greatest_entry, least_entry}
use Rattle.plan_rooms.specs.Rooms.{places, plan_lent, decide_lent, rooms_fit}
use Rattle.plan_ask.specs.Asking.{Listed}
use Rattle.plan_ask.proofs.ListedLaws.{as_many_units, written_accepted, written_new}
use Rattle.plan_ask.specs.Questions.{refusal_by}
use Rattle.plan_ask.proofs.SolvableLaws.{asked_lists}
use Rattle.plan_answers.specs.Planning.{table_in, conclusion_by, SettledBy, WithRing, planned, ringed, decided, contradicted}
use Rattle.plan_answers.specs.Reply as says
use Rattle.plan_conditions.proofs.ConditionLaws.{call_planned}
use Rattle.plan_conditions.proofs.SharedConditions as all
use Rattle.plan_conditions.specs.Statements.{SomeLawful, NoneLawful, AllEarliest, AllLatest}
use Rattle.plan_conditions.proofs.SharedConditions.{entry_at}
use Rattle.compare_sheets.specs.Comparing.{Accepted, Relisted, SameLoader, seats_closing, ClosesAlone, Looser}
use Rattle.compare_sheets.proofs.RelistedLaws.{same_top, same_number, same_lawful, same_least, same_greatest, same_earliest, same_latest}
use Rattle.compare_sheets.proofs.RelistedLaws.{same_counts, same_closing, same_seat}
use Rattle.compare_sheets.proofs.LooserLaws.{looser_lawful, looser_least, looser_greatest}
use Rattle.compare.specs.Calls.{PlanCall, DecideCall}
use Rattle.sheet.specs.Solved.{Solved}

-- ---- all that two sheets of one wave agree on, so that it is carried at once to the sheets of a call's lists

pub record Alike (s t : Sheet) (same : ℕ → ℕ → Type 0) : Type 0 where
  pub tops : top s ≡ top t
  pub numbers : length s.units ≡ length t.units
  pub some : SomeLawful s ↔ SomeLawful t
  pub least : (f u : Slot) → least_in s f u ≡ least_in t f u
  pub greatest : (f u : Slot) → greatest_in s f u ≡ greatest_in t f u
  pub early : (i j : ℕ) → same i j → earliest s i ≡ earliest t j
  pub late : (i j : ℕ) → same i j → latest s i ≡ latest t j
  pub counts : SomeLawful s → (u : Slot) → 1 ≤ u → u ≤ slot_before (top s) → count_in u u (printed_plan s) ≡ count_in u u (printed_plan t)
  pub closing : SomeLawful s → (c u : Slot) → seats_closing s (printed_plan s) c u ≡ seats_closing t (printed_plan t) c u
  pub seat : SomeLawful s → (i j : ℕ) → same i j → ClosesAlone s i → get_or (printed_plan s) i 0 ≡ get_or (printed_plan t) j 0

pub relisted_alike : (w v : WrittenSheet) → Relisted w v → Accepted w → Accepted v → Alike (constraints w) (constraints v) (SameLoader w v)
relisted_alike w v listed okw okv = record {
  tops = same_top w v listed;
  numbers = same_number w v listed;
  some = same_lawful w v listed;
  least = same_least w v listed;
  greatest = same_greatest w v listed;
  early = same_earliest w v listed okw okv;
  late = same_latest w v listed okw okv;
  counts = λ x. same_counts w v listed okw okv x.0 x.1;
  closing = λ x. same_closing w v listed okw okv x.0 x.1;
  seat = λ x. same_seat w v listed okw okv x.0 x.1;
}

-- where the second sheet has a lawful plan only if the first has, it has none if the first has none
pub none_there : (s t : Sheet) → (SomeLawful t → SomeLawful s) → NoneLawful s → NoneLawful t
none_there s t f none x l = let y = f (x, l) in none y.0 y.1

-- lists that pass their questions make an accepted sheet
lists_accepted : (l : WrittenLists) → Listed l → Accepted (written_by l)
lists_accepted l y = record { sheet = written_accepted l y; loaders = written_new l y }

-- which has as many units
pub written_length : (l : WrittenLists) → Listed l → length (written_by l).units ≡ length (given_by l).units
written_length l y = units_of_length l.loader (given_by l).units (as_many_units l y)

pub lists_alike : (l m : WrittenLists) → Listed l → Listed m → Relisted (written_by l) (written_by m)
    → Alike (given_by l) (given_by m) (SameLoader (written_by l) (written_by m))
lists_alike l m yl ym listed =
    let same = SameLoader (written_by l) (written_by m) in
    subst (λ (s : Sheet). Alike s (given_by m) same) (written_constraints l (as_many_units l yl))
    (subst (λ (t : Sheet). Alike (constraints (written_by l)) t same) (written_constraints m (as_many_units m ym))
    (relisted_alike (written_by l) (written_by m) listed (lists_accepted l yl) (lists_accepted m ym)))

-- ---- a table as a call leaves it in its room: entry by entry what is greatest and least

pub record Tabled (s : Sheet) (left : List ℤ) : Type 0 where
  pub table : List ℤ
  pub size : length table ≡ places s
  pub solved : Solved s (entry (boundaries s) table)
  pub room : List ℤ
  pub is : left ≡ table_in s table room

module _ (s : Sheet) (left : List ℤ) (held : Tabled s left) where
  entry_is : (a b : ℕ) → a ≤ top s → b ≤ top s → entry (boundaries s) left a b ≡ entry (boundaries s) held.table a b
  entry_is = entry_at s held.table held.size held.solved held.room left held.is

  forward : (a b : ℕ) → a < b → b ≤ top s → entry (boundaries s) left a b ≡ pos (greatest_in s (suc a) b)
  forward a b h hb = entry_is a b (omega arith) hb ∙ sym (greatest_entry s (entry (boundaries s) held.table) held.solved a b h hb)

  backward : (a b : ℕ) → a < b → b ≤ top s → entry (boundaries s) left b a ≡ neg_ℤ (pos (least_in s (suc a) b))
  backward a b h hb = entry_is b a hb (omega arith) ∙ sym (least_entry s (entry (boundaries s) held.table) held.solved a b h hb)

  own : (a : ℕ) → a ≤ top s → entry (boundaries s) left a a ≡ pos 0
  own a ha = entry_is a a ha ha ∙ held.solved.finished.diagonal a ha

-- two boundaries, by which comes first
by_order : {P : ℕ → ℕ → Type 0} → ((a b : ℕ) → a < b → P a b) → ((a b : ℕ) → a < b → P b a) → ((a : ℕ) → P a a) → (a b : ℕ) → P a b
by_order {P} f g h a b = elim (dec_le a b) [
  | no k ↦ g b a (omega arith)
  | yes k ↦ ⊎_elim (λ (e : a ≡ b). subst (P a) e (h a)) (λ k. f a b k) (eq-or-lt_of_le k)
]

-- the same entries
pub tables_same : (s t : Sheet) (same : ℕ → ℕ → Type 0) → Alike s t same → (one other : List ℤ) → Tabled s one → Tabled t other
    → (a b : ℕ) → a ≤ top s → b ≤ top s → entry (boundaries s) one a b ≡ entry (boundaries t) other a b
tables_same s t same A one other S U = by_order {P = λ a b. a ≤ top s → b ≤ top s → entry (boundaries s) one a b ≡ entry (boundaries t) other a b}
    (λ a b h ha hb. forward s one S a b h hb ∙ ap pos (A.greatest (suc a) b) ∙ sym (forward t other U a b h (omega (arith, A.tops))))
    (λ a b h hb ha. backward s one S a b h hb ∙ ap (λ k. neg_ℤ (pos k)) (A.least (suc a) b) ∙ sym (backward t other U a b h (omega (arith, A.tops))))
    (λ a ha hb. own s one S a ha ∙ sym (own t other U a (omega (arith, A.tops))))

-- where more is allowed there are as many boundaries, a plan is a plan still,
looser_top : (s t : Sheet) → Looser s t → top s ≡ top t
unfolding top
looser_top s t looser = ap top_of looser.span

pub looser_some : (s t : Sheet) → Looser s t → SomeLawful s → SomeLawful t
looser_some s t looser x = (x.0, looser_lawful s t looser x.0 x.1)

-- and no entry falls
pub tables_looser : (s t : Sheet) → Looser s t → SomeLawful s → (one other : List ℤ) → Tabled s one → Tabled t other
    → (a b : ℕ) → a ≤ top s → b ≤ top s → entry (boundaries s) one a b ≤ℤ entry (boundaries t) other a b
tables_looser s t looser x one other S U =
    let e = looser_top s t looser in
    by_order {P = λ a b. a ≤ top s → b ≤ top s → entry (boundaries s) one a b ≤ℤ entry (boundaries t) other a b}
    (λ a b h ha hb. omega (ints, forward s one S a b h hb, forward t other U a b h (omega (arith, e)), looser_greatest s t looser x.0 x.1 (suc a) b))
    (λ a b h hb ha. omega (
      ints,
      backward s one S a b h hb,
      backward t other U a b h (omega (arith, e)),
      looser_least s t looser x.0 x.1 (suc a) b,
      neg (pos (least_in s (suc a) b)),
      neg (pos (least_in t (suc a) b)),
    ))
    (λ a ha hb. omega (ints, own s one S a ha, own t other U a (omega (arith, e))))

-- ---- narrowed windows as a call leaves them in their rooms
module _ (s : Sheet) (x : SomeLawful s) (room : List Slot) (j : ℕ) (h : j < length s.units) where
  pub earliest_is : AllEarliest s room → get_or room j 0 ≡ earliest s j
  earliest_is A =
      let r = (A j h).1 in
      let y = earliest_attained s x.0 x.1 j in
      omega (arith, r.2, earliest_bound s r.0 r.1 j, y.2, (A j h).0 y.0 y.1)

  pub latest_is : AllLatest s room → get_or room j 0 ≡ latest s j
  latest_is A =
      let r = (A j h).1 in
      let y = latest_attained s x.0 x.1 j in
      omega (arith, r.2, latest_bound s r.0 r.1 j, y.2, (A j h).0 y.0 y.1)
