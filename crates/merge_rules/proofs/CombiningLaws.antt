-- The loop over the rules: before the turn of rule i the columns hold the merged rules of those before it.
-- Key idea: the merged rules of one rule more are the merged ones with that rule more; and their number never falls.
use mathlib.Core.Path.{◌≡◌, refl, sym, ap, subst, ◌∙◌}
use mathlib.Core.Bool.{Bool}
use mathlib.Core.List.{List, map}
use Prim.Native.Nat.{ℕ, suc, ◌+◌, ◌-◌, ◌≤◌, ◌<◌}
use native.Mathlib.Omega.{arith}
use native.Mathlib.Numerals.{add-one}
use lib.Dec.{ltb}
use lib.ListN.{length, get_or, take, drop, length-take, length-map}
use lib.Seq.{take-suc, take-add, take_all}
use borrow.Author.Tests.{lt-ltb, le-ltb}
use Rattle.lists.specs.Lists.{on_front}
use Rattle.lists.specs.First.{first_place}
use Rattle.lists.specs.Values.{front_length}
use Rattle.sheet.specs.Sizes.{max_rules}
use Rattle.sheet.specs.Sheet.{Rule, no_rule}
use Rattle.merge_sheets.specs.Merge.{firsts, merged_rules, with_rule}
use Rattle.merge_sheets.proofs.CombineLaws.{merged_rules_more, merged_rules_few, merged_rules_grows}
use Rattle.merge_rules.specs.Columns.{Columns, AtFront}
use Rattle.merge_rules.proofs.PassedLaws.{Passed, passed_none, passed_not_yet, passed_stays, passed_end}

-- rule j makes more stretches than a sheet may have, or one before it does
abbrev pub too_many : List Rule → ℕ → Bool
too_many rs j = ltb max_rules (length (merged_rules (take (suc j) rs)))

pub record Combining (rs : List Rule) (before : Columns) (i count past : ℕ) (now : Columns) : Type 0 where
  pub most : i ≤ length rs
  pub held : AtFront (merged_rules (take i rs)) count before now
  pub passed : Passed (too_many rs) i past

-- the columns are long enough for all rules
pub record Roomy (rs : List Rule) (cs : Columns) : Type 0 where
  pub froms : length rs ≤ length cs.from
  pub tos : length rs ≤ length cs.to
  pub lows : length rs ≤ length cs.low
  pub highs : length rs ≤ length cs.high

-- every column is as long as it was
pub record SameLong (before now : Columns) : Type 0 where
  pub froms : length now.from ≡ length before.from
  pub tos : length now.to ≡ length before.to
  pub lows : length now.low ≡ length before.low
  pub highs : length now.high ≡ length before.high

column_long : (col : Rule → ℕ) (qs : List Rule) (room now : List ℕ) → now ≡ on_front (map col qs) room → length qs ≤ length room → length now ≡ length room
column_long col qs room now e h = front_length (map col qs) (length (map col qs)) refl room now e (omega (arith, length-map qs col))

module _ (rs : List Rule) (before : Columns) where
  pub combining_none : Combining rs before 0 0 0 before
  unfolding merged_rules firsts
  combining_none = record {
    most = omega arith;
    held = record { count = refl; froms = refl; tos = refl; lows = refl; highs = refl };
    passed = passed_none (too_many rs);
  }

  module _ (i count past : ℕ) (now : Columns) (s : Combining rs before i count past now) where
    -- there are as many as rules at most
    pub few : count ≤ i
    few = omega (arith, s.held.count, merged_rules_few (take i rs), length-take i rs)

    pub same_long : Roomy rs before → SameLong before now
    same_long room =
        let h = s.held in
        let k : length (merged_rules (take i rs)) ≤ length rs = omega (arith, h.count, few, s.most) in
        record {
          froms = column_long (λ q. q.from) (merged_rules (take i rs)) before.from now.from h.froms (omega (arith, k, room.froms));
          tos = column_long (λ q. q.to) (merged_rules (take i rs)) before.to now.to h.tos (omega (arith, k, room.tos));
          lows = column_long (λ q. q.low) (merged_rules (take i rs)) before.low now.low h.lows (omega (arith, k, room.lows));
          highs = column_long (λ q. q.high) (merged_rules (take i rs)) before.high now.high h.highs (omega (arith, k, room.highs));
        }

    -- one rule more
    module _ (k : i < length rs) (count' : ℕ) (now' : Columns) (more : AtFront (with_rule (merged_rules (take i rs)) (get_or rs i no_rule)) count' before now') where
      merged_next : with_rule (merged_rules (take i rs)) (get_or rs i no_rule) ≡ merged_rules (take (suc i) rs)
      merged_next = sym (ap merged_rules (take-suc rs i no_rule k) ∙ merged_rules_more (take i rs) (get_or rs i no_rule))

      held_next : AtFront (merged_rules (take (i + 1) rs)) count' before now'
      held_next = subst (λ (cs : List Rule). AtFront cs count' before now') (merged_next ∙ ap (λ j. merged_rules (take j rs)) (sym (add-one i))) more

      number : count' ≡ length (merged_rules (take (suc i) rs))
      number = more.count ∙ ap length merged_next

      -- the rules up to an earlier one have no more stretches
      earlier : (j : ℕ) → j < i + 1 → length (merged_rules (take (suc j) rs)) ≤ length (merged_rules (take (suc i) rs))
      earlier j l =
          let e : suc j + (i - j) ≡ suc i = omega arith in
          omega (
            arith,
            merged_rules_grows (take (suc j) rs) (take (i - j) (drop (suc j) rs)),
            ap (λ xs. length (merged_rules xs)) (sym (take-add (suc j) (i - j) rs) ∙ ap (λ m. take m rs) e),
          )

      pub still_fit : count' ≤ max_rules → Combining rs before (i + 1) count' (i + 1) now'
      still_fit h = record {
        most = omega arith;
        held = held_next;
        passed = passed_not_yet (too_many rs) i (λ j l. le-ltb max_rules (length (merged_rules (take (suc j) rs))) (omega (arith, number, earlier j l)));
      }

      pub too_many_lem : max_rules < count' → Combining rs before (i + 1) count' past now'
      too_many_lem h = record {
        most = omega arith;
        held = held_next;
        passed = passed_stays (too_many rs) i past s.passed (lt-ltb max_rules (length (merged_rules (take (suc i) rs))) (omega (arith, number)));
      }

    -- all rules
    module _ (k : length rs ≤ i) where
      pub all_held : AtFront (merged_rules rs) count before now
      all_held = subst (λ (xs : List Rule). AtFront (merged_rules xs) count before now) (take_all i rs k) s.held

      pub all_passed : past ≡ first_place (length rs) (too_many rs)
      all_passed =
          let e : i ≡ length rs = omega (arith, s.most) in
          passed_end (too_many rs) i past s.passed ∙ ap (λ (n : ℕ). first_place n (too_many rs)) e
