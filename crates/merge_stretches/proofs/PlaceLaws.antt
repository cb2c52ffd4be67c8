-- The combined rules at the fronts of the arrays, and the rule that makes too many stretches.
-- Key idea: as many rules as a sheet may have make no more stretches, so the rule that makes too many is the second sheet's.
use Prim.Native.Nat.{ℕ, suc, ◌+◌, ◌-◌, ◌≤◌, ◌<◌}
use mathlib.Core.Path.{◌≡◌, sym, ap, ap₂, ◌∙◌}
use mathlib.Core.Bool.{◌&&◌}
use mathlib.Core.List.{List, map}
use native.Mathlib.Omega.{arith}
use native.Mathlib.Decide.{dec_le}
use lib.Dec.{eqb}
use lib.ListN.{length, get_or, take, drop, length-take, length-drop, take-append-drop}
use lib.Seq.{take_all, length-take-le, get_or-drop}
use borrow.Author.Tests.{ltb-true}
use Rattle.lists.specs.Lists.{on_front}
use Rattle.lists.specs.First.{first_place, first_at}
use Rattle.sheet.specs.Sizes.{max_rules}
use Rattle.sheet.specs.Sheet.{Rule, on_stretch, no_rule}
use Rattle.sheet.specs.Questions.{rules_of}
use Rattle.sheet.proofs.QuestionLaws.{rules_of_length, rules_of_at}
use Rattle.lists.specs.Last.{last_below, last_same}
use Rattle.merge_sheets.specs.Merge.{merged_rules}
use Rattle.merge_sheets.proofs.CombineLaws.{merged_rules_few}
use Rattle.sheet.proofs.WrittenLaws.{rules_back}
use Rattle.merge_rules.specs.Columns.{stretch_at}
use Rattle.lists.specs.FrontLaws.{front_is}
use Rattle.questions.specs.Questions.{first_no}
use Rattle.merge_questions.specs.Merging.{first_crossed, too_many_at, last_on, stretch_questions, rule_questions}
use Rattle.merge_stretches.specs.Stretches.{last_at}

pub past_first : (rs : List Rule) (n : ℕ) → n ≤ length rs → n ≤ max_rules → n ≤ first_place (length rs) (too_many_at rs)
past_first rs n h few = elim (dec_le n (first_place (length rs) (too_many_at rs))) [
  | yes l ↦ l
  | no g ↦
      let p = first_place (length rs) (too_many_at rs) in
      let front = take (suc p) rs in
      let many : max_rules < length (merged_rules front) = ltb-true max_rules (length (merged_rules front)) (first_at (too_many_at rs) (length rs) (omega arith)) in
      absurd (omega (arith, many, merged_rules_few front, length-take (suc p) rs))
]

-- so the questions are those of the two sheets' rules
pub asked_is : (two : List ℕ) (last : Rule → ℕ) (rs cs : List Rule) (n past : ℕ) → ((q : Rule) → last q ≡ last_on (drop n rs) q) → cs ≡ merged_rules rs
    → past ≡ first_place (length rs) (too_many_at rs) → n ≤ length rs
    → first_no (stretch_questions two last cs (past - n)) ≡ first_no (rule_questions two (take n rs) (drop n rs))
asked_is two last rs cs n past l e p h =
    ap₂ (λ (xs : List Rule) (k : ℕ). first_no (stretch_questions two last xs (k - n))) e p
    ∙ sym (ap₂ (λ (all : List Rule) (k : ℕ).
    first_no (stretch_questions two (last_on (drop n rs)) (merged_rules all) (first_place (length all) (too_many_at all) - k)))
    (take-append-drop n rs) (length-take-le n rs h)
    ∙ ap (λ (j : ℕ). first_no (stretch_questions two (λ q. j) (merged_rules rs) (first_place (length rs) (too_many_at rs) - n)))
    (sym (l (first_crossed (merged_rules rs)))))

-- the second sheet's rules, which stand past the first's
pub part_long : (from : List ℕ) (n : ℕ) → length (take (length from - n) (drop n from)) ≡ length from - n
part_long from n = omega (arith, length-take (length from - n) (drop n from), length-drop n from)

module _ (from to low high : List ℕ) (tos : length to ≡ length from) (lows : length low ≡ length from) (highs : length high ≡ length from) (n : ℕ) where
  abbrev all : List Rule
  all = rules_of from to low high

  -- a place of theirs is so many places further on
  same_stretch : (q : Rule) (j : ℕ) → j < length (drop n from)
      → stretch_at (drop n from) (drop n to) q.from q.to j ≡ on_stretch q.from q.to (get_or (drop n all) j no_rule)
  same_stretch q j h =
      ap₂ (λ (f t : ℕ). eqb f q.from && eqb t q.to) (get_or-drop n from j 0) (get_or-drop n to j 0)
      ∙ sym (ap (on_stretch q.from q.to) (get_or-drop n all j no_rule
      ∙ rules_of_at from to low high tos lows highs (n + j) (omega (arith, length-drop n from))))

  past_last : (q : Rule) → last_at (drop n from) (drop n to) q ≡ last_on (drop n all) q
  past_last q =
      let k : length (drop n from) ≡ length (drop n all) =
      omega (arith, length-drop n from, length-drop n all, rules_of_length from to low high tos lows highs) in
      last_same _ _ (length (drop n from)) (length (drop n from)) (same_stretch q)
      ∙ ap (λ (m : ℕ). last_below m m (λ j. on_stretch q.from q.to (get_or (drop n all) j no_rule))) k

  pub last_past : (q : Rule) → last_at (take (length from - n) (drop n from)) (take (length to - n) (drop n to)) q ≡ last_on (drop n all) q
  last_past q =
      rw (take_all (length from - n) (drop n from) (omega (arith, length-drop n from)), take_all (length to - n) (drop n to) (omega (arith, length-drop n to)))
      (past_last q)

-- ---- the fronts of the arrays
module _ (rs : List Rule) (k : ℕ) (e : k ≡ length rs) (froms tos lows highs : List ℕ) (a b c d : List ℕ)
    (fs : froms ≡ on_front (map (λ r. r.from) rs) a) (ts : tos ≡ on_front (map (λ r. r.to) rs) b)
    (ls : lows ≡ on_front (map (λ r. r.low) rs) c) (hs : highs ≡ on_front (map (λ r. r.high) rs) d) where
  pub fronts_are : rules_of (take k froms) (take k tos) (take k lows) (take k highs) ≡ rs
  fronts_are =
      rw (
        front_is (λ r. r.from) rs k a froms e fs,
        front_is (λ r. r.to) rs k b tos e ts,
        front_is (λ r. r.low) rs k c lows e ls,
        front_is (λ r. r.high) rs k d highs e hs,
      ) (rules_back rs)
