-- The first no of the questions about the combined rules, by the code's tests.
-- Key idea: past each yes the questions that are left decide; no rule crosses exactly where the search comes to the end, and the first of those that cross
-- is the one at the place that it finds.
use Prim.Native.Nat.{ℕ, ◌-◌, ◌≤◌, ◌<◌}
use mathlib.Core.Path.{◌≡◌, sym, ap, ap₂, ◌∙◌}
use mathlib.Core.Bool.{Bool, not}
use mathlib.Core.List.{List, [], ◌∷◌}
use native.Mathlib.Omega.{arith}
use lib.Dec.{ltb, leb}
use lib.ListN.{length, get_or}
use borrow.Author.Tests.{lt-ltb, le-ltb, le-leb, lt-leb}
use Rattle.lists.specs.Lists.{every}
use Rattle.lists.specs.First.{first_place}
use Rattle.questions.specs.Questions.{ask, Verdict, no, all_yes, first_no}
use Rattle.questions.proofs.FirstNoLaws.{no_here, yes_here}
use Rattle.sheet.specs.Sizes.{max_rules}
use Rattle.sheet.specs.Sheet.{Rule, no_rule}
use Rattle.sheet.specs.Questions.{rules_of}
use Rattle.sheet.proofs.QuestionLaws.{rules_of_length, rules_of_at}
use Rattle.merge_sheets.specs.Merge.{crossed}
use Rattle.read_form.specs.declared.Kind.TheVariants as Kind
use Rattle.merge_questions.specs.Merging.{line_number, stretch_questions}
use Rattle.merge_questions.specs.FirstLaws.{first_same, first_in, none_first, head_first}

-- ---- the combined rules
module _ (two froms tos lows highs : List ℕ) (ts : length tos ≡ length froms) (ls : length lows ≡ length froms) (hs : length highs ≡ length froms)
    (last : Rule → ℕ) (past : ℕ) where
  abbrev rs : List Rule
  rs = rules_of froms tos lows highs

  abbrev asked : Verdict
  asked = first_no (stretch_questions two last rs past)

  -- the place that the code finds
  abbrev place : ℕ
  place = first_place (length lows) (λ j. ltb (get_or highs j 0) (get_or lows j 0))

  many : length rs ≡ length froms
  many = rules_of_length froms tos lows highs ts ls hs

  -- is that of the first rule that crosses
  same_place : first_in crossed no_rule rs ≡ place
  same_place =
      ap (λ (n : ℕ). first_place n (λ j. crossed (get_or rs j no_rule))) (many ∙ sym ls)
      ∙ first_same (λ j. crossed (get_or rs j no_rule)) (λ j. ltb (get_or highs j 0) (get_or lows j 0)) (length lows) 0
      (λ j a b. ap crossed (rules_of_at froms tos lows highs ts ls hs j (omega arith)))

  none_crosses : (b : Bool) → ltb place (length froms) ≡ b → every (λ r. not (crossed r)) rs ≡ not b
  none_crosses b e = none_first crossed no_rule rs ∙ ap₂ (λ (k n : ℕ). not (ltb k n)) same_place many ∙ ap not e

  abbrev pub crossing : Rule
  crossing = record { from = get_or froms place 0; to = get_or tos place 0; low = get_or lows place 0; high = get_or highs place 0 }

  pub no_21 : place < length froms → asked ≡ no 21 (line_number two Kind.Rule (last crossing))
  no_21 h =
      no_here _ 21 _ _ (none_crosses _ (lt-ltb place (length froms) h))
      ∙ ap (λ (r : Rule). no 21 (line_number two Kind.Rule (last r)))
      (head_first crossed no_rule rs ∙ ap (λ (j : ℕ). get_or rs j no_rule) same_place ∙ rules_of_at froms tos lows highs ts ls hs place h)

  module _ (none : length froms ≤ place) where
    -- 10 decides
    last_asked : asked ≡ first_no (ask 10 (line_number two Kind.Rule past) (leb (length rs) max_rules) ∷ [])
    last_asked = yes_here _ 21 _ _ (none_crosses _ (le-ltb place (length froms) none))

    pub no_10 : max_rules < length froms → asked ≡ no 10 (line_number two Kind.Rule past)
    no_10 h = last_asked ∙ no_here _ 10 _ _ (lt-leb (length rs) max_rules (omega (arith, many)))

    pub all_yes_lem : length froms ≤ max_rules → asked ≡ all_yes
    unfolding first_no
    all_yes_lem h = last_asked ∙ yes_here _ 10 (line_number two Kind.Rule past) [] (le-leb (length rs) max_rules (omega (arith, many)))
