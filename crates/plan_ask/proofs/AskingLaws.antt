-- The questions as the code asks them are the questions of docs/RULES.md.
-- Key idea: a test of each unit or rule that looks at two numbers of it is a test of two lists, place by place.
use Rattle.std.specs.Prelude.{◌≡◌, Bool, ◌&&◌, List, [], ◌∷◌, ℕ, ◌≤◌, T, eqb, length}
use Rattle.std.proofs.Math.Path.{refl, ap, ap₂}
use Rattle.std.proofs.Common.{sym, subst, arith, eqb→eq, eq-eqb}
use Rattle.std.proofs.Math.Dec.{leb}
use Rattle.lists.specs.Lists.{every}
use Rattle.lists.specs.Members.{both, left, right}
use Rattle.sheet.specs.Sizes.{max_slots, max_units, max_rules, max_count, carried_place, boundaries_of}
use Rattle.sheet.specs.Sheet.{Window, top}
use Rattle.sheet.specs.Questions.{windows_of, rules_of, sheet_of, is_span, rising, span_fits, units_fit, rules_fit, windows_fit, stretches_fit, counts_fit, accepted}
use Rattle.sheet.specs.Lists.{Lists, given, agree, WrittenLists, all_agree}
use Rattle.sheet.proofs.QuestionLaws.{Agree, lists_agree_read, windows_of_length, rules_of_length, accepted_sized}
use Rattle.plan_lists.specs.Rising.{all_rising}
use Rattle.plan_rooms.specs.Rooms.{lengths_fit, rooms_fit}
use Rattle.plan_rooms.specs.declared.Lengths.{Lengths}

-- ---- each question, as the code asks it

-- a test of each rule that looks at two of its fields is a test of two lists
module _ (t : ℕ → ℕ → Bool) where
  abbrev on_ends : Window → Bool
  on_ends w = t w.first w.last

  stretches_as_windows : (fs ts ls hs : List ℕ) → length ts ≡ length fs → length ls ≡ length fs → length hs ≡ length fs
      → every (λ r. t r.from r.to) (rules_of fs ts ls hs) ≡ every on_ends (windows_of fs ts)
  stretches_as_windows [] ts ls hs e f g = refl
  stretches_as_windows (x ∷ fs) [] ls hs e f g = absurd (omega arith)
  stretches_as_windows (x ∷ fs) (y ∷ ts) [] hs e f g = absurd (omega arith)
  stretches_as_windows (x ∷ fs) (y ∷ ts) (l ∷ ls) [] e f g = absurd (omega arith)
  stretches_as_windows (x ∷ fs) (y ∷ ts) (l ∷ ls) (h ∷ hs) e f g =
      ap (λ b. t x y && b) (stretches_as_windows fs ts ls hs (omega arith) (omega arith) (omega arith))

  counts_as_windows : (fs ts ls hs : List ℕ) → length ts ≡ length fs → length ls ≡ length fs → length hs ≡ length fs
      → every (λ r. t r.low r.high) (rules_of fs ts ls hs) ≡ every on_ends (windows_of ls hs)
  counts_as_windows [] ts [] hs e f g = refl
  counts_as_windows [] ts (l ∷ ls) hs e f g = absurd (omega arith)
  counts_as_windows (x ∷ fs) [] ls hs e f g = absurd (omega arith)
  counts_as_windows (x ∷ fs) (y ∷ ts) [] hs e f g = absurd (omega arith)
  counts_as_windows (x ∷ fs) (y ∷ ts) (l ∷ ls) [] e f g = absurd (omega arith)
  counts_as_windows (x ∷ fs) (y ∷ ts) (l ∷ ls) (h ∷ hs) e f g =
      ap (λ b. t l h && b) (counts_as_windows fs ts ls hs (omega arith) (omega arith) (omega arith))

-- 13: the loader numbers are as many as the units, and the other lists agree
module _ (l : WrittenLists) where
  abbrev as_many : Bool
  as_many = eqb (length l.loader) (length l.constraints.first)

  pub all_agree_read : T (all_agree l) → (length l.loader ≡ length l.constraints.first) × T (agree l.constraints)
  all_agree_read h =
      let others = agree l.constraints in
      (eqb→eq (length l.loader) (length l.constraints.first) (left as_many others h), right as_many others h)

  pub read_all_agree : length l.loader ≡ length l.constraints.first → T (agree l.constraints) → T (all_agree l)
  read_all_agree e = both as_many (agree l.constraints) (subst T (sym (eq-eqb (length l.loader) (length l.constraints.first) e)) tt)

module _ (l : Lists) where
  pub lists_read : T (agree l) → Agree l.first l.last l.from l.to l.low l.high
  lists_read = lists_agree_read l.first l.last l.from l.to l.low l.high

  pub span_bound : T (accepted (given l)) → l.span ≤ max_slots
  unfolding sheet_of
  span_bound ok = (accepted_sized (given l) ok).slots.1

  pub asks_span : span_fits (given l) ≡ is_span l.span
  unfolding span_fits sheet_of
  asks_span = refl

  pub asks_windows : windows_fit (given l) ≡ all_rising 1 l.span (carried_place l.span) l.first l.last
  unfolding windows_fit sheet_of all_rising
  asks_windows = refl

  module _ (a : Agree l.first l.last l.from l.to l.low l.high) where
    pub units_length : length (given l).units ≡ length l.first
    unfolding sheet_of
    units_length = windows_of_length l.first l.last a.windows

    rules_length : length (given l).rules ≡ length l.from
    unfolding sheet_of
    rules_length = rules_of_length l.from l.to l.low l.high a.stretches a.lows a.highs

    pub asks_units : units_fit (given l) ≡ leb (length l.first) max_units
    unfolding units_fit
    asks_units = ap (λ n. leb n max_units) units_length

    pub asks_rules : rules_fit (given l) ≡ leb (length l.from) max_rules
    unfolding rules_fit
    asks_rules = ap (λ n. leb n max_rules) rules_length

    pub asks_stretches : stretches_fit (given l) ≡ all_rising 1 l.span l.span l.from l.to
    unfolding stretches_fit sheet_of all_rising
    asks_stretches = stretches_as_windows (rising 1 l.span l.span) l.from l.to l.low l.high a.stretches a.lows a.highs

    pub asks_counts : counts_fit (given l) ≡ all_rising 0 max_count max_count l.low l.high
    unfolding counts_fit sheet_of all_rising
    asks_counts = counts_as_windows (rising 0 max_count max_count) l.from l.to l.low l.high a.stretches a.lows a.highs

    pub asks_rooms : (r : Lengths) → rooms_fit (given l) r ≡ lengths_fit (boundaries_of l.span) (length l.first) r
    unfolding rooms_fit sheet_of top
    asks_rooms r = ap₂ (λ w n. lengths_fit w n r) (omega arith) units_length
