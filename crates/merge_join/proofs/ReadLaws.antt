-- What the arrays hold once both texts are read, and once the rules are combined.
-- Key idea: the second text's numbers are set behind the first's, which is as if those of both had been set one after the other.
use Prim.Native.Nat.{ℕ, ◌+◌, ◌≤◌}
use mathlib.Core.Path.{◌≡◌, refl, sym, ap, subst, ◌∙◌}
use mathlib.Core.List.{List, ◌++◌, map, map-append}
use native.Mathlib.Omega.{arith}
use lib.Dec.{lit≤}
use lib.ListN.{length, take, replicate, length-take, length-append, length-map}
use lib.Seq.{sets}
use Rattle.questions.specs.Questions.{first_no}
use Rattle.sheet.specs.Sizes.{max_units, max_rules}
use Rattle.sheet.specs.Sheet.{SheetUnit, Rule, WrittenSheet}
use Rattle.sheet.specs.declared.Sheet.{Sheet}
use Rattle.forms.specs.declared.House.TheVariants.{Ours}
use Rattle.read_questions.specs.Reading.{sheet_in, ListRooms, rooms, read}
use Rattle.read_questions.specs.Steps.{Holds, columns, set_at}
use Rattle.read_questions.proofs.ArrayLaws.{rooms_same, column_front, columns_more, SameSizes, set_sizes, still_holds}
use Rattle.read_questions.proofs.ConcludedLaws.{Accepted, concluded_read}
use Rattle.merge_sheets.specs.Merge.{merged_rules, merged}
use Rattle.merge_rules.specs.Columns as Rules
use Rattle.lists.specs.FrontLaws.{front_is, front_holds}
use Rattle.merge_read.specs.Behind.{text_questions, text_reply, NumbersBehind}
use Rattle.merge_both.specs.Both.{Counted, BothRead, RulesLeft, LeavesRules}
use Rattle.std.specs.Prelude.{Result, Ok, Err}
use Rattle.merge_questions.specs.declared.Blamed.{Blamed}
use Rattle.merge_join.specs.Join.{MergedAtFront, LeavesMerged}

-- ---- one text

-- its questions were all yes
pub accepted : (text : List ℕ) (s : Sheet) → read s.span s.units s.rules ≡ text_reply Ours text
    → Accepted (first_no (text_questions Ours text)) (sheet_in Ours text) s.span s.units s.rules
unfolding text_reply
accepted text s = concluded_read (first_no (text_questions Ours text)) (sheet_in Ours text) s.span s.units s.rules

-- ---- both

-- arrays for both sheets, the units' as they are lent, the rules' of the call's own
pub holds_both : (m : ListRooms (List ℕ)) → Holds (max_units + max_units) (max_rules + max_rules) m
    → let own : List ℕ = replicate (max_rules + max_rules) 0 in
    Holds (max_units + max_units) (max_rules + max_rules) (rooms m.loader m.first m.last own own own own)
holds_both m h =
    record {
      in_loader = h.in_loader;
      in_first = h.in_first;
      in_last = h.in_last;
      in_from = lit≤ tt;
      in_to = lit≤ tt;
      in_low = lit≤ tt;
      in_high = lit≤ tt;
    }

-- arrays for both have places for fewer
pub holds_fewer : (u r u' r' : ℕ) (m : ListRooms (List ℕ)) → Holds u r m → u' ≤ u → r' ≤ r → Holds u' r' m
holds_fewer u r u' r' m h a b =
    record {
      in_loader = omega (arith, h.in_loader);
      in_first = omega (arith, h.in_first);
      in_last = omega (arith, h.in_last);
      in_from = omega (arith, h.in_from);
      in_to = omega (arith, h.in_to);
      in_low = omega (arith, h.in_low);
      in_high = omega (arith, h.in_high);
    }

module _ (one : List ℕ) (a : Sheet) (m₀ m₁ : ListRooms (List ℕ)) (long : Holds (max_units + max_units) (max_rules + max_rules) m₀)
    (ka : NumbersBehind a one 0 0 m₀ m₁) where
  -- behind the first sheet's numbers there are places for a second's
  pub holds_second : Holds (a.units + max_units) (a.rules + max_rules) m₁
  holds_second =
      let xs = columns (sheet_in Ours one).units (sheet_in Ours one).rules in
      let sizes = subst (λ (x : ListRooms (List ℕ)). SameSizes x m₀) (sym ka.in_arrays) (set_sizes m₀ 0 0 xs) in
      still_holds (a.units + max_units) (a.rules + max_rules) m₁ m₀ sizes
      (holds_fewer (max_units + max_units) (max_rules + max_rules) _ _ m₀ long (omega (arith, ka.few_units)) (omega (arith, ka.few_rules)))

  module _ (two : List ℕ) (b : Sheet) (m₂ : ListRooms (List ℕ)) (kb : NumbersBehind b two a.units a.rules m₁ m₂)
      (ea : read a.span a.units a.rules ≡ text_reply Ours one) (eb : read b.span b.units b.rules ≡ text_reply Ours two) where
    abbrev wa : WrittenSheet
    wa = sheet_in Ours one

    abbrev wb : WrittenSheet
    wb = sheet_in Ours two

    abbrev us : List SheetUnit
    us = wa.units ++ wb.units

    abbrev rs : List Rule
    rs = wa.rules ++ wb.rules

    abbrev n : ℕ
    n = a.units + b.units

    abbrev r : ℕ
    r = a.rules + b.rules

    units_long : n ≡ length us
    units_long = omega (arith, (accepted one a ea).units, (accepted two b eb).units, length-append wa.units wb.units)

    rules_long : r ≡ length rs
    rules_long = omega (arith, (accepted one a ea).rules, (accepted two b eb).rules, length-append wa.rules wb.rules)

    units_few : n ≤ max_units + max_units
    units_few = omega (arith, ka.few_units, kb.few_units)

    rules_few : r ≤ max_rules + max_rules
    rules_few = omega (arith, ka.few_rules, kb.few_rules)

    all_set : m₂ ≡ set_at m₀ 0 0 (columns us rs)
    all_set =
        kb.in_arrays ∙ ap (λ (m : ListRooms (List ℕ)). set_at m a.units a.rules (columns wb.units wb.rules)) ka.in_arrays
        ∙ columns_more m₀ wa.units wb.units wa.rules wb.rules a.units a.rules (accepted one a ea).units (accepted one a ea).rules

    -- a column of the units, and one of the rules
    unit_column : (g : ListRooms (List ℕ) → List ℕ) (f : SheetUnit → ℕ) → g (set_at m₀ 0 0 (columns us rs)) ≡ sets (g m₀) 0 (map f us)
        → max_units + max_units ≤ length (g m₀) → take n (g m₂) ≡ map f us
    unit_column g f e h =
        ap (λ (m : ListRooms (List ℕ)). take n (g m)) all_set ∙ ap (take n) e ∙ column_front f (g m₀) us n units_long (omega (arith, units_few))

    rule_column : (g : ListRooms (List ℕ) → List ℕ) (f : Rule → ℕ) → g (set_at m₀ 0 0 (columns us rs)) ≡ sets (g m₀) 0 (map f rs)
        → max_rules + max_rules ≤ length (g m₀) → take r (g m₂) ≡ map f rs
    rule_column g f e h =
        ap (λ (m : ListRooms (List ℕ)). take r (g m)) all_set ∙ ap (take r) e ∙ column_front f (g m₀) rs r rules_long (omega (arith, rules_few))

    loader_column : take n m₂.loader ≡ map (λ u. u.loader) us
    loader_column = unit_column (λ m. m.loader) (λ u. u.loader) refl long.in_loader

    counted : (text : List ℕ) (s : Sheet) → s.units ≤ max_units → s.rules ≤ max_rules → read s.span s.units s.rules ≡ text_reply Ours text
        → Counted s (sheet_in Ours text)
    counted text s u q e =
        let c = accepted text s e in
        record { span = c.span; units = c.units; rules = c.rules; few_units = u; few_rules = q }

    -- both sheets stand in the arrays
    pub both_read : (room : Rules.Columns) → max_rules + max_rules ≤ length room.from → max_rules + max_rules ≤ length room.to
        → max_rules + max_rules ≤ length room.low → max_rules + max_rules ≤ length room.high
        → BothRead wa wb a b m₂.loader (Rules.columns m₂.from m₂.to m₂.low m₂.high) room
    both_read room f t l h = record {
      first = counted one a ka.few_units ka.few_rules ea;
      second = counted two b kb.few_units kb.few_rules eb;
      loader = loader_column ∙ map-append (λ u. u.loader) wa.units wb.units;
      rules = record {
        from = rule_column (λ m. m.from) (λ q. q.from) refl long.in_from;
        to = rule_column (λ m. m.to) (λ q. q.to) refl long.in_to;
        low = rule_column (λ m. m.low) (λ q. q.low) refl long.in_low;
        high = rule_column (λ m. m.high) (λ q. q.high) refl long.in_high;
      };
      rooms = record {
        from = omega (arith, rules_few);
        to = omega (arith, rules_few);
        low = omega (arith, rules_few);
        high = omega (arith, rules_few);
      };
    }

    -- and with the combined rules the merged sheet stands at the fronts
    module _ (s : Sheet) (before now : Rules.Columns) (left : RulesLeft s wa wb before now) where
      same_units : s.units ≡ n
      same_units = omega (arith, left.units, (accepted one a ea).units, (accepted two b eb).units)

      unit_front : (array : List ℕ) (f : SheetUnit → ℕ) → take n array ≡ map f us → take s.units array ≡ map f us
      unit_front array f e = ap (λ (k : ℕ). take k array) same_units ∙ e

      unit_holds : (array : List ℕ) (f : SheetUnit → ℕ) → take n array ≡ map f us → s.units ≤ length array
      unit_holds array f e = omega (arith, ap length e, length-map us f, length-take n array, units_long, same_units)

      merged_left : MergedAtFront s one two (rooms m₂.loader m₂.first m₂.last now.from now.to now.low now.high)
      unfolding merged
      merged_left =
          let m = left.at_front in
          let firsts = unit_column (λ x. x.first) (λ u. u.window.first) refl long.in_first in
          let lasts = unit_column (λ x. x.last) (λ u. u.window.last) refl long.in_last in
          let qs = merged_rules rs in
          record {
            long = record {
              in_loader = unit_holds m₂.loader (λ u. u.loader) loader_column;
              in_first = unit_holds m₂.first (λ u. u.window.first) firsts;
              in_last = unit_holds m₂.last (λ u. u.window.last) lasts;
              in_from = front_holds (λ q. q.from) qs s.rules before.from now.from m.count m.froms;
              in_to = front_holds (λ q. q.to) qs s.rules before.to now.to m.count m.tos;
              in_low = front_holds (λ q. q.low) qs s.rules before.low now.low m.count m.lows;
              in_high = front_holds (λ q. q.high) qs s.rules before.high now.high m.count m.highs;
            };
            fronts = rooms_same (unit_front m₂.loader (λ u. u.loader) loader_column) (unit_front m₂.first (λ u. u.window.first) firsts)
                (unit_front m₂.last (λ u. u.window.last) lasts)
                (front_is (λ q. q.from) qs s.rules before.from now.from m.count m.froms)
                (front_is (λ q. q.to) qs s.rules before.to now.to m.count m.tos)
                (front_is (λ q. q.low) qs s.rules before.low now.low m.count m.lows)
                (front_is (λ q. q.high) qs s.rules before.high now.high m.count m.highs);
          }

    pub joined_left : (j : Result Sheet Blamed) (before now : Rules.Columns) → LeavesRules j wa wb before now
        → LeavesMerged j one two (rooms m₂.loader m₂.first m₂.last now.from now.to now.low now.high)
    joined_left (Err b) before now h = tt
    joined_left (Ok s) before now h = merged_left s before now h
