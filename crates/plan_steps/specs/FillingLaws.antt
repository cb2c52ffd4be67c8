-- Row 0 of the finished table, as seating takes it; and a finished table at the front of a longer room.
use Rattle.std.specs.Prelude.{◌≡◌, List, ◌++◌, ℕ, ◌+◌, ◌*◌, ◌≤◌, ◌<◌, T, length, get_or, take, drop, ℤ, pos, ◌+ℤ◌, ◌≤ℤ◌}
use Rattle.std.proofs.Common.{sym, ap, ◌∙◌, subst, arith, get_or-take, length-take-le, take_at}
use Rattle.std.proofs.Math.ListN.{get_or-append}
use Rattle.integers.specs.Parts.{ints, sum}
use Rattle.network.specs.Network.{Weights}
use Rattle.network.specs.Table.{max_boundaries, entry}
use Rattle.network.proofs.TableLaws.{row_inside}
use Rattle.sheet.specs.Sizes.{max_units}
use Rattle.sheet.specs.Sheet.{Sheet, top, boundaries, limit, lawful, printed_plan}
use Rattle.sheet.proofs.PlanLaws.{lawful_iff}
use Rattle.sheet.proofs.QuestionLaws.{windows_of_length, accepted_sized}
use Rattle.limits.specs.LimitTableLaws.{boundaries_fit}
use Rattle.plan_seats.specs.Seats.{Seatable, RowOf}
use Rattle.plan_seats.specs.SeatsLaws.{row_seatable}
use Rattle.plans.proofs.PrintedLaws.{some_printed}
use Rattle.plan_windows.specs.Narrowing.{Narrowable}
use Rattle.plan_steps.specs.Filling.{Ready}
use Rattle.sheet.specs.Solved.{Solved}

-- ---- the numbers of units and boundaries that an accepted sheet has
module _ (s : Sheet) (w : ℕ) (first last : List ℕ) (table : List ℤ) (R : Ready s w first last table) where
  units_few : length first ≤ max_units
  units_few = omega (arith, ap length R.units, windows_of_length first last R.lists, (accepted_sized s R.sheet).units)

  boundaries_few : top s < max_boundaries
  boundaries_few = (boundaries_fit s R.sheet).1

  pub row_fits : w ≤ length table
  row_fits = omega (arith, R.room, R.size, row_inside 0 w (omega (arith, R.size)))

  -- row 0, as the first w places of the table
  pub row_of : (k : ℕ) → k ≡ w → RowOf s (entry w table) first last (take k table)
  row_of k e =
      record {
        solved = R.solved;
        units = R.units;
        slots = length-take-le k table (omega (arith, row_fits)) ∙ (omega (arith, R.size));
        row = λ b hb. get_or-take k table b (pos 0) (omega (arith, R.size)) ∙ ap (λ (i : ℕ). get_or table i (pos 0)) (omega arith);
      }

  pub seatable : (k : ℕ) → k ≡ w → (plan : List ℕ) → length first ≤ length plan → Seatable first last (take k table) plan
  seatable k e plan room = row_seatable s (entry w table) first last (take k table) (row_of k e) R.lists plan units_few boundaries_few room

  units_length : length s.units ≡ length first
  units_length = ap length R.units ∙ windows_of_length first last R.lists

  pub seats_are : (plan after : List ℕ) → after ≡ printed_plan s ++ drop (length first) plan → after ≡ printed_plan s ++ drop (length s.units) plan
  seats_are plan after e = e ∙ ap (λ (n : ℕ). printed_plan s ++ drop n plan) (sym units_length)

  pub narrowable : (plan after : List ℕ) → after ≡ printed_plan s ++ drop (length first) plan → Narrowable s first last after table w
  narrowable plan after e =
      let P = some_printed s (entry w table) R.solved in
      let size : length (printed_plan s) ≡ length first = ((lawful_iff s (printed_plan s)).0 P.legal).seated.size ∙ units_length in
      record {
        units = R.units;
        paired = R.lists;
        few = units_few;
        boundaries = sym R.size;
        most = omega (arith, R.size, boundaries_few);
        size = R.room;
        solved = R.solved;
        lawfully = subst (λ (x : List ℕ). T (lawful s x))
            (sym (ap (take (length first)) e ∙ take_at (printed_plan s) (drop (length first) plan) (length first) size)) P.legal;
      }

-- ---- a finished table at the front of a longer room
module _ (s : Sheet) (D E : Weights) (same : (a b : ℕ) → a ≤ top s → b ≤ top s → E a b ≡ D a b) where
  solved_same : Solved s D → Solved s E
  solved_same S =
      let F = S.finished in
      record {
        valid = S.valid;
        finished = record {
          closed = λ k a b hk ha hb.
              let kt : k ≤ top s = omega arith in
              omega (ints, same a b ha hb, same a k ha kt, same k b kt hb, F.closed k a b hk ha hb, sum (D a k) (D k b), sum (E a k) (E k b));
          diagonal = λ a ha. same a a ha ha ∙ F.diagonal a ha;
          below = λ a b ha hb. subst (λ (d : ℤ). d ≤ℤ limit s a b) (sym (same a b ha hb)) (F.below a b ha hb);
        };
        sound = λ z f a b ha hb. subst (λ (d : ℤ). z b ≤ℤ (z a +ℤ d)) (sym (same a b ha hb)) (S.sound z f a b ha hb);
      }

pub solved_front : (s : Sheet) (t r : List ℤ) → length t ≡ boundaries s * boundaries s → Solved s (entry (boundaries s) t)
    → Solved s (entry (boundaries s) (t ++ r))
solved_front s t r size =
    let w = boundaries s in
    solved_same s (entry w t) (entry w (t ++ r))
    (λ a b ha hb. get_or-append t r (pos 0) (a * w + b) (omega (arith, row_inside a w (omega arith))))
