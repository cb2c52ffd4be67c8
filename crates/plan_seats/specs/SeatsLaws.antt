-- Lists that are a sheet's units and row 0 of its finished table can be seated; what is seated from them is the printed plan, and as many units are looked
-- at as the definition says.
use Rattle.std.specs.Prelude.{◌≡◌, List, ℕ, suc, ◌-◌, ◌≤◌, ◌<◌, length, get_or, replicate, ℤ, pos}
use Rattle.std.proofs.Common.{sym, ◌∙◌, arith}
use Rattle.std.proofs.Math.Path.{ap}
use Rattle.integers.specs.Parts.{up, ints, sum, neg}
use Rattle.network.specs.Network.{Weights}
use Rattle.network.proofs.ClosureLaws.{row_feasible}
use Rattle.network.specs.Table.{max_boundaries}
use Rattle.sheet.specs.Sizes.{max_units}
use Rattle.sheet.specs.Sheet.{Sheet, Window, top, no_window, at_least, limit, printed_plan, looked}
use Rattle.sheet.proofs.LimitLaws.{limit_back}
use Rattle.sheet.proofs.QuestionLaws.{windows_of_length, windows_of_at}
use Rattle.plans.specs.Seating.{at, by_rank, seat_slots, seats_of, looks_slots, looks_of}
use Rattle.plans.proofs.FairLaws.{firsts, lasts}
use Rattle.plans.proofs.PrintedLaws.{row_nonneg, seats_are_printed}
use Rattle.plans.proofs.LookedLaws.{looks_are_looked}
use Rattle.plan_seats.specs.Seats.{count_at, seats_from, looks_from, Seatable, RowOf}

module _ (s : Sheet) (D : Weights) (first last : List ℕ) (counts : List ℤ) (R : RowOf s D first last counts) (lists : length last ≡ length first) where
  size : length s.units ≡ length first
  size = ap length R.units ∙ windows_of_length first last lists

  window : (j : ℕ) → j < length s.units → get_or s.units j no_window ≡ record { first = at first j; last = at last j }
  window j h = ap (λ (ws : List Window). get_or ws j no_window) R.units ∙ windows_of_at first last lists j (omega (arith, size))

  -- what is made of the lists' lengths is made of the sheet's
  by_sheet : {A : Type 0} (f : ℕ → ℕ → ℕ → A) → f (length first) (length last) (length counts - 1) ≡ f (length s.units) (length s.units) (top s)
  by_sheet f =
      let n = length s.units in
      let units : length last ≡ n = omega (arith, size) in
      let slots : length counts - 1 ≡ top s = omega (arith, R.slots) in
      ap (λ (k : ℕ). f k (length last) (length counts - 1)) (sym size) ∙ ap (λ (m : ℕ). f n m (length counts - 1)) units ∙ ap (f n n) slots

  opens : (j : ℕ) → j < length s.units → at first j ≡ firsts s j
  opens j h = sym (ap (λ (w : Window). w.first) (window j h))

  closes : (j : ℕ) → j < length s.units → at last j ≡ lasts s j
  closes j h = sym (ap (λ (w : Window). w.last) (window j h))

  pub row_printed : seats_from first last counts ≡ printed_plan s
  unfolding seats_from seats_of
  row_printed =
      by_sheet (λ k m t. seat_slots (at first) (count_at counts) (by_rank (at last) m m (replicate k 0)) 0 t (replicate k 0))
      ∙ seats_are_printed s D R.solved (at first) (at last) (count_at counts) opens closes (λ b hb. ap up (R.row b hb))

  pub row_looked : looks_from first last counts ≡ looked s
  unfolding looks_from looks_of
  row_looked =
      by_sheet (λ k m t. looks_slots (at first) (count_at counts) (by_rank (at last) m m (replicate k 0)) 0 t (replicate k 0))
      ∙ looks_are_looked s D R.solved (at first) (at last) (count_at counts) opens closes (λ b hb. ap up (R.row b hb))

  -- row 0 rises from 0
  pub row_seatable : (plan : List ℕ) → length first ≤ max_units → top s < max_boundaries → length first ≤ length plan → Seatable first last counts plan
  row_seatable plan few short room = record {
    lists = lists;
    units = few;
    room = room;
    slots = (omega (arith, R.slots), omega (arith, R.slots));
    closes = λ j h.
        let hj : j < length s.units = omega (arith, size) in
        omega (arith, R.solved.valid.windows j hj, ap (λ (w : Window). w.last) (window j hj));
    rising = λ b h.
        let hb : suc b ≤ top s = omega (arith, R.slots) in
        let low = R.row b (omega arith) in
        let high = R.row (suc b) hb in (
          omega (ints, row_nonneg s D R.solved b (omega arith)),
          omega (
            ints,
            row_feasible (top s) (limit s) D R.solved.finished 0 (omega arith) (suc b) b hb (omega arith),
            sum (D 0 (suc b)) (limit s (suc b) b),
            limit_back s (suc b) b (omega arith),
            neg (pos (at_least s (suc b) (suc b))),
          ),
        );
  }
