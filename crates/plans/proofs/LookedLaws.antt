-- How many units seating looks at, by the definition that knows of no search.
-- Key idea: a slot's search begins at the front of the order and ends with the last unit that the slot takes (SeatingLaws), so its looks are that unit's place;
-- and a unit's place, 1 more than the units that come before it, is where the order has it.
use Rattle.std.specs.Prelude.{◌≡◌, refl, Bool, ◌&&◌, ◌||◌, List, [], map, T, ltb, eqb, length, get_or, replicate}
use Rattle.std.proofs.Common.{sym, ap₂, ◌∙◌, ⊎_elim, eqb→eq}
use Rattle.std.proofs.Math.Path.{ap}
use Prim.Native.Nat.{ℕ, zero, suc, ◌+◌, ◌-◌, ◌≤◌, ◌<◌}
use native.Mathlib.Omega.{arith}
use Rattle.std.proofs.lemmas.List.{length-replicate}
use Rattle.std.proofs.Math.ListN.{get_or-eq_default}
use Rattle.integers.specs.Parts.{up}
use Rattle.lists.specs.Lists.{run, keep, sum_of}
use Rattle.lists.specs.Members.{in_map, in_keep}
use Rattle.lists.specs.Extremes.{greatest_below}
use Rattle.lists.specs.Counts.{run_count}
use Rattle.network.specs.Network.{Weights}
use Rattle.network.proofs.ClosureLaws.{row_feasible}
use Rattle.sheet.specs.Sheet.{Sheet, top, limit, lawful, unit_places, comes_before, order_place, last_seated, printed_plan, looked}
use Rattle.sheet.proofs.PlanLaws.{in_lawful_plans}
use Rattle.slots.specs.Slots.{slot_before}
use Rattle.plans.specs.Seating.{at, sooner, rank, by_rank, looks_of}
use Rattle.plans.proofs.OrderLaws.{by_rank_in_order, by_rank_rank}
use Rattle.plans.proofs.SeatingLaws.{PlacedBy, last_places}
use Rattle.plans.proofs.FairLaws.{firsts, lasts}
use Rattle.plans.proofs.FeasibleLaws.{seats_looked}
use Rattle.plans.proofs.PrintedLaws.{printed_or_none, rises, seats_are_printed}
use Rattle.sheet.specs.Solved.{Solved}

module _ (s : Sheet) (last : ℕ → ℕ) (closes : (j : ℕ) → j < length s.units → last j ≡ lasts s j) where
  before_same : (i j : ℕ) → i < length s.units → j < length s.units → comes_before s (0 + i) j ≡ sooner last i j
  before_same i j hi hj =
      let e : 0 + i ≡ i = omega arith in
      ap (λ (k : ℕ). comes_before s k j) e
      ∙ ap₂ (λ (x y : ℕ). ltb x y || (eqb x y && ltb i j)) (sym (closes i hi)) (sym (closes j hj))

  place_rank : (j : ℕ) → j < length s.units → order_place s j ≡ suc (rank last (length s.units) j)
  unfolding rank
  place_rank j h =
      ap suc (run_count (λ i. comes_before s i j) (λ i. sooner last i j) 0 (length s.units) (λ i hi. before_same i j hi h))

  placed : PlacedBy (length s.units) last (order_place s)
  placed p h =
      let n = length s.units in
      let size = length-replicate {A = ℕ} n 0 in
      place_rank (at (by_rank last n n (replicate n 0)) p) ((by_rank_in_order last n (replicate n 0) size).units p h)
      ∙ ap suc (by_rank_rank last n (replicate n 0) size p h)

-- ---- no lawful plan
none_there : (s : Sheet) (t : ℕ) → 1 ≤ t → last_seated s [] t ≡ 0
none_there s t h =
    let has : ℕ → Bool = (λ j. eqb (get_or [] j 0) t) in
    omega (
      arith,
      greatest_below 0 (map (order_place s) (keep has (unit_places s))) (λ x m.
          let j = in_map (order_place s) x (keep has (unit_places s)) m in
          let seat = eqb→eq (get_or [] j.0 0) t (in_keep has j.0 (unit_places s) j.1).1 in
          absurd (omega (arith, seat, get_or-eq_default {A = ℕ} [] 0 {n = j.0} (omega arith)))),
    )

sum_none : (f : ℕ → ℕ) (a k : ℕ) → ((t : ℕ) → a ≤ t → f t ≡ 0) → sum_of (map f (run a k)) ≡ 0
sum_none f a zero e = refl
sum_none f a (suc k) e = omega (arith, e a (omega arith), sum_none f (suc a) k (λ t h. e t (omega arith)))

pub unlawful_looked : (s : Sheet) → ((x : List ℕ) → T (lawful s x) → ⊥) → looked s ≡ 0
unfolding looked
unlawful_looked s unlawful =
    let none : printed_plan s ≡ [] = ⊎_elim (λ e. e) (λ m. absurd (unlawful (printed_plan s) ((in_lawful_plans s (printed_plan s)).0 m))) (printed_or_none s) in
    rw none (sum_none (last_seated s []) 1 (suc (slot_before (top s)) - 1) (none_there s))

-- ---- a finished table
module _ (s : Sheet) (D : Weights) (S : Solved s D) (first last c : ℕ → ℕ) (opens : (j : ℕ) → j < length s.units → first j ≡ firsts s j)
    (closes : (j : ℕ) → j < length s.units → last j ≡ lasts s j) (row : (b : ℕ) → b ≤ top s → c b ≡ up (D 0 b)) where
  pub looks_are_looked : looks_of (length s.units) (top s) first last c ≡ looked s
  unfolding looked
  looks_are_looked =
      let f = row_feasible (top s) (limit s) D S.finished 0 (omega arith) in
      let all_slots : top s ≡ suc (top s) - 1 = omega arith in
      seats_looked s S.valid (D 0) f first last c (rises s D S first last c opens closes row) (order_place s) (placed s last closes)
      ∙ ap (last_places (order_place s) (length s.units) (top s)) (seats_are_printed s D S first last c opens closes row)
      ∙ ap (λ (k : ℕ). sum_of (map (last_seated s (printed_plan s)) (run 1 k))) all_slots
