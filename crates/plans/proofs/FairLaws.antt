-- The seat property of a sheet's plan, as the order of its units.
use Rattle.std.specs.Prelude.{Bool, true, false, not, ◌&&◌, ◌||◌, List, ℕ, ◌≤◌, ◌<◌, T, leb, ltb, get_or}
use Rattle.std.proofs.Common.{arith, leb→le, le→leb, ltb→lt, lt→ltb}
use Rattle.std.proofs.Math.ListN.{length}
use Rattle.lists.specs.Lists.{every}
use Rattle.lists.specs.Members.{both, left, right, in_run, run_in, every_in, in_every}
use Rattle.sheet.specs.Sheet.{Sheet, no_window, unit_places, seat_fair, fair}
use Rattle.plans.specs.Seating.{at, Before, sooner}
use Rattle.plans.proofs.OrderLaws.{sooner_before, before_sooner}

imp_read : (a b : Bool) → T (not a || b) → T a → T b
imp_read true b h t = h
imp_read false b h t = absurd t

imp_make : (a b : Bool) → (T a → T b) → T (not a || b)
imp_make true b f = f tt
imp_make false b f = tt

abbrev pub firsts : Sheet → ℕ → ℕ
firsts s j = (get_or s.units j no_window).first

abbrev pub lasts : Sheet → ℕ → ℕ
lasts s j = (get_or s.units j no_window).last

-- of two units the one that comes first is seated first where both are open
abbrev pub Fair : Sheet → List ℕ → Type 0
Fair s x = (i j : ℕ) → i < length s.units → j < length s.units → at x i < at x j → firsts s j ≤ at x i → Before (lasts s) i j

module _ (s : Sheet) (x : List ℕ) where
  late : ℕ → ℕ → Bool
  late i j = ltb (at x i) (at x j) && leb (firsts s j) (at x i)

  pub fair_read : T (fair s x) → Fair s x
  unfolding fair late
  fair_read t i j hi hj lt o =
      let n = length s.units in
      let a = every_in (λ (k : ℕ). every (seat_fair s x k) (unit_places s)) i (unit_places s) (run_in i 0 n (omega arith) (omega arith)) t in
      let b = every_in (seat_fair s x i) j (unit_places s) (run_in j 0 n (omega arith) (omega arith)) a in
      sooner_before (lasts s) i j (imp_read (late i j) (sooner (lasts s) i j) b
      (both (ltb (at x i) (at x j)) (leb (firsts s j) (at x i)) (lt→ltb (at x i) (at x j) lt) (le→leb (firsts s j) (at x i) o)))

  pub fair_make : Fair s x → T (fair s x)
  unfolding fair late
  fair_make f =
      let n = length s.units in
      in_every (λ (k : ℕ). every (seat_fair s x k) (unit_places s)) (unit_places s) (λ i mi. in_every (seat_fair s x i) (unit_places s) (λ j mj.
      let hi = in_run i 0 n mi in
      let hj = in_run j 0 n mj in
      imp_make (late i j) (sooner (lasts s) i j) (λ t. before_sooner (lasts s) i j
      (f i j (omega arith) (omega arith) (ltb→lt (at x i) (at x j) (left (ltb (at x i) (at x j)) (leb (firsts s j) (at x i)) t))
      (leb→le (firsts s j) (at x i) (right (ltb (at x i) (at x j)) (leb (firsts s j) (at x i)) t))))))
