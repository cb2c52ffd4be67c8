-- A slot's seats and looks, place after place of the order; and slot after slot.
-- Key idea: what is left to do from place p on gives the whole answer, and the looks so far are p, so each turn of a loop moves p on.
use mathlib.Core.Path.{◌≡◌, refl, sym, ap, ◌∙◌}
use mathlib.Core.Bool.{Bool, true, false, cond}
use mathlib.Core.List.{List, [], ◌∷◌, ◌++◌}
use Prim.Native.Nat.{ℕ, zero, suc, ◌+◌, ◌-◌, ◌≤◌, ◌<◌}
use native.Mathlib.Omega.{arith}
use lib.ListN.{length, set, take, drop, replicate, drop_of_length-le}
use lib.Seq.{drop-cons}
use lib.Dec.{T}
use lib.IntN.{ℤ, pos, negsuc, nat_abs, ◌-ℤ◌}
use lib.Signed.{◌≤ℤ◌, non_neg, yes_non_neg}
use mir.Syntax.{w16, w64}
use mir.Val.{Fits, SFits}
use mir.Facts.{Fits-nat_abs}
use Rattle.integers.specs.Parts.{up, dn, ints, difference, nonneg, fits_within, fits_parts}
use Rattle.lists.specs.First.{first_from, first_from_lem}
use Rattle.plans.specs.Seating.{at, free_open, seat_slot, seat_slots, looks, looks_slots}
use Rattle.plan_order.specs.Sorting.{seat_order}
use Rattle.plan_seats.specs.Seats.{seats_by, seats_from, looks_by, looks_from}

module _ (first : ℕ → ℕ) (s : ℕ) (order : List ℕ) where
  -- the search of slot s, from place p of the order on, where k seats are left: the same seats as that of the whole order with all seats, and as many looks
  pub record Search (count : ℕ) (plan₀ : List ℕ) (p k : ℕ) (plan : List ℕ) : Type 0 where
    pub seats : seat_slot first s (drop p order) k plan ≡ seat_slot first s order count plan₀
    pub looked : p + looks first s (drop p order) k plan ≡ looks first s order count plan₀

  module _ (p k : ℕ) (plan : List ℕ) (h : p < length order) (t : Bool) (e : free_open (at plan) first s (at order p) ≡ t) where
    seat_step : seat_slot first s (drop p order) (suc k) plan
        ≡ cond t (seat_slot first s (drop (suc p) order) k (set plan (at order p) s)) (seat_slot first s (drop (suc p) order) (suc k) plan)
    unfolding seat_slot
    seat_step = rw (drop-cons order p 0 h, e) refl

    look_step : looks first s (drop p order) (suc k) plan
        ≡ suc (cond t (looks first s (drop (suc p) order) k (set plan (at order p) s)) (looks first s (drop (suc p) order) (suc k) plan))
    unfolding looks
    look_step = rw (drop-cons order p 0 h, e) refl

  seat_none : (us : List ℕ) (plan : List ℕ) → (seat_slot first s us 0 plan ≡ plan) × (looks first s us 0 plan ≡ 0)
  unfolding seat_slot looks
  seat_none [] plan = (refl, refl)
  seat_none (u ∷ us) plan = (refl, refl)

  seat_end : (p k : ℕ) (plan : List ℕ) → length order ≤ p → (seat_slot first s (drop p order) k plan ≡ plan) × (looks first s (drop p order) k plan ≡ 0)
  unfolding seat_slot looks
  seat_end p k plan h = rw (drop_of_length-le order {i = p} h) (refl, refl)

  module _ (count : ℕ) (plan₀ : List ℕ) where
    pub search_start : Search count plan₀ 0 count plan₀
    search_start = record { seats = refl; looked = omega arith }

    -- the next place's unit is passed,
    passed : (p k : ℕ) (plan : List ℕ) → p < length order → free_open (at plan) first s (at order p) ≡ false
        → Search count plan₀ p (suc k) plan → Search count plan₀ (suc p) (suc k) plan
    passed p k plan h e S = record {
      seats = sym (seat_step p k plan h false e) ∙ S.seats;
      looked = omega (arith, look_step p k plan h false e, S.looked);
    }

    -- and so all up to the first that is free and open,
    all_passed : (d p k : ℕ) (plan : List ℕ) → p + d ≤ length order → ((q : ℕ) → p ≤ q → q < p + d → free_open (at plan) first s (at order q) ≡ false)
        → Search count plan₀ p (suc k) plan → Search count plan₀ (p + d) (suc k) plan
    all_passed zero p k plan h f S = let e : p ≡ p + 0 = omega arith in rw (sym e) S
    all_passed (suc d) p k plan h f S =
        let e : suc p + d ≡ p + suc d = omega arith in
        rw (sym e) (all_passed d (suc p) k plan (omega arith) (λ q a b. f q (omega arith) (omega arith))
        (passed p k plan (omega arith) (f p (omega arith) (omega arith)) S))

    pub found : (p k r : ℕ) (plan : List ℕ) → p ≤ length order → r ≡ first_from (length order - p) p (λ q. free_open (at plan) first s (at order q))
        → Search count plan₀ p (suc k) plan
        → (r ≤ length order) × (r < length order → free_open (at plan) first s (at order r) ≡ true) × Search count plan₀ r (suc k) plan
    found p k r plan h e S =
        let t : ℕ → Bool = (λ q. free_open (at plan) first s (at order q)) in
        let F = first_from_lem t (length order - p) p in
        let d : ℕ = r - p in
        let there : p + d ≡ r = omega (arith, e, F.least) in (
          omega (arith, e, F.most),
          λ l. ap t e ∙ F.at (omega (arith, e)),
          rw (sym there) (all_passed d p k plan (omega (arith, e, F.most)) (λ q a b. F.before q a (omega (arith, e))) S),
        )

    -- which is seated
    pub taken : (p k : ℕ) (plan : List ℕ) → p < length order → free_open (at plan) first s (at order p) ≡ true
        → Search count plan₀ p (suc k) plan → Search count plan₀ (suc p) k (set plan (at order p) s)
    taken p k plan h e S = record {
      seats = sym (seat_step p k plan h true e) ∙ S.seats;
      looked = omega (arith, look_step p k plan h true e, S.looked);
    }

    -- the search ends with no seat left, or at the end of the order
    abbrev pub Done : ℕ → List ℕ → Type 0
    Done p plan = (plan ≡ seat_slot first s order count plan₀) × (p ≡ looks first s order count plan₀)

    pub slot_full : (p : ℕ) (plan : List ℕ) → Search count plan₀ p 0 plan → Done p plan
    slot_full p plan S = let n = seat_none (drop p order) plan in (sym n.0 ∙ S.seats, omega (arith, n.1, S.looked))

    pub all_seen : (p k : ℕ) (plan : List ℕ) → length order ≤ p → Search count plan₀ p k plan → Done p plan
    all_seen p k plan h S = let n = seat_end p k plan h in (sym n.0 ∙ S.seats, omega (arith, n.1, S.looked))

-- a slot looks at no more units than there are
pub looks_most : (first : ℕ → ℕ) (s : ℕ) (us : List ℕ) (k : ℕ) (plan : List ℕ) → looks first s us k plan ≤ length us
unfolding looks
looks_most first s [] k plan = omega arith
looks_most first s (u ∷ us) zero plan = omega arith
looks_most first s (u ∷ us) (suc k) plan =
    go (free_open (at plan) first s u) (looks_most first s us k (set plan u s)) (looks_most first s us (suc k) plan)
  where
    go : (t : Bool) {a b m : ℕ} → a ≤ m → b ≤ m → suc (cond t a b) ≤ suc m
    go true f g = omega arith
    go false f g = omega arith

-- ---- a slot's count
abs_parts : (z : ℤ) → nat_abs z ≡ up z + dn z
abs_parts (pos n) = omega arith
abs_parts (negsuc n) = omega arith

module _ (high low : ℤ) (h : pos 0 ≤ℤ low) (l : low ≤ℤ high) (f : SFits w16 high) where
  rise_nonneg : pos 0 ≤ℤ (high -ℤ low)
  rise_nonneg = omega (ints, difference high low)

  high_nonneg : pos 0 ≤ℤ high
  high_nonneg = omega ints

  pub rise_fits : SFits w16 (high -ℤ low)
  rise_fits = fits_within w16 (high -ℤ low) 32767 tt
      (omega (arith, difference high low, nonneg h, nonneg high_nonneg, nonneg rise_nonneg, fits_parts f)) (omega (arith, nonneg rise_nonneg))

  pub rise_casts : T (non_neg (high -ℤ low)) × Fits w64 (nat_abs (high -ℤ low))
  rise_casts = (yes_non_neg rise_nonneg, Fits-nat_abs tt rise_fits)

  pub rise_is : nat_abs (high -ℤ low) ≡ up high - up low
  rise_is = omega (arith, abs_parts (high -ℤ low), difference high low, nonneg h, nonneg high_nonneg, nonneg rise_nonneg)

-- ---- slot after slot
module _ (first z : ℕ → ℕ) (order : List ℕ) where
  -- from a slot on, with l looks behind: the same seats as from the first slot on, and as many looks
  pub record Searches (len : ℕ) (plan₀ : List ℕ) (slot : ℕ) (plan : List ℕ) (l : ℕ) : Type 0 where
    pub seats : seat_slots first z order (slot - 1) (len - slot) plan ≡ seat_slots first z order 0 (len - 1) plan₀
    pub looked : l + looks_slots first z order (slot - 1) (len - slot) plan ≡ looks_slots first z order 0 (len - 1) plan₀

  slots_next : (slot len : ℕ) (plan : List ℕ) → 1 ≤ slot → slot < len
      → let next = seat_slot first slot order (z slot - z (slot - 1)) plan in
      (seat_slots first z order (slot - 1) (len - slot) plan ≡ seat_slots first z order (slot + 1 - 1) (len - (slot + 1)) next)
      × (looks_slots first z order (slot - 1) (len - slot) plan
      ≡ looks first slot order (z slot - z (slot - 1)) plan + looks_slots first z order (slot + 1 - 1) (len - (slot + 1)) next)
  unfolding seat_slots looks_slots
  slots_next zero len plan h l = absurd (omega arith)
  slots_next (suc b) len plan h l =
      let e : suc b - 1 ≡ b = omega arith in
      let f : suc b + 1 - 1 ≡ suc b = omega arith in
      let g : len - suc b ≡ suc (len - (suc b + 1)) = omega arith in
      rw (e, f, g) (refl, refl)

  pub slots_start : (len : ℕ) (plan₀ : List ℕ) → Searches len plan₀ 1 plan₀ 0
  slots_start len plan₀ = record { seats = refl; looked = omega arith }

  pub slot_done : (len : ℕ) (plan₀ : List ℕ) (slot count : ℕ) (plan plan' : List ℕ) (l n : ℕ) → 1 ≤ slot → slot < len → count ≡ z slot - z (slot - 1)
      → plan' ≡ seat_slot first slot order count plan → n ≡ looks first slot order count plan → Searches len plan₀ slot plan l
      → Searches len plan₀ (slot + 1) plan' (l + n)
  slot_done len plan₀ slot count plan plan' l n h k e f g S =
      let next = slots_next slot len plan h k in
      let same = ap (λ (c : ℕ). seat_slot first slot order c plan) e in
      record {
        seats = rw (f ∙ same) (sym next.0 ∙ S.seats);
        looked = rw (f ∙ same) (omega (arith, g, ap (λ (c : ℕ). looks first slot order c plan) e, next.1, S.looked));
      }

  slots_none : (b m : ℕ) (plan : List ℕ) → m ≡ 0 → (seat_slots first z order b m plan ≡ plan) × (looks_slots first z order b m plan ≡ 0)
  unfolding seat_slots looks_slots
  slots_none b m plan e = rw e (refl, refl)

  pub slots_end : (len : ℕ) (plan₀ : List ℕ) (slot : ℕ) (plan : List ℕ) (l : ℕ) → len ≤ slot → Searches len plan₀ slot plan l
      → (plan ≡ seat_slots first z order 0 (len - 1) plan₀) × (l ≡ looks_slots first z order 0 (len - 1) plan₀)
  slots_end len plan₀ slot plan l h S =
      let n = slots_none (slot - 1) (len - slot) plan (omega arith) in
      (sym n.0 ∙ S.seats, omega (arith, n.1, S.looked))

-- ---- rooms of zeros
pub take_zeros : (n m : ℕ) → n ≤ m → take {A = ℕ} n (replicate m 0) ≡ replicate n 0
take_zeros zero m h = refl
take_zeros (suc n) zero h = absurd (omega arith)
take_zeros (suc n) (suc m) h = ap (λ (xs : List ℕ). 0 ∷ xs) (take_zeros n m (omega arith))

-- the slots at the front of a longer room, and the looks
pub room_seated : (first last : List ℕ) (counts : List ℤ) (k : ℕ) (order result plan : List ℕ) → k ≡ length first → order ≡ replicate (length first) 0
    → result ≡ seats_by first counts (seat_order last order) → result ++ drop k plan ≡ seats_from first last counts ++ drop (length first) plan
unfolding seats_from
room_seated first last counts k order result plan e f g = rw (g, f, e) refl

pub room_looked : (first last : List ℕ) (counts : List ℤ) (order : List ℕ) (l : ℕ) → order ≡ replicate (length first) 0
    → l ≡ looks_by first counts (seat_order last order) → l ≡ looks_from first last counts
unfolding looks_from
room_looked first last counts order l f g = rw (g, f) refl
