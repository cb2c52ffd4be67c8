-- What is left to do from the slot on gives the whole answer; a slot looks at each unit once at most.
use mathlib.Core.Path.{◌≡◌, refl, ◌∙◌}
use Prim.Native.Nat.{◌-◌, ◌*◌, ◌≤◌}
use native.Mathlib.Omega.{arith}
use lib.ListN.{length}
use Rattle.sheet.specs.Sizes.{max_units}
use Rattle.plans.specs.Seating.{at}
use Rattle.plan_seats.specs.Seats.{count_at}
use Rattle.plan_seats.proofs.SlotLaws.{Searches, slots_start, slot_done, slots_end, looks_most}
use Rattle.plan_seats.proofs.seat_slots.Statement.{statement}
use Rattle.plan_seats.proofs.seat_slots.Tie as tie

abbrev invariant-loop : tie.invariant-loop-slot
invariant-loop first order counts plan₀ looked₀ slot₀ slot-end plan looked slot =
    (1 ≤ slot) × (slot ≤ length counts) × (slot-end ≡ length counts) × (length plan ≡ length plan₀) × (looked ≤ slot * max_units)
    × Searches (at first) (count_at counts) order (length counts) plan₀ slot plan looked

abbrev decreases-loop : tie.decreases-loop-slot
decreases-loop first order counts plan₀ looked₀ slot₀ slot-end plan looked slot = length counts - slot

-- the call's arguments
abbrev start : tie.At-loop-slot invariant-loop decreases-loop → tie.Start invariant-loop decreases-loop
start c = c.before.before.before.before

loop-holds : tie.Need-loop-slot-init invariant-loop decreases-loop
loop-holds c =
    let st = c in
    let a = st.args in
    let first = slots_start (at a.first.now) (count_at a.counts.now) a.order.now (length a.counts.now) a.plan.now in
    (omega arith, st.requires.1.0, refl, refl, omega arith, first)

seat_slot_requires : tie.Need-seat_slot-looked-requires invariant-loop decreases-loop
seat_slot_requires c κs =
    let l = c in
    let p = (start l.before.before.before).requires in
    (omega (arith, p.0.0, l.loop-slot.invariant.3), λ j h. omega (arith, p.0.1 j h, l.loop-slot.invariant.3))

-- the slot's own looks
few : (c : tie.After-seat_slot-looked invariant-loop decreases-loop) → c.seat_slot-looked.result ≤ max_units
few c =
    let l = c in
    let a = (start l.before.before.before.before).args in
    omega (
      arith,
      c.seat_slot-looked.ensures.1,
      looks_most (at a.first.now) l.loop-slot.slot a.order.now c.rise-count.result l.loop-slot.plan,
      (start l.before.before.before.before).requires.0.2,
    )

loop-again : tie.Need-loop-slot-preserved invariant-loop decreases-loop
loop-again c =
    let d = c in
    let l = d in
    let a = (start l.before.before.before.before.before.before).args in
    let e = d.seat_slot-looked.ensures in (
      omega arith,
      omega arith,
      refl,
      d.seat_slot-looked.auto.plan ∙ l.loop-slot.invariant.3,
      omega (arith, few d.before.before, l.loop-slot.invariant.4),
      slot_done (at a.first.now) (count_at a.counts.now) a.order.now (length a.counts.now) a.plan.now l.loop-slot.slot
          d.rise-count.result l.loop-slot.plan d.seat_slot-looked.new.plan l.loop-slot.looked d.seat_slot-looked.result l.loop-slot.invariant.0
          (omega arith) d.rise-count.ensures e.0 e.1 l.loop-slot.invariant.5,
    )

returns : tie.Need-returns invariant-loop decreases-loop
returns c =
    let l = c in
    let a = (start l.before).args in
    slots_end (at a.first.now) (count_at a.counts.now) a.order.now (length a.counts.now) a.plan.now
    l.loop-slot.slot l.loop-slot.plan l.loop-slot.looked (omega arith) l.loop-slot.invariant.5

pub seat_slots_spec : {M : Type 1} → statement M
seat_slots_spec = tie.close (tie.spec invariant-loop decreases-loop loop-holds (λ c κs. (omega arith, omega arith, (start c.before).requires.1.2))
    (λ c. omega (arith, (start c.before.before).requires.1.1)) seat_slot_requires
    (λ c. let l = c in omega (arith, few c.before.before, l.loop-slot.invariant.4, (start l.before.before.before.before.before.before).requires.1.1))
    (λ c. omega arith) (λ c. omega arith) loop-again (λ c. c.loop-slot.invariant.3) returns)
