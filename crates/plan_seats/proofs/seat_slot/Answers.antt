-- Key idea: the search goes on behind the place that was found, where it has passed all that are seated or not open (`found`), and seats its unit (`taken`).
use Rattle.std.proofs.Common.{◌≡◌, sym, subst, arith, ℕ, suc, ◌+◌, ◌-◌, set, length}
use Rattle.plans.specs.Seating.{at}
use Rattle.plan_seats.proofs.SlotLaws.{Search, found, taken, slot_full, all_seen, Done}
use Rattle.plan_seats.proofs.seat_slot.Goals as goal
use Rattle.plan_seats.proofs.seat_slot.Goals.{In-None, After-loop}

-- the search has come to the end of the order
none : (c : In-None) → Done (at c.args.first.now) c.args.slot c.args.order.now c.args.count c.args.plan.now (length c.args.order.now) c.loop.plan
none c =
    let a = c.args in
    let l = c.loop in
    let left : a.count - l.counter ≡ suc (a.count - (l.counter + 1)) = omega arith in
    let k = a.count - (l.counter + 1) in
    let s : Search (at a.first.now) a.slot a.order.now a.count a.plan.now l.looked (suc k) l.plan = rw (sym left) l.invariant.search in
    let n = found (at a.first.now) a.slot a.order.now a.count a.plan.now l.looked k (length a.order.now) l.plan l.invariant.inside (sym c.in-None.ensures) s in
    all_seen (at a.first.now) a.slot a.order.now a.count a.plan.now (length a.order.now) (suc k) l.plan (omega arith) n.2

-- or has no seat left
full : (c : After-loop) → Done (at c.args.first.now) c.args.slot c.args.order.now c.args.count c.args.plan.now c.loop.looked c.loop.plan
full c =
    let a = c.args in
    let l = c.loop in
    let left : a.count - l.counter ≡ 0 = omega arith in
    slot_full (at a.first.now) a.slot a.order.now a.count a.plan.now l.looked l.plan (rw (sym left) l.invariant.search)

pub returns-in-None-clause-seated : goal.returns-in-None-clause-seated
returns-in-None-clause-seated c = (none (goal.at.returns-in-None-clause-seated c).In-None).0

pub returns-in-None-clause-looked : goal.returns-in-None-clause-looked
returns-in-None-clause-looked c = (none (goal.at.returns-in-None-clause-looked c).In-None).1

pub loop-preserved : goal.loop-preserved
loop-preserved c =
    let a = c.args in
    let l = c.loop in
    let r = c.in-Some.place in
    let e = c.in-Some.ensures in
    let left : a.count - l.counter ≡ suc (a.count - (l.counter + 1)) = omega arith in
    let k = a.count - (l.counter + 1) in
    let s : Search (at a.first.now) a.slot a.order.now a.count a.plan.now l.looked (suc k) l.plan = rw (sym left) l.invariant.search in
    let n = found (at a.first.now) a.slot a.order.now a.count a.plan.now l.looked k r l.plan l.invariant.inside e.1 s in
    let one : suc r ≡ r + 1 = omega arith in
    record {
      inside = omega (arith, e.0);
      search = subst (λ (p : ℕ). Search (at a.first.now) a.slot a.order.now a.count a.plan.now p k (set l.plan (at a.order.now r) a.slot))
          one (taken (at a.first.now) a.slot a.order.now a.count a.plan.now r k l.plan e.0 (n.1 e.0) n.2);
    }

pub returns-clause-seated : goal.returns-clause-seated
returns-clause-seated c = (full (goal.at.returns-clause-seated c).After-loop).0

pub returns-clause-looked : goal.returns-clause-looked
returns-clause-looked c = (full (goal.at.returns-clause-looked c).After-loop).1
