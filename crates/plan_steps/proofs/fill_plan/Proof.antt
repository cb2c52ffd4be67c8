-- The seats first, which narrowing then starts from.
use Rattle.plan_steps.specs.FillingLaws.{narrowable, seats_are}
use Rattle.plan_steps.proofs.fill_plan.Statement.{statement}
use Rattle.plan_steps.proofs.fill_plan.Tie as tie

narrow_requires : tie.Need-narrow-requires
narrow_requires c κs =
    let a = c.args in
    let p = c.requires in
    let u = c.seat_units-looked in
    let s = p.0.0 in
    let N = narrowable s a.w a.first.now a.last.now a.table.now p.0.1 a.plan.now u.new.plan (u.ensures s p.0.1).0 in
    ((s, N), (p.1.1, p.1.2))

returns : tie.Need-returns
returns c s R =
    let a = c.args in
    let u = c.seat_units-looked in
    let n = c.narrow in
    let N = narrowable s a.w a.first.now a.last.now a.table.now R a.plan.now u.new.plan (u.ensures s R).0 in
    record {
      seen = (u.ensures s R).1;
      seats = seats_are s a.w a.first.now a.last.now a.table.now R a.plan.now u.new.plan (u.ensures s R).0;
      early = n.ensures.0 s N;
      late = n.ensures.1 s N;
    }

pub fill_plan_spec : {M : Type 1} → statement M
fill_plan_spec = tie.close (tie.spec (λ c κs. let p = c.requires in (p.0, p.1.0)) narrow_requires
    (λ c. c.seat_units-looked.auto.plan)
    (λ c. c.narrow.auto.earliest) (λ c. c.narrow.auto.latest)
    returns)
