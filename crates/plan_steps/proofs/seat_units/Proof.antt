-- Row 0 of the finished table is the greatest of all potentials, by which the units are seated.
use Prim.Native.Nat.{◌-◌}
use native.Mathlib.Omega.{arith}
use Rattle.plan_steps.specs.FillingLaws.{row_fits, row_of, seatable}
use Rattle.network.specs.Table.{entry}
use Rattle.plan_steps.proofs.seat_units.Statement.{statement}
use Rattle.plan_steps.proofs.seat_units.Tie as tie

part_seat_end : tie.Need-slice_bounds-seat-end
part_seat_end c =
    let a = c.args in
    let p = c.requires in
    row_fits p.0.0 a.w a.first.now a.last.now a.table.now p.0.1

seat_requires : tie.Need-seat-requires
seat_requires c κs =
    let a = c.args in
    let p = c.requires in
    seatable p.0.0 a.w a.first.now a.last.now a.table.now p.0.1 (a.w - 0) (omega arith) a.plan.now p.1

returns : tie.Need-returns
returns c s R =
    let a = c.args in
    c.seat.ensures.1 s (entry a.w a.table.now)
    (row_of s a.w a.first.now a.last.now a.table.now R (a.w - 0) (omega arith))

pub seat_units_spec : {M : Type 1} → statement M
seat_units_spec = tie.close (tie.spec (λ c. omega arith) (λ c. omega arith) part_seat_end seat_requires
    (λ c. c.seat.auto.plan) returns)
