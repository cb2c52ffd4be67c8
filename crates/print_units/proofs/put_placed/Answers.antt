-- Inside the span it is the line with the slot, past it the line of a carried unit.
use Rattle.std.proofs.Common.{sym, subst}
use Rattle.print_bytes.specs.Writing.{Room, Written}
use Rattle.pages.proofs.PageLaws.{placed_inside, placed_past}
use Rattle.print_units.proofs.put_placed.Goals as goal

pub put_unit-requires : goal.put_unit-requires
put_unit-requires c =
    let a = c.args in
    subst (Room a.page.now a.at) (placed_inside a.span a.loader a.slot a.earliest a.latest c.if-slot-span.true) c.requires

pub put_carried-requires : goal.put_carried-requires
put_carried-requires c =
    let a = c.args in
    subst (Room a.page.now a.at) (placed_past a.span a.loader a.slot a.earliest a.latest c.if-slot-span.false) c.requires

pub returns-then-slot-span : goal.returns-then-slot-span
returns-then-slot-span c =
    let a = c.args in
    let e = placed_inside a.span a.loader a.slot a.earliest a.latest c.if-slot-span.true in
    subst (λ l. Written a.page.now a.at l c.put_unit.new.page c.put_unit.result) (sym e) c.put_unit.ensures

pub returns-else-slot-span : goal.returns-else-slot-span
returns-else-slot-span c =
    let a = c.args in
    let e = placed_past a.span a.loader a.slot a.earliest a.latest c.if-slot-span.false in
    subst (λ l. Written a.page.now a.at l c.put_carried.new.page c.put_carried.result) (sym e) c.put_carried.ensures
