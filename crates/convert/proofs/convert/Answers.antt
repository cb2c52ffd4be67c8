-- Reading's answer decides: its refusal is written, or the sheet that it left at the front of the arrays is converted.
use Rattle.std.proofs.Common.{◌≡◌, sym, ap, subst, ◌∙◌, arith}
use Rattle.plan_ask.specs.Asking.{Listed}
use Rattle.read_questions.specs.Reading.{rooms_for_all}
use Rattle.read_rooms.specs.Rooms.{sizes_of}
use Rattle.read_whole.specs.WholeLaws.{refused_small, read_held}
use Rattle.read_arrays.specs.Arrays.{lists_in}
use Rattle.print_bytes.specs.Writing.{with_bytes}
use Rattle.convert_lists.proofs.ConvertingLaws.{refused_converted, read_converted}
use Rattle.convert.proofs.convert.Goals as goal

-- the arrays hold every sheet
pub refuse-requires : goal.refuse-requires
refuse-requires c =
    let sizes : sizes_of (lists_in c.cleared-arrays.result) ≡ rooms_for_all = ap sizes_of c.cleared-arrays.ensures in
    let r = refused_small c.args.from c.args.text.now (lists_in c.cleared-arrays.result) sizes _ _ c.in-Err.ensures.result_value in
    (omega (arith, r.0), omega (arith, r.1))

pub lists-requires : goal.lists-requires
lists-requires c =
    let sizes : sizes_of (lists_in c.cleared-arrays.result) ≡ rooms_for_all = ap sizes_of c.cleared-arrays.ensures in
    read_held c.args.from c.args.text.now (lists_in c.cleared-arrays.result) sizes c.in-Ok.s c.in-Ok.ensures.result_value _ c.in-Ok.ensures.high_after

pub convert_sheet-requires : goal.convert_sheet-requires
convert_sheet-requires c =
    let sizes : sizes_of (lists_in c.cleared-arrays.result) ≡ rooms_for_all = ap sizes_of c.cleared-arrays.ensures in
    let held = read_held c.args.from c.args.text.now (lists_in c.cleared-arrays.result) sizes c.in-Ok.s c.in-Ok.ensures.result_value _
    c.in-Ok.ensures.high_after in
    subst Listed (sym c.lists.ensures) held.passes

pub returns-in-Err : goal.returns-in-Err
returns-in-Err c =
    let a = c.args in
    let sizes : sizes_of (lists_in c.cleared-arrays.result) ≡ rooms_for_all = ap sizes_of c.cleared-arrays.ensures in
    let told = refused_converted a.from a.to a.text.now (lists_in c.cleared-arrays.result) sizes _ _ c.in-Err.ensures.result_value in
    (c.refuse.ensures.0 ∙ told.0, c.refuse.ensures.1 ∙ ap (with_bytes a.page.now 0) told.1)

pub returns-in-Ok : goal.returns-in-Ok
returns-in-Ok c =
    let a = c.args in
    let sizes : sizes_of (lists_in c.cleared-arrays.result) ≡ rooms_for_all = ap sizes_of c.cleared-arrays.ensures in
    let told = read_converted a.from a.to a.text.now (lists_in c.cleared-arrays.result) sizes c.in-Ok.s c.in-Ok.ensures.result_value _
    c.in-Ok.ensures.high_after in
    let left = rw c.lists.ensures at c.convert_sheet.ensures in
    (left.0 ∙ told.0, left.1 ∙ ap (with_bytes a.page.now 0) told.1)
