-- Reading's answer decides: its refusal is printed, or the sheet that it left at the front of the arrays is answered.
use Rattle.std.proofs.Common.{◌≡◌, ◌≤◌, ◌<◌, sym, ap, subst, arith}
use Rattle.plan_ask.specs.Asking.{Listed}
use Rattle.read_questions.specs.Reading.{rooms_for_all}
use Rattle.read_rooms.specs.Rooms.{sizes_of}
use Rattle.read_whole.specs.WholeLaws.{refused_small, read_held}
use Rattle.read_arrays.specs.Arrays.{lists_in}
use Rattle.sheet.specs.Sizes.{max_bytes}
use Rattle.print_bytes.proofs.WritingLaws.{refused_short}
use Rattle.answer_conditions.proofs.AnswerLaws.{refused_answer, read_answered}
use Rattle.answer.proofs.answer.Goals.{In-Err}
use Rattle.answer.proofs.answer.Goals as goal

small : (c : In-Err) → let f = c.in-Err.refusal in (f.number < 100) × (f.line ≤ max_bytes)
small c =
    let sizes : sizes_of (lists_in c.cleared-arrays.result) ≡ rooms_for_all = ap sizes_of c.cleared-arrays.ensures in
    refused_small c.args.house c.args.text.now (lists_in c.cleared-arrays.result) sizes _ _ c.in-Err.ensures.result_value

pub overflow_cast-refusal : goal.overflow_cast-refusal
overflow_cast-refusal c = omega (arith, (small (goal.at.overflow_cast-refusal c).In-Err).0)

pub overflow_cast-refusal-in-Err : goal.overflow_cast-refusal-in-Err
overflow_cast-refusal-in-Err c = omega (arith, (small (goal.at.overflow_cast-refusal-in-Err c).In-Err).1)

-- the line of a refusal is short enough for the page
pub put_refusal-requires : goal.put_refusal-requires
put_refusal-requires c =
    let f = c.in-Err.refusal in
    let s = small (goal.at.put_refusal-requires c).In-Err in
    record { fits = omega (arith, refused_short f.number f.line s.0 (omega (arith, s.1))) }

pub lists-requires : goal.lists-requires
lists-requires c =
    let sizes : sizes_of (lists_in c.cleared-arrays.result) ≡ rooms_for_all = ap sizes_of c.cleared-arrays.ensures in
    read_held c.args.house c.args.text.now (lists_in c.cleared-arrays.result) sizes c.in-Ok.s c.in-Ok.ensures.result_value _ c.in-Ok.ensures.high_after

pub answer_sheet-requires : goal.answer_sheet-requires
answer_sheet-requires c =
    let sizes : sizes_of (lists_in c.cleared-arrays.result) ≡ rooms_for_all = ap sizes_of c.cleared-arrays.ensures in
    let held = read_held c.args.house c.args.text.now (lists_in c.cleared-arrays.result) sizes c.in-Ok.s c.in-Ok.ensures.result_value _
    c.in-Ok.ensures.high_after in
    subst Listed (sym c.lists.ensures) held.passes

pub returns-in-Err : goal.returns-in-Err
returns-in-Err c =
    let sizes : sizes_of (lists_in c.cleared-arrays.result) ≡ rooms_for_all = ap sizes_of c.cleared-arrays.ensures in
    record {
      bytes = _;
      answers = refused_answer c.args.house c.args.text.now (lists_in c.cleared-arrays.result) sizes _ _ c.in-Err.ensures.result_value c.args.query;
      written = c.put_refusal.ensures;
    }

pub returns-in-Ok : goal.returns-in-Ok
returns-in-Ok c =
    let sizes : sizes_of (lists_in c.cleared-arrays.result) ≡ rooms_for_all = ap sizes_of c.cleared-arrays.ensures in
    read_answered c.args.house c.args.text.now (lists_in c.cleared-arrays.result) sizes c.in-Ok.s c.in-Ok.ensures.result_value _ c.in-Ok.ensures.high_after
    c.args.query _ _ _ (rw c.lists.ensures at c.answer_sheet.ensures)
