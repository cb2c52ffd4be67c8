-- What the house asks decides: its refusal is written, or the text is.
use Rattle.std.proofs.Common.{rules, ◌≡◌, length, ap, ◌∙◌, arith}
use Rattle.questions.specs.Questions.{first_no, verdict_of}
use Rattle.sheet.specs.Lists.{WrittenLists, written_by}
use Rattle.sheet_texts.specs.SheetText.{sheet_text}
use Rattle.print_bytes.specs.Writing.{with_bytes}
use Rattle.write_ask.specs.HouseQuestions.{end_questions}
use Rattle.write_lines.specs.LinesLaws.{listed_short}
use Rattle.write_fronts.specs.Outcome.{sheet}
use Rattle.convert_lists.proofs.ConvertingLaws.{house_small, house_told}
use Rattle.convert_lists.proofs.convert_sheet.Goals as goal

pub refuse-requires : goal.refuse-requires
refuse-requires c =
    let l = c.args.lists.now in
    let is : verdict_of c.ask_house.result ≡ first_no (end_questions c.args.house l.constraints.span l.constraints.last l.constraints.low) = search rules in
    house_small c.args.house l c.requires _ is _ _ (ap verdict_of c.in-Err.is)

pub returns-in-Err : goal.returns-in-Err
returns-in-Err c =
    let l = c.args.lists.now in
    let is : verdict_of c.ask_house.result ≡ first_no (end_questions c.args.house l.constraints.span l.constraints.last l.constraints.low) = search rules in
    let told = house_told c.args.house l c.requires _ is _ (ap verdict_of c.in-Err.is) (sheet_text c.args.house (written_by l)) in
    (c.refuse.ensures.0 ∙ told.0, c.refuse.ensures.1 ∙ ap (with_bytes c.args.page.now 0) told.1)

-- the text is short enough for the page
pub put_sheet-next-requires-clause-room : goal.put_sheet-next-requires-clause-room
put_sheet-next-requires-clause-room c = record { fits = omega (arith, listed_short c.args.lists.now c.requires c.args.house) }

pub returns-in-Ok : goal.returns-in-Ok
returns-in-Ok c =
    let l = c.args.lists.now in
    let is : verdict_of c.ask_house.result ≡ first_no (end_questions c.args.house l.constraints.span l.constraints.last l.constraints.low) = search rules in
    let told = house_told c.args.house l c.requires _ is _ (ap verdict_of c.in-Ok.is) (sheet_text c.args.house (written_by l)) in
    let w = c.put_sheet-next.ensures in
    let past : c.put_sheet-next.result ≡ length (sheet_text c.args.house (written_by l)) = omega (arith, w.moved) in
    (ap sheet past ∙ told.0, w.filled ∙ ap (with_bytes c.args.page.now 0) told.1)
