-- What is asked of the lists decides, or the page does.
use Rattle.std.proofs.Common.{rules, ◌≡◌, ap, Err}
use Rattle.questions.specs.Questions.{verdict_of}
use Rattle.write.proofs.WritingLaws.{sheet_listed, refused_lists, passed_lists}
use Rattle.write.proofs.write_sheet.Goals as goal

pub returns-in_err-ask : goal.returns-in_err-ask
returns-in_err-ask c =
    let a = c.args in
    let r : c.from_residual.result ≡ Err c.in_err-ask.field-0.0 = search rules in
    let told = refused_lists a.house a.lists.now _ c.ask.ensures a.page.now a.at _ _ (ap verdict_of c.in_err-ask.was) in
    rw r told

pub write_text-requires : goal.write_text-requires
write_text-requires c = sheet_listed c.args.house c.args.lists.now _ c.ask.ensures (ap verdict_of c.in_ok-ask.was)

pub returns : goal.returns
returns c =
    let a = c.args in
    passed_lists a.house a.lists.now _ c.ask.ensures a.page.now a.at (ap verdict_of c.in_ok-ask.was) _ _ c.write_text.ensures
