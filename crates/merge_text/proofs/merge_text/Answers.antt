-- The first no of both texts is written, or the merged sheet that then stands at the front of the lists.
use Rattle.std.proofs.Common.{ℕ, ◌≡◌, length, ap, ◌∙◌, arith}
use Rattle.sheet.specs.Lists.{written_by}
use Rattle.forms.specs.declared.House.TheVariants.{Ours}
use Rattle.read_questions.specs.Reading.{rooms}
use Rattle.read_whole.specs.Fronts.{fronts}
use Rattle.sheet_texts.specs.SheetText.{sheet_text}
use Rattle.print_bytes.specs.Writing.{with_bytes, refused_line}
use Rattle.write_fronts.specs.Outcome as says
use Rattle.merge_text.proofs.JoinedLaws.{refusal_small, refusal_told, sheet_held, sheet_told}
use Rattle.merge_text.proofs.merge_text.Goals as goal

pub put_refused-place-requires : goal.put_refused-place-requires
put_refused-place-requires c =
    let r = refusal_small c.args.one.now c.args.two.now _ _ c.in-Err.ensures.result_value in
    (omega (arith, r.0), omega (arith, r.1))

pub put_fronts-place-requires : goal.put_fronts-place-requires
put_fronts-place-requires c =
    let k = c.join.new.self in
    sheet_held c.args.one.now c.args.two.now c.in-Ok.merged (rooms k.numbers k.firsts k.lasts k.froms k.tos k.lows k.highs)
    c.in-Ok.ensures.result_value c.in-Ok.ensures.leaves_merged

pub returns-in-Err : goal.returns-in-Err
returns-in-Err c =
    let a = c.args in
    let f = c.in-Err.blamed.refusal in
    let told = refusal_told a.one.now a.two.now f.number f.line c.in-Err.ensures.result_value in
    let w = c.put_refused-place.ensures in
    let past : c.put_refused-place.result ≡ length (refused_line f.number f.line) = omega (arith, w.moved) in record {
      result_value = ap (says.refused f.number f.line) past ∙ told.0;
      result_value_2 = c.in-Err.ensures.result_value_2;
      page_after = w.filled ∙ ap (with_bytes a.page.now 0) told.1;
    }

pub returns-in-Ok : goal.returns-in-Ok
returns-in-Ok c =
    let a = c.args in
    let s = c.in-Ok.merged in
    let k = c.join.new.self in
    let after = rooms k.numbers k.firsts k.lasts k.froms k.tos k.lows k.highs in
    let told = sheet_told a.one.now a.two.now s after c.in-Ok.ensures.result_value c.in-Ok.ensures.leaves_merged in
    let w = c.put_fronts-place.ensures in
    let past : c.put_fronts-place.result ≡ length (sheet_text Ours (written_by (fronts s after))) = omega (arith, w.moved) in record {
      result_value = ap says.sheet past ∙ told.0;
      result_value_2 = c.in-Ok.ensures.result_value_2;
      page_after = w.filled ∙ ap (with_bytes a.page.now 0) told.1;
    }
