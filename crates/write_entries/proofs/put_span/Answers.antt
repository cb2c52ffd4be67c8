-- Whose sheet it is decides which form is written.
use Rattle.std.proofs.Common.{sym, subst}
use Rattle.forms.specs.Words.{text}
use Rattle.print_bytes.specs.Writing.{Room, Written}
use Rattle.sheet_texts.specs.SheetText.{span_text}
use Rattle.write_entries.proofs.put_span.Goals as goal

pub put_one_number-requires : goal.put_one_number-requires
unfolding span_text text
put_one_number-requires c =
    let a = c.args in
    subst (λ h. Room a.page.now a.at (span_text h a.span)) c.in-Ours.is c.requires

pub returns-in-Ours : goal.returns-in-Ours
unfolding span_text text
returns-in-Ours c =
    let a = c.args in
    subst (λ h. Written a.page.now a.at (span_text h a.span) c.put_one_number.new.page c.put_one_number.result) (sym c.in-Ours.is)
    c.put_one_number.ensures

pub put_one_number-requires-in-Partner : goal.put_one_number-requires-in-Partner
unfolding span_text text
put_one_number-requires-in-Partner c =
    let a = c.args in
    subst (λ h. Room a.page.now a.at (span_text h a.span)) c.in-Partner.is c.requires

pub returns-in-Partner : goal.returns-in-Partner
unfolding span_text text
returns-in-Partner c =
    let a = c.args in
    subst (λ h. Written a.page.now a.at (span_text h a.span) c.put_one_number-in-Partner.new.page c.put_one_number-in-Partner.result) (sym c.in-Partner.is)
    c.put_one_number-in-Partner.ensures
