-- Whose sheet it is decides which form is written.
use Rattle.std.proofs.Common.{sym, subst}
use Rattle.print_bytes.specs.Writing.{Room, Written}
use Rattle.sheet_texts.specs.SheetText.{unit_text}
use Rattle.write_entries.specs.Lines.{unit_with}
use Rattle.write_entries.proofs.put_unit.Goals as goal

pub put_own_unit-requires : goal.put_own_unit-requires
unfolding unit_text
put_own_unit-requires c =
    let a = c.args in
    subst (λ h. Room a.page.now a.at (unit_text h (unit_with a.loader a.first a.last))) c.in-Ours.is c.requires.room

pub returns-in-Ours : goal.returns-in-Ours
unfolding unit_text
returns-in-Ours c =
    let a = c.args in
    subst (λ h. Written a.page.now a.at (unit_text h (unit_with a.loader a.first a.last)) c.put_own_unit.new.page c.put_own_unit.result) (sym c.in-Ours.is)
    c.put_own_unit.ensures

pub put_job-requires : goal.put_job-requires
unfolding unit_text
put_job-requires c =
    let a = c.args in
    rw c.hours.ensures (subst (λ h. Room a.page.now a.at (unit_text h (unit_with a.loader a.first a.last))) c.in-Partner.is c.requires.room)

pub returns-in-Partner : goal.returns-in-Partner
unfolding unit_text
returns-in-Partner c =
    let a = c.args in
    subst (λ h. Written a.page.now a.at (unit_text h (unit_with a.loader a.first a.last)) c.put_job.new.page c.put_job.result) (sym c.in-Partner.is)
    (rw c.hours.ensures at c.put_job.ensures)
