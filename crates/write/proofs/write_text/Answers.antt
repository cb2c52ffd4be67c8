-- A page that holds the longest text holds this one, so question 15 is answered yes.
use Rattle.std.proofs.Common.{◌≡◌, true, ℕ, ◌+◌, ◌≤◌, length, refl, sym, ◌∙◌, arith, leb-true}
use Rattle.std.proofs.lemmas.Bool.{le-leb}
use Rattle.write_lines.specs.LinesLaws.{listed_short}
use Rattle.write.specs.Writing.{text_of}
use Rattle.write.proofs.WritingLaws.{held}
use Rattle.write.proofs.write_text.Goals as goal

pub put_sheet-requires-clause-room : goal.put_sheet-requires-clause-room
put_sheet-requires-clause-room c =
    record { fits = omega (arith, leb-true _ _ (sym c.holds.ensures ∙ c.if-holds.true), listed_short c.args.lists.now c.requires c.args.house) }

pub returns-then-holds : goal.returns-then-holds
returns-then-holds c =
    let a = c.args in
    let bytes = text_of a.house a.lists.now in
    let fits : a.at + length bytes ≤ length a.page.now = omega (arith, leb-true _ _ (sym c.holds.ensures ∙ c.if-holds.true), listed_short a.lists.now c.requires a.house) in
    held a.page.now a.at bytes (length bytes) refl true (sym (le-leb _ _ fits)) refl _ _ c.put_sheet.ensures
