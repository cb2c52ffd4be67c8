-- Whose sheet it is decides which form is written.
use Rattle.std.proofs.Common.{sym, subst}
use Rattle.print_bytes.specs.Writing.{Room, Written}
use Rattle.sheet_texts.specs.SheetText.{rule_text}
use Rattle.write_entries.specs.Lines.{rule_with}
use Rattle.write_entries.proofs.put_rule.Goals as goal

pub put_own_rule-requires : goal.put_own_rule-requires
unfolding rule_text
put_own_rule-requires c =
    let a = c.args in
    subst (λ h. Room a.page.now a.at (rule_text h (rule_with a.from a.to a.low a.high))) c.in-Ours.is c.requires.room

pub returns-in-Ours : goal.returns-in-Ours
unfolding rule_text
returns-in-Ours c =
    let a = c.args in
    subst (λ h. Written a.page.now a.at (rule_text h (rule_with a.from a.to a.low a.high)) c.put_own_rule.new.page c.put_own_rule.result) (sym c.in-Ours.is)
    c.put_own_rule.ensures

pub put_limit-requires : goal.put_limit-requires
unfolding rule_text
put_limit-requires c =
    let a = c.args in
    rw c.hours.ensures (subst (λ h. Room a.page.now a.at (rule_text h (rule_with a.from a.to a.low a.high))) c.in-Partner.is c.requires.room)

pub returns-in-Partner : goal.returns-in-Partner
unfolding rule_text
returns-in-Partner c =
    let a = c.args in
    subst (λ h. Written a.page.now a.at (rule_text h (rule_with a.from a.to a.low a.high)) c.put_limit.new.page c.put_limit.result) (sym c.in-Partner.is)
    (rw c.hours.ensures at c.put_limit.ensures)
