-- Past a line feed all lines of the front are whole; any other byte adds none.
use Rattle.std.proofs.Common.{◌≡◌, suc, ◌-◌, ◌+◌, sym, ap, ◌∙◌, arith, length, take, take_all, eq-eqb, ne_eqb}
use Rattle.forms.specs.Lines.{whole_lines}
use Rattle.forms.specs.LinesLaws.{whole_feed, whole_other}
use Rattle.read_line.proofs.lines_end.Goals as goal

pub loop-n-init : goal.loop-n-init
loop-n-init c = ap whole_lines (take_all (length c.args.text.now) c.args.text.now (omega arith))

pub loop-n-preserved : goal.loop-n-preserved
loop-n-preserved c =
    let l = c.loop-n in
    let t = c.args.text.now in
    let e : suc (l.n - 1) ≡ l.n = omega arith in
    sym (whole_other t (l.n - 1) (omega arith) (ne_eqb _ _ c.if-text-n-eq10.false)) ∙ ap (λ n. whole_lines (take n t)) e ∙ l.invariant

pub returns-then-text-n-eq10 : goal.returns-then-text-n-eq10
returns-then-text-n-eq10 c =
    let l = c.loop-n in
    let t = c.args.text.now in
    let e : suc (l.n - 1) ≡ l.n = omega arith in
    let f : l.n - 1 + 1 ≡ suc (l.n - 1) = omega arith in
    f ∙ sym (whole_feed t (l.n - 1) (omega arith) (eq-eqb _ _ c.if-text-n-eq10.true)) ∙ ap (λ n. whole_lines (take n t)) e ∙ l.invariant

pub returns : goal.returns
unfolding whole_lines
returns c =
    let l = c.loop-n in
    let e : l.n ≡ 0 = omega arith in
    ap (λ n. whole_lines (take n c.args.text.now)) (sym e) ∙ l.invariant
