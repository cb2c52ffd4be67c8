use Rattle.std.proofs.Common.{◌<◌, ◌≤◌, arith, sym, refl, replicate}
use Rattle.sheet.specs.Sizes.{max_units}
use Rattle.loaders.specs.ChainLaws.{linked_none}
use Rattle.forms.specs.Lines.{whole_lines}
use Rattle.forms.specs.LinesLaws.{whole_within}
use Rattle.read_ask.proofs.ReadLaws.{asking_start, asking_no, asking_on, asking_last, asking_none, asking_sheet, arrays_kept}
use Rattle.read_ask.proofs.pass.Goals as goal

pub loop-at-init : goal.loop-at-init
loop-at-init c =
    let a = c.args in (
      asking_start a.house a.text.now c.empty-s.result _ c.empty-s.ensures,
      rw c.empty-s.ensures (record {
        few_slots = omega arith;
        few_units = omega arith;
        in_numbers = c.requires.1.in_loader;
        in_nexts = refl;
        linked = linked_none a.numbers.now (replicate max_units 0);
      }),
    )

pub returns-in-Err-clause-result_value : goal.returns-in-Err-clause-result_value
returns-in-Err-clause-result_value c =
    let f = c.line_at-found in
    let inside : c.loop-at.at < whole_lines c.args.text.now = omega (arith, c.lines_end-whole.ensures) in
    rw c.at.ensures (asking_no _ _ _ _ _ _ _ c.loop-at.invariant.0 c.requires.1.in_loader f.result.next inside f.ensures.next_value
    f.result.line f.ensures.line_value c.in-Err.q (sym c.in-Err.ensures.value))

pub overflow_add-n : goal.overflow_add-n
overflow_add-n c =
    let i = c.loop-at.invariant.0 in
    omega (arith, i.number, c.lines_end-whole.ensures, whole_within c.args.text.now)

pub loop-at-preserved : goal.loop-at-preserved
loop-at-preserved c =
    let f = c.line_at-found in
    let e = c.in-Ok.ensures in
    let inside : c.loop-at.at < whole_lines c.args.text.now = omega (arith, c.lines_end-whole.ensures) in (
      asking_on _ _ _ _ _ _ _ c.loop-at.invariant.0 c.requires.1.in_loader f.result.next inside f.ensures.next_value
          f.result.line f.ensures.line_value c.in-Ok.more _ (sym e.value) e.highs_after,
      e.chained_by,
    )

pub returns-then-at-text-clause-result_value : goal.returns-then-at-text-clause-result_value
returns-then-at-text-clause-result_value c =
    let past : whole_lines c.args.text.now ≤ c.loop-at.at = omega (arith, c.lines_end-whole.ensures) in
    rw c.at-then-at-text.ensures (asking_last _ _ _ _ _ _ _ c.loop-at.invariant.0 c.requires.1.in_loader past c.if-at-text.true c.last_line-q.result c.last_line-q.ensures)

pub returns-then-s-eq0-clause-result_value : goal.returns-then-s-eq0-clause-result_value
returns-then-s-eq0-clause-result_value c = rw c.refused.ensures (asking_none _ _ _ _ _ _ _ c.loop-at.invariant.0 c.if-at-text.false c.if-s-eq0.true)

pub returns-clause-result_value : goal.returns-clause-result_value
returns-clause-result_value c = asking_sheet _ _ _ _ _ _ _ c.loop-at.invariant.0 c.if-at-text.false c.if-s-eq0.false

pub returns-clause-kept : goal.returns-clause-kept
returns-clause-kept c =
    let i = c.loop-at.invariant.0 in
    record {
      few_units = i.counts.few_units;
      few_rules = i.counts.few_rules;
      in_arrays = arrays_kept _ _ _ _ _ _ _ i c.if-at-text.false;
    }
