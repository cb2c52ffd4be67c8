use Rattle.std.proofs.Common.{◌<◌, ap, arith, get_or, length, ◌∙◌}
use Rattle.forms.specs.LinesLaws.{whole_ended}
use Rattle.read_form.specs.Grid.{class_of, entry_of}
use Rattle.read_scan.specs.ScanLaws.{feed_here}
use Rattle.read_places.proofs.EndLaws.{ending_start, ending_on}
use Rattle.read_places.proofs.to_end.Goals as goal
use Rattle.read_places.proofs.to_end.Goals.{In-loop-state}

-- the line is read on, so there is a byte here
inside : (c : In-loop-state) → c.loop-state.i < length c.args.text.now
inside c = feed_here c.args.text.now c.loop-state.i (c.loop-state.invariant.going c.loop-state-test.true).feed

pub loop-state-init : goal.loop-state-init
loop-state-init c = ending_start _ _ (whole_ended c.args.text.now c.args.at c.requires.0)

pub bounds-text-i : goal.bounds-text-i
bounds-text-i c = inside (goal.at.bounds-text-i c).In-loop-state

pub overflow_add-i : goal.overflow_add-i
overflow_add-i c = omega (arith, inside (goal.at.overflow_add-i c).In-loop-state)

pub loop-state-smaller : goal.loop-state-smaller
loop-state-smaller c = omega (arith, inside (goal.at.loop-state-smaller c).In-loop-state)

pub loop-state-preserved : goal.loop-state-preserved
loop-state-preserved c =
    let l = c.loop-state in
    ending_on _ _ _ l.state _ l.invariant.known c.loop-state-test.true (l.invariant.going c.loop-state-test.true)
    (c.next-state.ensures ∙ ap (λ g. entry_of g l.state (class_of (get_or c.args.text.now l.i 0))) c.requires.1.is_grid)
