-- Each way out is one law of the two readers. An item that was read leads further on (`item_went`).
use Rattle.std.proofs.Common.{ap, arith, length, drop, sym, ◌∙◌}
use Rattle.read_notes.specs.Readers.{after_item, end_of}
use Rattle.read_notes.specs.ReaderLaws.{list_past, list_closed, list_item, item_deep, item_list, item_byte, item_tail, Went, went, item_unmatched}
use Rattle.read_notes.proofs.+item_end_list_end.Goals as goal
use Rattle.read_notes.proofs.+item_end_list_end.Goals.{list_end-In_ok-here}

pub item_end-returns-then-depth-lt-MAX_DEPTH : goal.item_end-returns-then-depth-lt-MAX_DEPTH
item_end-returns-then-depth-lt-MAX_DEPTH t c =
    let a = c.args in
    c.list_end.ensures
    ∙ ap (end_of (length a.s.now)) (item_list a.s.now a.at a.depth (omega arith) c.if-s-at-ne40.false c.if-depth-lt-MAX_DEPTH.true)

pub item_end-returns-else-depth-lt-MAX_DEPTH : goal.item_end-returns-else-depth-lt-MAX_DEPTH
item_end-returns-else-depth-lt-MAX_DEPTH t c =
    let a = c.args in
    item_deep a.s.now a.at a.depth (omega arith) c.if-s-at-ne40.false c.if-depth-lt-MAX_DEPTH.false

pub item_end-returns-then-s-at-ne40 : goal.item_end-returns-then-s-at-ne40
item_end-returns-then-s-at-ne40 t c =
    let a = c.args in
    item_byte a.s.now a.at a.depth (omega arith) c.if-s-at-ne40.true

pub list_end-returns-then-s-here-eq41 : goal.list_end-returns-then-s-here-eq41
list_end-returns-then-s-here-eq41 t c =
    let a = c.args in
    let l = c.loop-here in
    list_closed a.s.now l.here a.depth (omega arith) c.if-s-here-eq41.true ∙ ap (end_of (length a.s.now)) l.invariant.1

-- one item further: that is where the list goes on
item_went : (t : _) (c : list_end-In_ok-here t) →
    let a = c.args in
    Went a.s.now c.loop-here.here a.depth c.in_ok-here.here (after_item (drop c.loop-here.here a.s.now) a.depth)
item_went t c =
    let a = c.args in
    let h = c.loop-here.here in
    went a.s.now h a.depth c.in_ok-here.here (after_item (drop h a.s.now) a.depth)
    (item_tail (drop h a.s.now) a.depth) (omega arith) (sym c.in_ok-here.ensures)

pub list_end-loop-here-smaller : goal.list_end-loop-here-smaller
list_end-loop-here-smaller t c = omega (arith, item_went t (goal.at.list_end-loop-here-smaller t c).In_ok-here)

pub list_end-loop-here-preserved : goal.list_end-loop-here-preserved
list_end-loop-here-preserved t c =
    let a = c.args in
    let l = c.loop-here in
    let w = item_went t (goal.at.list_end-loop-here-preserved t c).In_ok-here in (
      omega (arith, w.further),
      sym (list_item a.s.now l.here a.depth (omega arith) c.if-s-here-eq41.false ∙ w.on) ∙ l.invariant.1,
    )

pub list_end-returns-in_err-here : goal.list_end-returns-in_err-here
list_end-returns-in_err-here t c =
    let a = c.args in
    let l = c.loop-here in
    c.from_residual.ensures
    ∙ item_unmatched (length a.s.now) (after_item (drop l.here a.s.now) a.depth) a.depth (sym c.in_err-here.ensures)
    ∙ ap (end_of (length a.s.now)) (sym (list_item a.s.now l.here a.depth (omega arith) c.if-s-here-eq41.false) ∙ l.invariant.1)

pub list_end-returns : goal.list_end-returns
list_end-returns t c =
    let a = c.args in
    let l = c.loop-here in
    list_past a.s.now l.here a.depth c.loop-here-test.false ∙ ap (end_of (length a.s.now)) l.invariant.1
