-- Questions 1 and 12 stand at the two ends of the pass; only where both are answered yes are the rooms filled.
use Rattle.std.proofs.Common.{ℕ, List, replicate, sym, ◌∙◌, rules}
use Rattle.std.proofs.lemmas.Result.{err_from_is_err_and}
use Rattle.sheet.specs.Sizes.{max_units, max_rules}
use Rattle.read_questions.specs.Reading.{ListRooms, rooms}
use Rattle.read_questions.specs.Steps.{Holds}
use Rattle.read_rooms.proofs.ReadingLaws.{answer_long, answer_no, answer_rooms, answer_read, rooms_kept, rooms_filled}
use Rattle.read.proofs.read.Goals as goal

pub returns-then-text-gt-MAX_BYTES-clause-result_value : goal.returns-then-text-gt-MAX_BYTES-clause-result_value
returns-then-text-gt-MAX_BYTES-clause-result_value c =
    rw c.refused.ensures (answer_long c.args.house c.args.text.now _ c.if-text-gt-MAX_BYTES.true)

pub returns-then-text-gt-MAX_BYTES-clause-high_after : goal.returns-then-text-gt-MAX_BYTES-clause-high_after
returns-then-text-gt-MAX_BYTES-clause-high_after c =
    rooms_kept c.args.house c.args.text.now _ 1 0 (answer_long c.args.house c.args.text.now _ c.if-text-gt-MAX_BYTES.true)

pub returns-then-not-lists_fit-clause-result_value : goal.returns-then-not-lists_fit-clause-result_value
returns-then-not-lists_fit-clause-result_value c =
    rw c.refused-then-not-lists_fit.ensures (answer_rooms c.args.house c.args.text.now _ c.if-text-gt-MAX_BYTES.false _ _ _ c.in_ok-s.ensures.result_value
    (sym c.lists_fit.ensures ∙ c.if-not-lists_fit.true))

pub returns-then-not-lists_fit-clause-high_after : goal.returns-then-not-lists_fit-clause-high_after
returns-then-not-lists_fit-clause-high_after c =
    rooms_kept c.args.house c.args.text.now _ 12 0
    (answer_rooms c.args.house c.args.text.now _ c.if-text-gt-MAX_BYTES.false _ _ _ c.in_ok-s.ensures.result_value
    (sym c.lists_fit.ensures ∙ c.if-not-lists_fit.true))

pub returns-in_err-s-clause-result_value : goal.returns-in_err-s-clause-result_value
returns-in_err-s-clause-result_value c =
    let p = err_from_is_err_and c.from_residual.result c.from_residual.ensures.1 in
    rw (p.1, p.2) (answer_no c.args.house c.args.text.now _ c.if-text-gt-MAX_BYTES.false _ _ c.in_err-s.ensures.result_value)

pub returns-in_err-s-clause-high_after : goal.returns-in_err-s-clause-high_after
returns-in_err-s-clause-high_after c =
    rooms_kept c.args.house c.args.text.now _ _ _
    (answer_no c.args.house c.args.text.now _ c.if-text-gt-MAX_BYTES.false _ _ c.in_err-s.ensures.result_value)

pub returns-clause-result_value : goal.returns-clause-result_value
returns-clause-result_value c =
    answer_read c.args.house c.args.text.now _ c.if-text-gt-MAX_BYTES.false _ _ _ c.in_ok-s.ensures.result_value
    (sym c.lists_fit.ensures ∙ c.if-not-lists_fit.false)

-- the arrays of the pass, before it
abbrev cleared : ListRooms (List ℕ)
cleared =
    let units : List ℕ = replicate max_units 0 in
    let bounds : List ℕ = replicate max_rules 0 in
    rooms units units units bounds bounds bounds bounds

cleared_hold : Holds max_units max_rules cleared
cleared_hold =
    record {
      in_loader = search rules;
      in_first = search rules;
      in_last = search rules;
      in_from = search rules;
      in_to = search rules;
      in_low = search rules;
      in_high = search rules;
    }

pub returns-clause-high_after : goal.returns-clause-high_after
returns-clause-high_after c =
    c.fill.ensures
    ∙ rooms_filled c.args.house c.in_ok-s.s c.args.text.now cleared _ cleared_hold c.in_ok-s.ensures.kept _ c.if-text-gt-MAX_BYTES.false
    c.in_ok-s.ensures.result_value (sym c.lists_fit.ensures ∙ c.if-not-lists_fit.false)
