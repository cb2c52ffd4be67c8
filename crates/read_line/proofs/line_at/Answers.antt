-- The part that is handed on is the line that was scanned, and what is said of it by the values is what the definition says (`line_said_lem` of LineLaws).
use Rattle.std.proofs.Common.{◌+◌, ◌≤◌, refl, sym, ap, ◌∙◌, arith, length, replicate}
use Rattle.forms.specs.LinesLaws.{line_part, whole_ended, whole_within, whole_next}
use Rattle.read_scan.specs.Scan.{ScannedAs}
use Rattle.read_line.specs.Said.{line_said}
use Rattle.read_line.proofs.LineLaws.{note_bytes, line_said_lem, zeros_small}
use Rattle.read_line.proofs.line_at.Goals as goal
use Rattle.read_line.proofs.line_at.Goals.{After-scan-found}

module _ (c : After-scan-found) where
  scanned : ScannedAs c.args.house c.args.text.now c.args.at c.scan-found.result.end c.scan-found.result.kind c.scan-found.result.plain
      (replicate 8 0) c.scan-found.new.values
  scanned = c.scan-found.ensures.scanned_as c.args.house c.requires.1

  end_inside : c.scan-found.result.end + 1 ≤ length c.args.text.now
  end_inside = omega (arith, scanned.is_end, whole_next c.args.text.now c.args.at c.requires.0, whole_within c.args.text.now)

pub scan-found-requires : goal.scan-found-requires
scan-found-requires c = (whole_ended c.args.text.now c.args.at c.requires.0, (c.args.house, c.requires.1), zeros_small)

pub slice_bounds-bytes-end : goal.slice_bounds-bytes-end
slice_bounds-bytes-end c = omega (arith, end_inside (goal.at.slice_bounds-bytes-end c).After-scan-found)

pub read_line-requires : goal.read_line-requires
read_line-requires c =
    let a = c.args in
    let s = scanned (goal.at.read_line-requires c).After-scan-found in
    (c.scan-found.ensures.small, λ e. omega (arith, ap length (line_part a.text.now a.at _ s.is_end), note_bytes a.house _ (sym s.is_kind ∙ e)))

pub overflow_add-result : goal.overflow_add-result
overflow_add-result c = omega (arith, end_inside (goal.at.overflow_add-result c).After-scan-found)

pub returns-clause-line_value : goal.returns-clause-line_value
returns-clause-line_value c =
    let a = c.args in
    let r = c.scan-found.result in
    let s = scanned (goal.at.returns-clause-line_value c).After-scan-found in
    c.read_line.ensures ∙ ap (line_said a.house r.kind r.plain _) (line_part a.text.now a.at _ s.is_end)
    ∙ line_said_lem a.house _ (replicate 8 0) _ r.plain refl s.are_values r.kind s.is_kind
