-- Past the last line feed all bytes are one line, and the state past them and a line feed is the code of its kind.
use Rattle.std.proofs.Common.{◌≡◌, ◌-◌, sym, ap, ap₂, ◌∙◌, arith, length, drop, take, take_all, length-drop, Err}
use Rattle.forms.specs.LinesLaws.{rest_line}
use Rattle.forms.specs.Words.{line_feed}
use Rattle.read_form.specs.Kinds.{kind_of}
use Rattle.read_form.specs.Grid.{kind_of_code, class_of, entry_of}
use Rattle.read_form.specs.GridLaws.{feedless, grid_reads, kind_back}
use Rattle.read_line.specs.Said.{unended_fault}
use Rattle.read_scan.specs.ScanLaws.{first_feedless}
use Rattle.read_line.proofs.LineLaws.{note_bytes, line_unended}
use Rattle.read_line.proofs.last_line.Goals as goal
use Rattle.read_line.proofs.last_line.Goals.{After-of_state-kind}

module _ (c : After-of_state-kind) where
  kind_is : let a = c.args in c.of_state-kind.result ≡ kind_of a.house (drop a.at a.text.now)
  kind_is =
      let a = c.args in
      let h = a.house in
      let t = c.requires.2 in
      let l = drop a.at a.text.now in
      let line = rest_line a.text.now a.at c.requires.0 in
      let end = c.next.ensures ∙ ap₂ (λ g q. entry_of g q (class_of line_feed)) t.is_grid (c.run-state.ensures.1 h t) in
      c.of_state-kind.ensures ∙ ap kind_of_code (end ∙ grid_reads h l (ap feedless (sym line) ∙ first_feedless l)) ∙ kind_back (kind_of h l)

  whole : let a = c.args in take (length a.text.now - a.at) (drop a.at a.text.now) ≡ drop a.at a.text.now
  whole = let a = c.args in take_all (length a.text.now - a.at) (drop a.at a.text.now) (omega (arith, length-drop a.at a.text.now))

pub unended-requires : goal.unended-requires
unended-requires c e =
    let k = (goal.at.unended-requires c).After-of_state-kind in
    omega (arith, ap length (whole k), note_bytes c.args.house (drop c.args.at c.args.text.now) (sym (kind_is k) ∙ e))

pub returns : goal.returns
returns c =
    let k = (goal.at.returns c).After-of_state-kind in
    ap Err (c.unended.ensures ∙ ap₂ unended_fault (kind_is k) (whole k)) ∙ line_unended c.args.house (drop c.args.at c.args.text.now)
