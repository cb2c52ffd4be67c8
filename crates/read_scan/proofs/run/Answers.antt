use Rattle.std.proofs.Common.{◌≡◌, ◌<◌, ◌-◌, ℕ, List, length, take, drop, get_or, take_all, length-drop, subst, sym, refl, ap, ◌∙◌, arith}
use Rattle.forms.specs.declared.House.{House}
use Rattle.read_form.specs.Grid.{state_count, start, class_of, entry_of, next_of, run_of}
use Rattle.read_form.specs.GridLaws.{next_inside, start_inside}
use Rattle.read_form.specs.Reader.{Serves}
use Rattle.read_scan.specs.ScanLaws.{run_byte, run_done}
use Rattle.read_scan.proofs.run.Goals as goal
use Rattle.read_scan.proofs.run.Goals.{After-next-state}

pub loop-b-init : goal.loop-b-init
loop-b-init c = (start_inside.1, λ h t. refl)

pub next-state-requires : goal.next-state-requires
next-state-requires c = (c.requires.1, c.loop-b.invariant.0)

module _ (c : After-next-state) where
  abbrev items : List ℕ
  items = take (length c.args.text.now - c.args.at) (drop c.args.at c.args.text.now)

  -- the state that follows is the grid's
  next : (h : House) → Serves h c.args.reader → c.next-state.result ≡ next_of h c.loop-b.state (class_of (get_or items c.loop-b.b-index 0))
  next h t = c.next-state.ensures ∙ ap (λ g. entry_of g c.loop-b.state (class_of (get_or items c.loop-b.b-index 0))) t.is_grid

pub loop-b-preserved : goal.loop-b-preserved
loop-b-preserved c =
    let l = c.loop-b in
    let p = c.requires.1 in (
      subst (λ q. q < state_count) (sym (next c p.0 p.1)) (next_inside p.0 l.state l.invariant.0 (get_or (items c) l.b-index 0)),
      λ h t. run_byte h (items c) l.b-index l.state _ c.loop-b-test.true (next c h t) ∙ l.invariant.1 h t,
    )

pub returns : goal.returns
returns c =
    let l = c.loop-b in
    let n = length c.args.text.now - c.args.at in
    let s = drop c.args.at c.args.text.now in
    let all = take_all n s (omega (arith, length-drop c.args.at c.args.text.now)) in (
      l.invariant.0,
      λ h t. sym (run_done h (take n s) l.b-index l.state c.loop-b-test.false) ∙ l.invariant.1 h t ∙ ap (run_of h start) all,
    )
