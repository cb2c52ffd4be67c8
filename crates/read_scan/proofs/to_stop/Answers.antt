use Rattle.std.proofs.Common.{◌≡◌, ◌<◌, ℕ, List, length, ap, ◌∙◌, arith}
use Rattle.forms.specs.declared.House.{House}
use Rattle.read_form.specs.Grid.{class_of, entry_of, next_of, Tables}
use Rattle.read_scan.specs.ScanLaws.{feed_here, Scanning, scanning_start, past_byte}
use Rattle.read_scan.proofs.to_stop.Goals as goal
use Rattle.read_scan.proofs.to_stop.Goals.{In-loop-state}

-- the state that follows is the grid's, whose tables they are
follows : (g : List (List ℕ)) (k : List ℕ) (q b r : ℕ) → r ≡ entry_of g q (class_of b) → (h : House) → Tables h g k → r ≡ next_of h q (class_of b)
follows g k q b r e h t = e ∙ ap (λ f. entry_of f q (class_of b)) t.is_grid

-- one of the houses
on : (c : In-loop-state) → Scanning c.requires.1.0 c.args.text.now c.args.at c.args.from c.loop-state.i c.loop-state.state
on c = let p = c.requires.1 in (c.loop-state.invariant.1 p.0 p.1).on c.loop-state-test.true

inside : (c : In-loop-state) → c.loop-state.i < length c.args.text.now
inside c = feed_here _ _ (on c).resumes.feed

pub bounds-text-at : goal.bounds-text-at
bounds-text-at c = feed_here _ _ c.requires.0.feed

pub next-state-requires : goal.next-state-requires
next-state-requires c = (c.requires.1, c.requires.0.known)

pub loop-state-init : goal.loop-state-init
loop-state-init c = (
  omega arith,
  λ h t. past_byte h _ _ _ _ _ _ (scanning_start h _ _ _ c.requires.0) (follows _ _ _ _ _ c.next-state.ensures h t),
)

pub bounds-text-i : goal.bounds-text-i
bounds-text-i c = inside (goal.at.bounds-text-i c).In-loop-state

pub overflow_add-i : goal.overflow_add-i
overflow_add-i c = omega (arith, feed_here c.args.text.now c.args.at c.requires.0.feed)

pub overflow_add-i-in-loop-state : goal.overflow_add-i-in-loop-state
overflow_add-i-in-loop-state c = omega (arith, inside (goal.at.overflow_add-i-in-loop-state c).In-loop-state)

pub loop-state-smaller : goal.loop-state-smaller
loop-state-smaller c = omega (arith, inside (goal.at.loop-state-smaller c).In-loop-state)

pub loop-state-preserved : goal.loop-state-preserved
loop-state-preserved c = (
  omega arith,
  λ h t. past_byte h _ _ _ _ _ _ ((c.loop-state.invariant.1 h t).on c.loop-state-test.true) (follows _ _ _ _ _ c.next-state-in-loop-state.ensures h t),
)

pub returns : goal.returns
returns c h t = (c.loop-state.invariant.1 h t).stopped c.loop-state-test.false
