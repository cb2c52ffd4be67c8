-- Forward the limit's positive part, backward its negative part: what is handed over is the line of the step.
use Rattle.std.proofs.Common.{◌≡◌, sym, ◌∙◌, subst, ℕ, ◌<◌, ◌≤◌}
use Rattle.std.proofs.Math.IntN.{ℤ}
use Rattle.std.proofs.Common.{w16, to_z-of_z}
use Rattle.integers.specs.Parts.{up, dn}
use Rattle.slots.specs.Slots.{slot_after, slot_before}
use Rattle.network.specs.Network.{Weights}
use Rattle.network.specs.Table.{entry}
use Rattle.forms.specs.Words.{text}
use Rattle.print_bytes.specs.Writing.{Room, Written, at_most_line, at_least_line}
use Rattle.pages.specs.Page.{step_line}
use Rattle.pages.proofs.PageLaws.{step_forward, step_backward}
use Rattle.print_none.proofs.put_step.Goals as goal

module _ (d : Weights) {a b : ℕ} {z : ℤ} {k f l : ℕ} (limit : z ≡ d a b) where
  forward : a < b → k ≡ up z → f ≡ slot_after a → l ≡ slot_before b → at_most_line k f l ≡ step_line d a b
  forward h p q r = rw (p, q, r, limit) (sym (step_forward d a b h))

  backward : b ≤ a → k ≡ dn z → f ≡ slot_after b → l ≡ slot_before a → at_least_line k f l ≡ step_line d a b
  backward h p q r = rw (p, q, r, limit) (sym (step_backward d a b h))

pub put_bound-requires-clause-room : goal.put_bound-requires-clause-room
unfolding at_most_line text
put_bound-requires-clause-room c =
    let a = c.args in
    let limit = to_z-of_z {w = w16} (record { sfits = c.entry_at-limit.type_inv }) ∙ c.entry_at-limit.ensures in
    let e = forward (entry a.w a.limits.now) limit c.if-a-b.true c.above.ensures c.slot_after.ensures c.slot_before.ensures in
    subst (Room a.page.now a.at) (sym e) c.requires.room

pub returns-then-a-b : goal.returns-then-a-b
unfolding at_most_line text
returns-then-a-b c =
    let a = c.args in
    let limit = to_z-of_z {w = w16} (record { sfits = c.entry_at-limit.type_inv }) ∙ c.entry_at-limit.ensures in
    let e = forward (entry a.w a.limits.now) limit c.if-a-b.true c.above.ensures c.slot_after.ensures c.slot_before.ensures in
    subst (λ l. Written a.page.now a.at l c.put_bound.new.page c.put_bound.result) e c.put_bound.ensures

pub put_bound-requires-else-a-b-clause-room : goal.put_bound-requires-else-a-b-clause-room
unfolding at_least_line text
put_bound-requires-else-a-b-clause-room c =
    let a = c.args in
    let limit = to_z-of_z {w = w16} (record { sfits = c.entry_at-limit.type_inv }) ∙ c.entry_at-limit.ensures in
    let e = backward (entry a.w a.limits.now) limit c.if-a-b.false c.below.ensures
    c.slot_after-else-a-b.ensures c.slot_before-else-a-b.ensures in
    subst (Room a.page.now a.at) (sym e) c.requires.room

pub returns-else-a-b : goal.returns-else-a-b
unfolding at_least_line text
returns-else-a-b c =
    let a = c.args in
    let limit = to_z-of_z {w = w16} (record { sfits = c.entry_at-limit.type_inv }) ∙ c.entry_at-limit.ensures in
    let e = backward (entry a.w a.limits.now) limit c.if-a-b.false c.below.ensures
    c.slot_after-else-a-b.ensures c.slot_before-else-a-b.ensures in
    subst (λ l. Written a.page.now a.at l c.put_bound-else-a-b.new.page c.put_bound-else-a-b.result) e c.put_bound-else-a-b.ensures
