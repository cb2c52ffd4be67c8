-- A slot's two ends are boundaries of the table.
use borrow.Author.Rules.{rules}
use mathlib.Core.Path.{◌≡◌, ap, ◌∙◌}
use Prim.Native.Nat.{ℕ, ◌+◌, ◌*◌}
use Rattle.slots.specs.Slots.{slot_start}
use Rattle.limit_places.proofs.forward_place.Statement.{statement}
use Rattle.limit_places.proofs.forward_place.Tie as tie

returns : tie.Need-returns
returns c =
    let a = c.before.before.before.args in
    let end : c.before.before.end-end.result.0 ≡ a.last = c.before.before.end-end.ensures in
    let start : c.before.start-start.result.0 ≡ slot_start a.first = c.before.start-start.ensures in
    c.place.ensures ∙ ap (λ (k : ℕ). k * a.w + c.before.before.end-end.result.0) start ∙ ap (λ (k : ℕ). slot_start a.first * a.w + k) end

pub forward_place_spec : {M : Type 1} → statement M
forward_place_spec = tie.close (tie.spec (λ c κs. search rules) (λ c κs. search rules) (λ c κs. search rules) returns)
