-- A negative cycle of the table of the limits is a ring of the sheet.
-- Key idea: a cycle's boundaries lie inside the table, where the entries are the limits, so both add up to the same sum.
use Rattle.std.specs.Prelude.{◌≡◌, ◌&&◌, List, ◌++◌, ℕ, ◌-◌, ◌*◌, ◌≤◌, T, leb, length, take, drop, ℤ, pos, ◌+ℤ◌, ◌≤ℤ◌}
use Rattle.std.proofs.Common.{sym, ap, ap₂, ◌∙◌, subst, arith, take-append-drop, length-take-le}
use Rattle.std.specs.Int.Signed.{lt_z}
use Rattle.lists.specs.Lists.{every}
use Rattle.lists.specs.Members.{left, right}
use Rattle.network.specs.Network.{Weights, Potential, Feasible, around, distinct, lowest_first, is_negative_cycle}
use Rattle.network.proofs.NetworkLaws.{upto_of_every, around_same}
use Rattle.network.specs.Table.{entry, cleared}
use Rattle.network_pass.specs.Pass.{stopped}
use Rattle.network_levels.specs.Finder.{Infeasible, Weighed, CycleAt}
use Rattle.sheet.specs.Sheet.{Sheet, top, boundaries, limit, is_ring}
use Rattle.limits.specs.LimitTable.{limit_table}
use Rattle.limits.specs.LimitTableLaws.{boundaries_fit, limit_table_at}
use Rattle.sheet.specs.Questions.{accepted}
use Rattle.plan_rooms.specs.Rooms.{places}
use Rattle.plan_steps.specs.Closing.{passed, RingFound}
use Rattle.plan_steps.specs.PassedLaws.{stopped_no_potential}
use Rattle.plan_steps.specs.ClosingLaws.{filled_room, filled_limited, cleared_limits}

-- ---- two weights that agree up to the top boundary
cycle_same : (top : ℕ) (d e : Weights) → ((a b : ℕ) → a ≤ top → b ≤ top → d a b ≡ e a b)
    → (c : List ℕ) → T (is_negative_cycle top d c) → T (is_negative_cycle top e c)
unfolding is_negative_cycle
cycle_same top d e same c h =
    let within = every (λ b. leb b top) c in
    let inside = left within (distinct c && (lowest_first c && lt_z (around d c) (pos 0)))
    (right (leb 2 (length c)) (within && (distinct c && (lowest_first c && lt_z (around d c) (pos 0)))) h) in
    subst (λ (z : ℤ). T (leb 2 (length c) && (within && (distinct c && (lowest_first c && lt_z z (pos 0))))))
    (around_same top d e same c (upto_of_every top c inside)) h

-- ---- the table of the limits, filled in once more
module _ (s : Sheet) (room : List ℤ) where
  at : (a b : ℕ) → a ≤ top s → b ≤ top s → entry (boundaries s) (limit_table s room) a b ≡ limit s a b
  at a b ha hb = limit_table_at s room a b (omega arith) (omega arith)

  cycle_is_ring : (c : List ℕ) → T (is_negative_cycle (top s) (entry (boundaries s) (limit_table s room)) c) → T (is_ring s c)
  unfolding is_ring
  cycle_is_ring c h = cycle_same (top s) (entry (boundaries s) (limit_table s room)) (limit s) at c h

  infeasible : passed s ≡ stopped → (z : Potential) → Feasible (top s) (entry (boundaries s) (limit_table s room)) z → ⊥
  infeasible e z f = stopped_no_potential s e z (λ a b ha hb. subst (λ (x : ℤ). z b ≤ℤ (z a +ℤ x)) (at a b ha hb) (f a b ha hb))

-- what the finder of negative cycles asks of the room that the limits fill, and what it then shows
module _ (s : Sheet) (ok : T (accepted s)) (room filled : List ℤ) (big : places s ≤ length room) (is : filled ≡ limit_table s room)
    (w : ℕ) (size : boundaries s ≡ w) where
  pub weighed : Weighed w filled
  weighed =
      let fit = boundaries_fit s ok in
      let limits = filled_limited s ok room filled w size is in
      record {
        some = omega (arith, fit.0);
        few = omega (arith, fit.1);
        room = filled_room s room filled w size big is;
        small = limits.small;
        zeros = limits.diagonal;
      }

  pub no_potential : passed s ≡ stopped → Infeasible w filled
  no_potential e =
      subst (λ (n : ℕ). Infeasible n filled) size (subst (Infeasible (boundaries s)) (sym is)
      (subst (λ (t : ℕ). (z : Potential) → Feasible t (entry (boundaries s) (limit_table s room)) z → ⊥) (omega arith) (infeasible s room e)))

  cycle_here : (c : List ℕ) → T (is_negative_cycle (w - 1) (entry w filled) c) → T (is_negative_cycle (top s) (entry (boundaries s) (limit_table s room)) c)
  cycle_here c h =
      let h₁ = subst (λ (t : List ℤ). T (is_negative_cycle (w - 1) (entry w t) c)) is h in
      let h₂ = subst (λ (n : ℕ). T (is_negative_cycle (n - 1) (entry n (limit_table s room)) c)) (sym size) h₁ in
      subst (λ (t : ℕ). T (is_negative_cycle t (entry (boundaries s) (limit_table s room)) c)) (omega arith) h₂

  pub ring_found : (before : List ℕ) (r : ℕ) (after : List ℕ) (zeroed : List ℤ) → w ≤ length after → CycleAt w filled before r after
      → zeroed ≡ cleared (w * w) filled → RingFound s room before r zeroed after
  ring_found before r after zeroed long C z =
      let c = take r after in
      let n : length c ≡ r = length-take-le r after (omega (arith, C.short)) in
      record {
        ring = c;
        closed = cycle_is_ring s room c (cycle_here c C.cycle);
        size = sym n;
        front = sym (take-append-drop r after) ∙ ap (λ (l : List ℕ). c ++ l) (C.past ∙ ap (λ (k : ℕ). drop k before) (sym n));
        zeros = z ∙ ap₂ (λ (k : ℕ) (t : List ℤ). cleared (k * k) t) (sym size) is ∙ cleared_limits s room;
      }
