-- The pass over the limits in a longer room is the pass over the table of the limits, with the room's other places behind it.
use Rattle.std.specs.Prelude.{◌≡◌, refl, List, ◌++◌, ℕ, ◌*◌, ◌≤◌, T, length, drop, replicate, ℤ, pos}
use Rattle.std.proofs.Common.{sym, ap, ◌∙◌, subst, arith, drop_at}
use Rattle.network.specs.Table.{max_boundaries, table_of, cleared}
use Rattle.network_pass.specs.Pass.{Passed, finished, stopped, pass_of, Outcome, outcome_of, table_after, After}
use Rattle.network.proofs.TableLaws.{length_table_of}
use Rattle.network_pass.specs.PassFront.{with_rest, pass_front}
use Rattle.network_pass.specs.PassBounds.{Limited}
use Rattle.sheet.specs.Sizes.{max_slots, boundaries_of}
use Rattle.sheet.specs.Sheet.{Sheet, limit, boundaries}
use Rattle.sheet.specs.Questions.{accepted}
use Rattle.sheet.specs.Lists.{Lists, given}
use Rattle.limits.specs.LimitTable.{limit_table}
use Rattle.limits.specs.LimitTableLaws.{boundaries_are, length_limit_table}
use Rattle.limit_bounds.proofs.LimitedLaws.{limits_limited_room}
use Rattle.plan_rooms.specs.Rooms.{places}
use Rattle.plan_ask.proofs.AskingLaws.{span_bound}
use Rattle.plan_steps.specs.Closing.{passed, table_left, Closed}

-- ---- the table, filled with the limits

-- as the code counts its boundaries
pub boundaries_counted : (l : Lists) → T (accepted (given l)) → (w : ℕ) → w ≡ boundaries_of l.span → (boundaries (given l) ≡ w) × (w ≤ max_boundaries)
boundaries_counted l ok w e =
    (boundaries_are l.span l.first l.last l.from l.to l.low l.high ∙ sym e, omega (arith, span_bound l ok))

-- of the lists as the code reads them from those lent
module _ (l lent : Lists) (e : l ≡ lent) (ok : T (accepted (given lent))) where
  pub span_read : l.span ≤ max_slots
  span_read = subst (λ (x : Lists). x.span ≤ max_slots) (sym e) (span_bound lent ok)

  pub boundaries_read : (w : ℕ) → w ≡ boundaries_of l.span → (boundaries (given lent) ≡ w) × (w ≤ max_boundaries)
  boundaries_read w n = boundaries_counted lent ok w (n ∙ ap (λ (x : Lists). boundaries_of x.span) e)

pub filled_room : (s : Sheet) (room filled : List ℤ) (w : ℕ) → boundaries s ≡ w → places s ≤ length room → filled ≡ limit_table s room → w * w ≤ length filled
filled_room s room filled w e fits is = omega (arith, ap (λ (n : ℕ). n * n) e, ap length is, length_limit_table s room fits)

pub filled_limited : (s : Sheet) → T (accepted s) → (room filled : List ℤ) (w : ℕ) → boundaries s ≡ w → filled ≡ limit_table s room → Limited w filled
filled_limited s ok room filled w e is =
    subst (λ (n : ℕ). Limited n filled) e (subst (Limited (boundaries s)) (sym is) (limits_limited_room s ok (drop (places s) room)))

-- ---- the pass over it
outcome_front : (r : List ℤ) (p : Passed) → outcome_of (with_rest r p) ≡ outcome_of p
outcome_front r (finished t) = refl
outcome_front r stopped = refl

pub cleared_limits : (s : Sheet) (room : List ℤ) → cleared (places s) (limit_table s room) ≡ cleared (places s) room
cleared_limits s room =
    ap (λ (r : List ℤ). replicate (places s) (pos 0) ++ r)
    (drop_at (table_of (boundaries s) (limit s)) (drop (places s) room) (places s) (length_table_of (boundaries s) (limit s)))

table_front : (s : Sheet) (room : List ℤ) (p : Passed) → table_after (boundaries s) (limit_table s room) (with_rest (drop (places s) room) p) ≡ table_left s p room
table_front s room (finished t) = refl
table_front s room stopped = cleared_limits s room

closed_here : (s : Sheet) (room : List ℤ) (r : Outcome) (after : List ℤ)
    → After (boundaries s) (limit_table s room) (pass_of (boundaries s) (limit_table s room)) r after → Closed s room r after
unfolding passed
closed_here s room r after h =
    let e = pass_front (boundaries s) (table_of (boundaries s) (limit s)) (drop (places s) room) (length_table_of (boundaries s) (limit s)) in
    record {
      outcome = h.outcome ∙ ap outcome_of e ∙ outcome_front (drop (places s) room) (passed s);
      table = h.table ∙ ap (table_after (boundaries s) (limit_table s room)) e ∙ table_front s room (passed s);
    }

pub limits_closed : (s : Sheet) (room filled : List ℤ) (r : Outcome) (after : List ℤ) (w : ℕ) → boundaries s ≡ w → filled ≡ limit_table s room
    → After w filled (pass_of w filled) r after → Closed s room r after
limits_closed s room filled r after w e f h =
    closed_here s room r after
    (subst (λ (n : ℕ). After n (limit_table s room) (pass_of n (limit_table s room)) r after) (sym e)
    (subst (λ (t : List ℤ). After w t (pass_of w t) r after) f h))
