-- From planning in arrays of the call's own to what the call leaves.
-- Key idea: the own arrays say how the pass over the sheet's limits ended, and that alone decides what planning would reply and leave in the rooms lent.
use Rattle.std.specs.Prelude.{◌≡◌, refl, Bool, true, false, List, [], ℕ, ◌*◌, ◌≤◌, T, length, take, drop, ℤ}
use Rattle.std.proofs.Common.{sym, ap, ◌∙◌, subst, arith, take_at}
use Rattle.network.specs.Table.{cleared, entry}
use Rattle.network_pass.specs.Pass.{Passed, finished, stopped}
use Rattle.sheet.specs.Sizes.{boundaries_of}
use Rattle.sheet.specs.Sheet.{Sheet, printed_plan, earliest_slots, latest_slots, is_ring}
use Rattle.limits.specs.LimitTable.{limit_table}
use Rattle.sheet.specs.Questions.{accepted}
use Rattle.plan_rooms.specs.Rooms.{Rooms, lent, places}
use Rattle.plan_steps.specs.Closing.{passed}
use Rattle.plan_answers.specs.Planning.{planned, ringed, by_pass, Settled}
use Rattle.plan_answers.specs.Reply as planning
use Rattle.pages.specs.Page.{table_page, none_page}
use Rattle.pages.specs.SheetPages.{ring_bytes}
use Rattle.print_answer.specs.Printing.{holds, Asked, PrintingOf}
use Rattle.lists.specs.Lists.{on_front}
use Rattle.print_solved.specs.BytesLaws.{boundaries_span, table_size, seats_size, firsts_size, lasts_size, plan_bytes_lem, ring_bytes_lem}
use Rattle.print_answer.specs.Reply as says

-- ---- how the pass ended, from what planning replied
-- two of its replies are never the same
differ : {a b : planning.Reply} → a ≡ b → {A : Type 0} → ((a ≡ b) → ◌≡◌ {A = ℕ} 0 1) → A
differ e f = absurd (let z = f e in omega arith)

module _ (s : Sheet) (own after : Rooms) where
  pub plan_left : Settled (by_pass (passed s)) s own planning.plan after → (t : List ℤ) × (passed s ≡ finished t) × (after ≡ planned s t own)
  plan_left = go (passed s)
    where
      go : (p : Passed) → Settled (by_pass p) s own planning.plan after → (t : List ℤ) × (p ≡ finished t) × (after ≡ planned s t own)
      go (finished t) h = (t, refl, h.1)
      go stopped h = differ h.2 (λ e. cc)

  pub none_left : (k : ℕ) → Settled (by_pass (passed s)) s own (planning.none k) after
      → (c : List ℕ) × T (is_ring s c) × (k ≡ length c) × (passed s ≡ stopped) × (after ≡ ringed s c own)
  none_left k = go (passed s)
    where
      go : (p : Passed) → Settled (by_pass p) s own (planning.none k) after
          → (c : List ℕ) × T (is_ring s c) × (k ≡ length c) × (p ≡ stopped) × (after ≡ ringed s c own)
      go (finished t) h = differ h.0 (λ e. cc)
      go stopped h = let e : planning.none k ≡ planning.none (length h.0) = h.2 in (h.0, h.1, cc, refl, h.3)

-- ---- rooms that a part of the call does not see
with_ring : (b : Bool) (told : ℕ → says.Reply) (bytes : List ℕ) (t t₁ t₂ : List ℤ) (p p₁ p₂ e e₁ e₂ l l₁ l₂ ring page : List ℕ) (at : ℕ)
    (reply : says.Reply) (left : List ℕ)
    → Asked b told bytes (lent t p e l []) (lent t₁ p₁ e₁ l₁ []) page at reply (lent t₂ p₂ e₂ l₂ []) left
    → Asked b told bytes (lent t p e l ring) (lent t₁ p₁ e₁ l₁ ring) page at reply (lent t₂ p₂ e₂ l₂ ring) left
with_ring true told bytes t t₁ t₂ p p₁ p₂ e e₁ e₂ l l₁ l₂ ring page at reply left o =
    record { replied = o.replied; lent = ap (λ r. lent r.table r.plan r.earliest r.latest ring) o.lent; shown = o.shown }
with_ring false told bytes t t₁ t₂ p p₁ p₂ e e₁ e₂ l l₁ l₂ ring page at reply left o =
    record { replied = o.replied; lent = ap (λ r. lent r.table r.plan r.earliest r.latest ring) o.lent; shown = o.shown }

with_plan : (b : Bool) (told : ℕ → says.Reply) (bytes : List ℕ) (t t₁ t₂ : List ℤ) (p e l r r₁ r₂ page : List ℕ) (at : ℕ) (reply : says.Reply) (left : List ℕ)
    → Asked b told bytes (lent t [] [] [] r) (lent t₁ [] [] [] r₁) page at reply (lent t₂ [] [] [] r₂) left
    → Asked b told bytes (lent t p e l r) (lent t₁ p e l r₁) page at reply (lent t₂ p e l r₂) left
with_plan true told bytes t t₁ t₂ p e l r r₁ r₂ page at reply left o =
    record { replied = o.replied; lent = ap (λ q. lent q.table p e l q.ring) o.lent; shown = o.shown }
with_plan false told bytes t t₁ t₂ p e l r r₁ r₂ page at reply left o =
    record { replied = o.replied; lent = ap (λ q. lent q.table p e l q.ring) o.lent; shown = o.shown }

-- ---- what the call leaves
module _ (ks : List ℕ) (s : Sheet) (ok : T (accepted s)) (table : List ℤ) (plan earliest latest ring page : List ℕ) (at : ℕ) where
  abbrev before : Rooms
  before = lent table plan earliest latest ring

  module _ (reply : says.Reply) (left : List ℕ) where
    -- a plan
    pub plan_printed : (t : List ℤ) → passed s ≡ finished t → (table' : List ℤ) (plan' earliest' latest' : List ℕ)
        → (let bytes = table_page s.span ks (printed_plan s) (earliest_slots s) (latest_slots s) t in
        Asked (holds page at bytes) says.plan bytes (lent table plan earliest latest [])
        (lent (on_front t table) (on_front (printed_plan s) plan) (on_front (earliest_slots s) earliest) (on_front (latest_slots s) latest) [])
        page at reply (lent table' plan' earliest' latest' []) left)
        → PrintingOf (by_pass (passed s)) ks s before page at reply (lent table' plan' earliest' latest' ring) left
    plan_printed t e table' plan' earliest' latest' o =
        let n = length s.units in
        let rooms : lent (on_front t table) (on_front (printed_plan s) plan) (on_front (earliest_slots s) earliest) (on_front (latest_slots s) latest) ring
        ≡ planned s t before =
        rw (table_size s ok t e, seats_size s ok t e, firsts_size s ok t e, lasts_size s ok t e) refl in
        let bytes = table_page s.span ks (printed_plan s) (earliest_slots s) (latest_slots s) t in
        record {
          answer = planning.plan;
          planned = planned s t before;
          call = subst (λ p. Settled (by_pass p) s before planning.plan (planned s t before)) (sym e) (refl, refl);
          shown =
              subst (λ bs. Asked (holds page at bs) says.plan bs before (planned s t before) page at reply (lent table' plan' earliest' latest' ring) left)
              (plan_bytes_lem s ok t e ks)
              (subst (λ r. Asked (holds page at bytes) says.plan bytes before r page at reply (lent table' plan' earliest' latest' ring) left) rooms
              (with_ring (holds page at bytes) says.plan bytes table (on_front t table) table' plan (on_front (printed_plan s) plan) plan' earliest
              (on_front (earliest_slots s) earliest) earliest' latest (on_front (latest_slots s) latest) latest' ring page at reply left o));
        }

    -- none
    pub ring_printed : (c : List ℕ) (h : T (is_ring s c)) → passed s ≡ stopped → (w : ℕ) → w ≡ boundaries_of s.span → (room : List ℤ) → places s ≤ length room
        → (table' : List ℤ) (ring' : List ℕ)
        → (let bytes = none_page (entry w (limit_table s room)) c in
        Asked (holds page at bytes) (says.none (length c)) bytes (lent table [] [] [] ring) (lent (cleared (w * w) table) [] [] [] (on_front c ring))
        page at reply (lent table' [] [] [] ring') left)
        → PrintingOf (by_pass (passed s)) ks s before page at reply (lent table' plan earliest latest ring') left
    ring_printed c h e w sw room fits table' ring' o =
        let bytes = none_page (entry w (limit_table s room)) c in
        let rooms : lent (cleared (w * w) table) plan earliest latest (on_front c ring) ≡ ringed s c before =
        ap (λ k. lent (cleared (k * k) table) plan earliest latest (on_front c ring)) (sw ∙ sym (boundaries_span s ok)) in
        let found : take (length c) (ringed s c before).ring ≡ c = take_at c (drop (length c) ring) (length c) refl in
        let same : bytes ≡ ring_bytes s (take (length c) (ringed s c before).ring) =
        ap (λ k. none_page (entry k (limit_table s room)) c) sw ∙ ring_bytes_lem s ok c h room fits ∙ ap (ring_bytes s) (sym found) in
        record {
          answer = planning.none (length c);
          planned = ringed s c before;
          call = subst (λ p. Settled (by_pass p) s before (planning.none (length c)) (ringed s c before)) (sym e) (c, h, refl, refl);
          shown =
              subst (λ bs. Asked (holds page at bs) (says.none (length c)) bs before (ringed s c before) page at reply
              (lent table' plan earliest latest ring') left) same
              (subst (λ r. Asked (holds page at bytes) (says.none (length c)) bytes before r page at reply (lent table' plan earliest latest ring') left) rooms
              (with_plan (holds page at bytes) (says.none (length c)) bytes table (cleared (w * w) table) table' plan earliest latest ring
              (on_front c ring) ring' page at reply left o));
        }
