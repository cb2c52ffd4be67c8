-- The answer of a sheet, as printing has it in its own arrays: the bytes that the page's definitions give for them are those of the sheet.
-- Key idea: a finished table's entries beside the diagonal are each slot's greatest and minus its least count; and inside the table of the limits the
-- entries are the limits, so the lines of a ring are the same for both.
use Rattle.std.specs.Prelude.{◌≡◌, List, [], ◌∷◌, T, get_or, drop, ℤ, pos}
use Rattle.std.proofs.Math.Path.{sym, ap}
use Rattle.std.proofs.Common.{◌∙◌, add-one}
use Prim.Native.Nat.{ℕ, zero, suc, ◌-◌, ◌*◌, ◌≤◌, ◌<◌}
use native.Mathlib.Omega.{arith}
use Rattle.std.proofs.Math.ListN.{length, length-append}
use Rattle.integers.specs.Parts.{up, dn, neg}
use Rattle.lists.specs.Values.{length_list_of}
use Rattle.network.specs.Table.{entry, table_of}
use Rattle.network.proofs.TableLaws.{length_table_of, entry_front}
use Rattle.network_pass.specs.Pass.{finished}
use Rattle.network_pass.proofs.PassLaws.{finished_kept}
use Rattle.sheet.specs.Sizes.{top_of, boundaries_of}
use Rattle.sheet.specs.Sheet.{Sheet, top, boundaries, limit, earliest, latest, earliest_slots, latest_slots, printed_plan, least_in, greatest_in, is_ring}
use Rattle.sheet.proofs.PlanLaws.{lawful_iff}
use Rattle.sheet.specs.Questions.{accepted, loaders_fit}
use Rattle.sheet.proofs.QuestionLaws.{accepted_sized, accepted_valid}
use Rattle.limits.specs.LimitTable.{limit_table}
use Rattle.limits.specs.LimitTableLaws.{limit_small}
use Rattle.plans.proofs.PrintedLaws.{some_printed}
use Rattle.plans.proofs.CountLaws.{greatest_entry, least_entry}
use Rattle.plan_rooms.specs.Rooms.{places}
use Rattle.plan_steps.specs.Closing.{passed}
use Rattle.plan_steps.specs.PassedLaws.{passed_solved}
use Rattle.pages.specs.Page.{Printable, table_page, least_from, greatest_from, fits_page, RingFits, none_page, max_page, max_ring_page}
use Rattle.pages.proofs.PageLaws.{SameSlots, plan_page_same, fits_page_same, none_page_same}
use Rattle.pages.proofs.PageBounds.{RingRead, ring_read, plan_short, none_fits}
use Rattle.pages.specs.SheetPages.{plan_bytes, fits_bytes, ring_bytes}
use Rattle.network.specs.Cycles.{Upto}
use Rattle.sheet.specs.Solved.{Solved}

module _ (s : Sheet) (ok : T (accepted s)) where
  pub boundaries_span : boundaries s ≡ boundaries_of s.span
  unfolding top
  boundaries_span = sym (add-one (top_of s.span))

  pub places_span : places s ≡ boundaries_of s.span * boundaries_of s.span
  places_span = ap (λ w. w * w) boundaries_span

  -- ---- a plan
  module _ (t : List ℤ) (e : passed s ≡ finished t) where
    pub table_size : length t ≡ places s
    unfolding passed
    table_size =
        let w = boundaries s in
        let n = length_table_of w (limit s) in
        (finished_kept w w 0 (table_of w (limit s)) t (omega arith) e).long ∙ n

    solved : Solved s (entry (boundaries s) t)
    solved = passed_solved s (accepted_valid s ok) t e

    pub seats_size : length (printed_plan s) ≡ length s.units
    seats_size = ((lawful_iff s (printed_plan s)).0 (some_printed s (entry (boundaries s) t) solved).legal).seated.size

    pub firsts_size : length (earliest_slots s) ≡ length s.units
    unfolding earliest_slots
    firsts_size = length_list_of (earliest s) (length s.units)

    pub lasts_size : length (latest_slots s) ≡ length s.units
    unfolding latest_slots
    lasts_size = length_list_of (latest s) (length s.units)

    pub plan_printable : (ks : List ℕ) → length ks ≡ length s.units → Printable s.span ks (printed_plan s) (earliest_slots s) (latest_slots s) t
    plan_printable ks long =
        let sized = accepted_sized s ok in
        record {
          slots = sized.slots.1;
          units = omega (arith, seats_size, sized.units);
          loaders = long ∙ sym seats_size;
          earliest = firsts_size ∙ sym seats_size;
          latest = lasts_size ∙ sym seats_size;
          entries = omega (arith, table_size, places_span);
        }

    least_same : SameSlots s.span (least_from (boundaries_of s.span) t) (λ k. least_in s k k)
    unfolding top
    least_same = record {
      each = λ k h m.
          let one : suc (k - 1) ≡ k = omega arith in
          let l = least_entry s (entry (boundaries s) t) solved (k - 1) k (omega arith) (omega arith) in
          ap (λ w. dn (entry w t k (k - 1))) (sym boundaries_span) ∙ ap dn (sym l) ∙ (neg (pos (least_in s (suc (k - 1)) k))).1 ∙ ap (λ i. least_in s i k) one;
    }

    greatest_same : SameSlots s.span (greatest_from (boundaries_of s.span) t) (λ k. greatest_in s k k)
    unfolding top
    greatest_same = record {
      each = λ k h m.
          let one : suc (k - 1) ≡ k = omega arith in
          let g = greatest_entry s (entry (boundaries s) t) solved (k - 1) k (omega arith) (omega arith) in
          ap (λ w. up (entry w t (k - 1) k)) (sym boundaries_span) ∙ ap up (sym g) ∙ ap (λ i. greatest_in s i k) one;
    }

    pub plan_bytes_lem : (ks : List ℕ) → table_page s.span ks (printed_plan s) (earliest_slots s) (latest_slots s) t ≡ plan_bytes ks s
    unfolding plan_bytes
    plan_bytes_lem ks = plan_page_same s.span ks (printed_plan s) (earliest_slots s) (latest_slots s) least_same greatest_same

    pub plan_fits : (ks : List ℕ) → T (loaders_fit ks)
        → length (table_page s.span ks (printed_plan s) (earliest_slots s) (latest_slots s) t) ≤ max_page
    unfolding plan_bytes
    plan_fits ks fit = omega (arith, ap length (plan_bytes_lem ks), plan_short s ok ks fit)

    pub fits_bytes_lem : fits_page s.span (length s.units) (least_from (boundaries_of s.span) t) (greatest_from (boundaries_of s.span) t) ≡ fits_bytes s
    unfolding fits_bytes
    fits_bytes_lem = fits_page_same s.span (length s.units) least_same greatest_same

  -- ---- a ring, and the table of the limits in front of some room
  module _ (ring : List ℕ) (h : T (is_ring s ring)) (room : List ℤ) (fits : places s ≤ length room) where
    read : RingRead (top s) ring
    read = ring_read s ring h

    inside : (most : ℕ) (c : List ℕ) → Upto most c → (i : ℕ) → i < length c → get_or c i 0 ≤ most
    inside most [] u i l = absurd (omega arith)
    inside most (b ∷ bs) u zero l = u.0
    inside most (b ∷ bs) u (suc i) l = inside most bs u.1 i (omega arith)

    limits_are : (a b : ℕ) → a < boundaries_of s.span → b < boundaries_of s.span → entry (boundaries_of s.span) (limit_table s room) a b ≡ limit s a b
    limits_are a b ha hb =
        ap (λ w. entry w (limit_table s room) a b) (sym boundaries_span)
        ∙ entry_front (boundaries s) (limit s) (drop (boundaries s * boundaries s) room) a b (omega (arith, boundaries_span)) (omega (arith, boundaries_span))

    pub ring_printable : RingFits (boundaries_of s.span) (limit_table s room) ring
    unfolding top
    ring_printable =
        let sized = accepted_sized s ok in
        record {
          boundaries = omega (arith, sized.slots.1);
          entries = omega (
            arith,
            places_span,
            length-append (table_of (boundaries s) (limit s)) (drop (places s) room),
            length_table_of (boundaries s) (limit s),
          );
          some = omega (arith, read.long);
          few = omega (arith, read.few, sized.slots.1);
          inside = λ i l. omega (arith, inside (top s) ring read.upto i l);
          small = λ a b ha hb. rw (limits_are a b ha hb) (limit_small s ok a b);
        }

    pub ring_bytes_lem : none_page (entry (boundaries_of s.span) (limit_table s room)) ring ≡ ring_bytes s ring
    unfolding ring_bytes top
    ring_bytes_lem =
        none_page_same (top s) (entry (boundaries_of s.span) (limit_table s room)) (limit s)
        (λ a b ha hb. limits_are a b (omega arith) (omega arith)) ring read.upto

    pub ring_fits : length (none_page (entry (boundaries_of s.span) (limit_table s room)) ring) ≤ max_ring_page
    unfolding ring_bytes
    ring_fits = omega (arith, ap length ring_bytes_lem, none_fits s ok ring h)
