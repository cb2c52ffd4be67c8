-- The printed plan is one, and seating by deadline makes it from the greatest counts.
-- Key idea: a plan that is lawful, soonest and fair is a complete seating, and two of these with the same counts are equal (UniquenessLaws). Row 0 of the
-- finished table has the greatest counts, so the plan seated from it is such a plan.
use Rattle.std.specs.Prelude.{◌≡◌, refl, ◌⊎◌, ◌&&◌, List, [], ◌∷◌, ℕ, ◌≤◌, ◌<◌, T, eqb, length, ℤ, pos}
use Rattle.std.proofs.Common.{sym, ap, ◌∙◌, subst, inl, inr, ⊎_elim, arith, eq-or-lt_of_le, eqb→eq, ext_get_or}
use mathlib.Core.List.Memᴰ
use Rattle.std.proofs.Math.Dec.{eqb_refl}
use Rattle.integers.specs.Parts.{up, ints, sum}
use Rattle.lists.specs.Lists.{within, from_to}
use Rattle.lists.specs.Members.{In, both, left, right, within_iff, in_keep, keep_in, every_in, in_every, in_from_to}
use Rattle.lists.specs.Counts.{count, how_many_count}
use Rattle.network.specs.Network.{Weights}
use Rattle.network.proofs.ClosureLaws.{row_feasible}
use Rattle.sheet.specs.Sheet.{Sheet, top, limit, count_in, lawful, lawful_plans, greatest_in, soonest, fair, head_or, printed_plans, printed_plan}
use Rattle.sheet.proofs.PlanLaws.{Seated, lawful_iff, in_lawful_plans}
use Rattle.plans.specs.Seating.{at, seated_by, Complete, seats_of}
use Rattle.plans.proofs.UniquenessLaws.{complete_unique}
use Rattle.plans.proofs.FairLaws.{firsts, lasts, fair_read}
use Rattle.plans.proofs.FeasibleLaws.{Rises, seats_lawful, seats_fair, seats_count}
use Rattle.plans.proofs.CountLaws.{greatest_entry}
use Rattle.sheet.specs.Solved.{Valid, Solved}

pub record Printed (s : Sheet) (x : List ℕ) : Type 0 where
  pub legal : T (lawful s x)
  pub early : (b : ℕ) → 1 ≤ b → b ≤ top s → count_in 1 b x ≡ greatest_in s 1 b
  pub order : T (fair s x)

-- ---- the list of printed plans
soonest_read : (s : Sheet) (x : List ℕ) → T (soonest s x) → (b : ℕ) → 1 ≤ b → b ≤ top s → count_in 1 b x ≡ greatest_in s 1 b
unfolding soonest
soonest_read s x t b h k = eqb→eq (count_in 1 b x) (greatest_in s 1 b)
    (every_in (λ (c : ℕ). eqb (count_in 1 c x) (greatest_in s 1 c)) b (from_to 1 (top s)) ((in_from_to 1 (top s) b).1 ((within_iff 1 (top s) b).1 (h, k))) t)

soonest_make : (s : Sheet) (x : List ℕ) → ((b : ℕ) → 1 ≤ b → b ≤ top s → count_in 1 b x ≡ greatest_in s 1 b) → T (soonest s x)
unfolding soonest
soonest_make s x f = in_every (λ (c : ℕ). eqb (count_in 1 c x) (greatest_in s 1 c)) (from_to 1 (top s))
    (λ b m. let w = (within_iff 1 (top s) b).0 ((in_from_to 1 (top s) b).0 m) in
    subst (λ (k : ℕ). T (eqb (count_in 1 b x) k)) (f b w.0 w.1) (eqb_refl (count_in 1 b x)))

pub in_printed_plans : (s : Sheet) (x : List ℕ) → In x (printed_plans s) → Printed s x
unfolding printed_plans
in_printed_plans s x m =
    let p = in_keep (λ plan. soonest s plan && fair s plan) x (lawful_plans s) m in
    record {
      legal = (in_lawful_plans s x).0 p.0;
      early = soonest_read s x (left (soonest s x) (fair s x) p.1);
      order = right (soonest s x) (fair s x) p.1;
    }

pub printed_plans_in : (s : Sheet) (x : List ℕ) → Printed s x → In x (printed_plans s)
unfolding printed_plans
printed_plans_in s x h = keep_in (λ plan. soonest s plan && fair s plan) x (lawful_plans s) ((in_lawful_plans s x).1 h.legal)
    (both (soonest s x) (fair s x) (soonest_make s x h.early) h.order)

-- the printed plan is lawful, or there is none
pub printed_or_none : (s : Sheet) → (printed_plan s ≡ []) ⊎ In (printed_plan s) (lawful_plans s)
unfolding printed_plan printed_plans
printed_or_none s = go (printed_plans s) (λ x m. (in_keep (λ plan. soonest s plan && fair s plan) x (lawful_plans s) m).0)
  where
    go : (xs : List (List ℕ)) → ((x : List ℕ) → In x xs → In x (lawful_plans s)) → (head_or [] xs ≡ []) ⊎ In (head_or [] xs) (lawful_plans s)
    go [] h = inl refl
    go (x ∷ xs) h = inr (h x (Memᴰ.head refl))

module _ (s : Sheet) (ok : Valid s) where
  seats : (x : List ℕ) → T (lawful s x) → Seated s.units x
  seats x l = ((lawful_iff s x).0 l).seated

  pub complete : (x : List ℕ) → Printed s x → Complete (length s.units) (top s) (firsts s) (lasts s) (λ b. count_in 1 b x) (at x)
  complete x h = record {
    seated = (seats x h.legal).inside;
    counts = λ b hb. sym (how_many_count (within 1 b) 0 x ∙ ap (λ (m : ℕ). count m (seated_by (at x) b)) (seats x h.legal).size);
    fair = fair_read s x h.order;
  }

  pub printed_unique : (x y : List ℕ) → Printed s x → Printed s y → y ≡ x
  printed_unique x y hx hy =
      let sx = seats x hx.legal in
      let sy = seats y hy.legal in
      ext_get_or 0 y x (sy.size ∙ sym sx.size) (λ j h.
      complete_unique (length s.units) (top s) (firsts s) (lasts s) ok.windows (λ b. count_in 1 b x) (λ b. count_in 1 b y) (at x) (at y)
      (complete x hx) (complete y hy) (λ b h1 hb. hx.early b h1 hb ∙ sym (hy.early b h1 hb)) j (omega (arith, sy.size)))

  head_in : (xs : List (List ℕ)) (x : List ℕ) → In x xs → In (head_or [] xs) xs
  head_in [] x m = absurd (Memᴰ.not-nil m)
  head_in (y ∷ ys) x m = Memᴰ.head refl

  -- what is lawful, soonest and fair is the printed plan
  printed_is : (x : List ℕ) → Printed s x → printed_plan s ≡ x
  unfolding printed_plan
  printed_is x h = printed_unique x (printed_plan s) h (in_printed_plans s (printed_plan s) (head_in (printed_plans s) x (printed_plans_in s x h)))

-- ---- a finished table
module _ (s : Sheet) (D : Weights) (S : Solved s D) where
  row_greatest : (b : ℕ) → 1 ≤ b → b ≤ top s → pos (greatest_in s 1 b) ≡ D 0 b
  row_greatest b h hb = greatest_entry s D S 0 b h hb

  -- row 0 counts from 0
  pub row_nonneg : (b : ℕ) → b ≤ top s → D 0 b ≡ pos (up (D 0 b))
  row_nonneg b hb = ⊎_elim
      (λ (e : 0 ≡ b). subst (λ (v : ℕ). D 0 v ≡ pos (up (D 0 v))) e (own (S.finished.diagonal 0 (omega arith))))
      (λ (h : 0 < b). own (sym (row_greatest b h hb))) (eq-or-lt_of_le (omega arith))
    where
      own : {z : ℤ} {k : ℕ} → z ≡ pos k → z ≡ pos (up z)
      own e = e ∙ ap (λ (y : ℤ). pos (up y)) (sym e)

  -- the plan seated from row 0
  module _ (first last c : ℕ → ℕ) (opens : (j : ℕ) → j < length s.units → first j ≡ firsts s j)
      (closes : (j : ℕ) → j < length s.units → last j ≡ lasts s j) (row : (b : ℕ) → b ≤ top s → c b ≡ up (D 0 b)) where
    pub rises : Rises s (D 0) first last c
    rises = record {
      opens = opens;
      closes = closes;
      rise = λ b hb. omega (ints, row b hb, row_nonneg b hb, S.finished.diagonal 0 (omega arith), sum (D 0 0) (pos (c b)));
    }

    seats_printed : Printed s (seats_of (length s.units) (top s) first last c)
    seats_printed =
        let f = row_feasible (top s) (limit s) D S.finished 0 (omega arith) in
        record {
          legal = seats_lawful s S.valid (D 0) f first last c rises;
          order = seats_fair s S.valid (D 0) f first last c rises;
          early = λ b h hb.
              omega (arith, row b hb, ap up (row_greatest b h hb), seats_count s S.valid (D 0) f first last c rises b hb);
        }

    pub seats_are_printed : seats_of (length s.units) (top s) first last c ≡ printed_plan s
    seats_are_printed = sym (printed_is s S.valid (seats_of (length s.units) (top s) first last c) seats_printed)

  -- the printed plan is lawful, soonest and fair
  pub some_printed : Printed s (printed_plan s)
  some_printed =
      let c : ℕ → ℕ = (λ b. up (D 0 b)) in
      subst (Printed s) (seats_are_printed (firsts s) (lasts s) c (λ j h. refl) (λ j h. refl) (λ b h. refl))
      (seats_printed (firsts s) (lasts s) c (λ j h. refl) (λ j h. refl) (λ b h. refl))
