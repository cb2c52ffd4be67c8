-- A plan is lawful for the merged sheet exactly when it respects all windows and all rules of both over all units together.
-- Key idea: a count is from the largest low to the smallest high exactly when it is from the low to the high of each rule on the stretch; and every rule's
-- stretch is that of some first rule.
use Rattle.std.specs.Prelude.{◌≡◌, refl, ◌↔◌, Bool, true, false, not, List, [], ◌∷◌, ◌++◌, map, ℕ, ◌≤◌, eqb}
use Rattle.std.proofs.Common.{sym, ap, ap₂, ◌∙◌, ⊎_elim, arith, eqb→eq, eq-eqb}
use Rattle.std.proofs.Math.Path.{subst}
use mathlib.Core.List.Memᴰ
use Rattle.std.proofs.lemmas.List.{map-append}
use Rattle.std.proofs.Math.Dec.{T}
use Rattle.slots.specs.Slots.{Slot}
use Rattle.lists.specs.Lists.{within, every, keep, least, greatest}
use Rattle.lists.specs.Members.{In, both, left, right, within_iff, in_keep, keep_in, in_map, map_in, every_in, in_every, every_append, every_both}
use Rattle.lists.specs.Extremes.{greatest_ge, greatest_in_lem, least_le, least_in_lem}
use Rattle.sheet.specs.Sheet.{Rule, WrittenSheet, constraints, on_stretch, count_in, in_windows, obeys, lawful}
use Rattle.merge_sheets.specs.Merge.{firsts, combined_on, merged_rules, merged}

-- ---- stretches

pub same_stretch : (f t : Slot) (r : Rule) → T (on_stretch f t r) → (r.from ≡ f) × (r.to ≡ t)
same_stretch f t r h = (eqb→eq r.from f (left (eqb r.from f) (eqb r.to t) h), eqb→eq r.to t (right (eqb r.from f) (eqb r.to t) h))

on_stretch_lem : (f t : Slot) (r : Rule) → r.from ≡ f → r.to ≡ t → T (on_stretch f t r)
on_stretch_lem f t r e g = rw (eq-eqb r.from f e, eq-eqb r.to t g) tt

-- the stretch of each rule is that of a first one
has_first : (rs : List Rule) (r : Rule) → In r rs → (q : Rule) × In q (firsts rs) × (q.from ≡ r.from) × (q.to ≡ r.to)
unfolding firsts
has_first [] r m = absurd (Memᴰ.not-nil m)
has_first (h ∷ rs) r m =
    ⊎_elim (λ (e : r ≡ h). (h, Memᴰ.head refl, ap (λ (x : Rule). x.from) (sym e), ap (λ (x : Rule). x.to) (sym e)))
    (λ k. go (has_first rs r k)) (Memᴰ.cases_cons m)
  where
    others : Rule → Bool
    others p = not (on_stretch h.from h.to p)

    go : (q : Rule) × In q (firsts rs) × (q.from ≡ r.from) × (q.to ≡ r.to)
        → (q : Rule) × In q (h ∷ keep others (firsts rs)) × (q.from ≡ r.from) × (q.to ≡ r.to)
    go (q, i, e, f) = pick (on_stretch h.from h.to q) refl
      where
        pick : (b : Bool) → on_stretch h.from h.to q ≡ b
            → (p : Rule) × In p (h ∷ keep others (firsts rs)) × (p.from ≡ r.from) × (p.to ≡ r.to)
        pick true w =
            let s = same_stretch h.from h.to q (subst T (sym w) tt) in
            (h, Memᴰ.head refl, sym s.0 ∙ e, sym s.1 ∙ f)
        pick false w = (q, Memᴰ.tail (keep_in others q (firsts rs) i (subst (λ (b : Bool). T (not b)) (sym w) tt)), e, f)

-- and a first rule is one of them
first_is : (rs : List Rule) (q : Rule) → In q (firsts rs) → In q rs
unfolding firsts
first_is [] q m = absurd (Memᴰ.not-nil m)
first_is (h ∷ rs) q m =
    ⊎_elim (λ e. Memᴰ.head e)
    (λ k. Memᴰ.tail (first_is rs q (in_keep (λ p. not (on_stretch h.from h.to p)) q (firsts rs) k).0)) (Memᴰ.cases_cons m)

-- so a merged rule is the combined one of some rule's stretch
pub merged_is : (rs : List Rule) (c : Rule) → In c (merged_rules rs) → (q : Rule) × In q rs × (c ≡ combined_on rs q.from q.to)
unfolding merged_rules
merged_is rs c m =
    let q = in_map (λ (x : Rule). combined_on rs x.from x.to) c (firsts rs) m in
    (q.0, first_is rs q.0 q.1, q.2)

-- ---- the combined bounds of a stretch

-- a count within them is within those of each rule on the stretch
tight_each : (plan : List Slot) (rs : List Rule) (f t : Slot) → T (obeys plan (combined_on rs f t))
    → (r : Rule) → In r rs → r.from ≡ f → r.to ≡ t → T (obeys plan r)
tight_each plan rs f t h r m e g =
    let n = count_in f t plan in
    let on = keep (on_stretch f t) rs in
    let in_on = keep_in (on_stretch f t) r rs m (on_stretch_lem f t r e g) in
    let b = (within_iff (combined_on rs f t).low (combined_on rs f t).high n).0 h in
    let lo = greatest_ge r.low (map (λ (x : Rule). x.low) on) (map_in (λ (x : Rule). x.low) r on in_on) in
    let hi = least_le r.high (map (λ (x : Rule). x.high) on) (map_in (λ (x : Rule). x.high) r on in_on) in
    subst (λ (k : ℕ). T (within r.low r.high k)) (ap₂ (λ (x y : Slot). count_in x y plan) (sym e) (sym g))
    ((within_iff r.low r.high n).1 (omega (arith, b.0), omega (arith, b.1)))

-- the low is the low of some rule on it, and the high the high of one
module _ (rs : List Rule) (q : Rule) (m : In q rs) where
  abbrev here : List Rule
  here = keep (on_stretch q.from q.to) rs

  own : In q here
  own = keep_in (on_stretch q.from q.to) q rs m (on_stretch_lem q.from q.to q refl refl)

  attained : (col : Rule → ℕ) (pick : List ℕ → ℕ) → ((x : ℕ) (xs : List ℕ) → In x xs → In (pick xs) xs)
      → (r : Rule) × In r rs × T (on_stretch q.from q.to r) × (pick (map col here) ≡ col r)
  attained col pick pick-in =
      let p = in_map col (pick (map col here)) here (pick-in (col q) (map col here) (map_in col q here own)) in
      let k = in_keep (on_stretch q.from q.to) p.0 rs p.1 in
      (p.0, k.0, k.1, p.2)

  low_is : (r : Rule) × In r rs × T (on_stretch q.from q.to r) × ((combined_on rs q.from q.to).low ≡ r.low)
  low_is = attained (λ x. x.low) greatest greatest_in_lem

  pub high_is : (r : Rule) × In r rs × T (on_stretch q.from q.to r) × ((combined_on rs q.from q.to).high ≡ r.high)
  high_is = attained (λ x. x.high) least least_in_lem

-- ---- rules

module _ (plan : List Slot) (rs : List Rule) where
  -- so a count within the bounds of each rule is within the combined ones
  each_tight : (q : Rule) → In q rs → ((r : Rule) → In r rs → T (obeys plan r)) → T (obeys plan (combined_on rs q.from q.to))
  each_tight q m all =
      let c = combined_on rs q.from q.to in
      let lo = low_is rs q m in
      let hi = high_is rs q m in
      let a = bounds lo.0 lo.1 lo.2 in
      let b = bounds hi.0 hi.1 hi.2 in
      (within_iff c.low c.high (count_in q.from q.to plan)).1 (omega (arith, lo.3, a.0), omega (arith, hi.3, b.1))
    where
      bounds : (r : Rule) → In r rs → T (on_stretch q.from q.to r)
          → (r.low ≤ count_in q.from q.to plan) × (count_in q.from q.to plan ≤ r.high)
      bounds r k t =
          let s = same_stretch q.from q.to r t in
          let c = (within_iff r.low r.high (count_in r.from r.to plan)).0 (all r k) in
          let e = ap₂ (λ (x y : Slot). count_in x y plan) s.0 s.1 in
          (omega (arith, c.0), omega (arith, c.1))

  -- a plan obeys the merged rules exactly when it obeys every rule
  pub merged_obeyed : T (every (obeys plan) (merged_rules rs)) ↔ T (every (obeys plan) rs)
  unfolding merged_rules
  merged_obeyed =
      let on : Rule → Rule = λ x. combined_on rs x.from x.to in (
        λ h. in_every (obeys plan) rs (λ r m.
            let q = has_first rs r m in
            tight_each plan rs q.0.from q.0.to (every_in (obeys plan) (on q.0) (map on (firsts rs)) (map_in on q.0 (firsts rs) q.1) h)
            r m (sym q.2) (sym q.3)),
        λ h. in_every (obeys plan) (map on (firsts rs)) (λ c m.
            let q = merged_is rs c m in
            subst (λ (x : Rule). T (obeys plan x)) (sym q.2) (each_tight q.0 q.1 (λ r k. every_in (obeys plan) r rs k h))),
      )

-- ---- sheets

-- the windows are those of the first sheet, then those of the second
pub merged_windows : (a b : WrittenSheet) → (constraints (merged a b)).units ≡ (constraints a).units ++ (constraints b).units
unfolding merged
merged_windows a b = map-append (λ u. u.window) a.units b.units

pub merged_lawful : (a b : WrittenSheet) (plan : List Slot) → T (lawful (constraints (merged a b)) plan)
    ↔ (T (in_windows ((constraints a).units ++ (constraints b).units) plan) × T (every (obeys plan) a.rules) × T (every (obeys plan) b.rules))
unfolding merged lawful
merged_lawful a b plan =
    let all = obeys plan in
    let units = (constraints (merged a b)).units in
    let windows = merged_windows a b in
    let split = every_append all a.rules b.rules in
    let rules = merged_obeyed plan (a.rules ++ b.rules) in (
      λ t.
          let obeyed = subst T split (rules.0 (right (in_windows units plan) (every all (merged a b).rules) t)) in (
            subst (λ ws. T (in_windows ws plan)) windows (left (in_windows units plan) (every all (merged a b).rules) t),
            left (every all a.rules) (every all b.rules) obeyed,
            right (every all a.rules) (every all b.rules) obeyed,
          ),
      λ t.
          both (in_windows units plan) (every all (merged a b).rules) (subst (λ ws. T (in_windows ws plan)) (sym windows) t.0)
          (rules.1 (every_both all a.rules b.rules t.1 t.2)),
    )
