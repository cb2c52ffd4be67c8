-- Counts and the seat property leave one plan only.
-- Key idea: two such plans agree on who sits by the end of slot s, for s = 0, 1, .. in turn. If unit j sits in slot s+1 in one and later in the other,
-- the counts give a unit i that sits in slot s+1 in the other and later in the first; then each of i and j would come before the other.
use Rattle.std.specs.Prelude.{◌≡◌, Bool, ◌&&◌, ℕ, zero, suc, ◌≤◌, ◌<◌, ltb}
use Rattle.std.proofs.Common.{sym, inl, inr, arith, ltb→lt, lt→ltb}
use Rattle.std.proofs.Math.Decide.{ℕ_discrete, dec_le}
use Rattle.lists.specs.Members.{both, left, right, within_iff}
use Rattle.lists.specs.Counts.{count_or, count_lt, count_find}
use Rattle.plans.specs.Seating.{seated_by, Complete}
use Rattle.plans.proofs.OrderLaws.{not_both}

-- x's seats by the end of slot s are y's
abbrev Half : ℕ → (ℕ → ℕ) → (ℕ → ℕ) → ℕ → Type 0
Half n x y s = (j : ℕ) → j < n → x j ≤ s → y j ≡ x j

module _ (n top : ℕ) (first last : ℕ → ℕ) (window : (j : ℕ) → j < n → (1 ≤ first j) × (first j ≤ last j) × (last j ≤ top)) where
  module _ (zx zy x y : ℕ → ℕ) (cx : Complete n top first last zx x) (cy : Complete n top first last zy y) (s : ℕ) (hs : s ≤ top) (e : zx s ≡ zy s) where
    -- where unit j sits by the end of slot s in x and later in y, some unit does the contrary
    contrary : (j : ℕ) → j < n → x j ≤ s → s < y j → (i : ℕ) × (i < n) × (y i ≤ s) × (s < x i)
    contrary j hj l late =
        let t : ℕ → Bool = (λ i. seated_by y s i && seated_by x s i) in
        let u : ℕ → Bool = (λ i. seated_by y s i && ltb s (x i)) in
        let fewer = count_lt n t (seated_by x s) j hj ((within_iff 1 s (x j)).1 (omega (arith, cx.seated j hj, window j hj)))
        (λ p. let r = (within_iff 1 s (y j)).0 (left (seated_by y s j) (seated_by x s j) p) in omega arith)
        (λ i hi p. right (seated_by y s i) (seated_by x s i) p) in
        let split = count_or n (seated_by y s) t u (λ i hi p. elim (dec_le (x i) s) [
          | yes c ↦ inl (both (seated_by y s i) (seated_by x s i) p ((within_iff 1 s (x i)).1 (omega (arith, cx.seated i hi, window i hi))))
          | no c ↦ inr (both (seated_by y s i) (ltb s (x i)) p (lt→ltb s (x i) (omega arith)))
        ]) in
        let f = count_find n u (omega (arith, fewer, split, e, cx.counts s hs, cy.counts s hs)) in
        let i = f.0 in
        (i, f.1, ((within_iff 1 s (y i)).0 (left (seated_by y s i) (ltb s (x i)) f.2)).1, ltb→lt s (x i) (right (seated_by y s i) (ltb s (x i)) f.2))

  half_step : (zx zy x y : ℕ → ℕ) → Complete n top first last zx x → Complete n top first last zy y
      → (s : ℕ) → suc s ≤ top → zx (suc s) ≡ zy (suc s) → Half n x y s → Half n y x s → Half n x y (suc s)
  half_step zx zy x y cx cy s hs e h g j hj l = elim (ℕ_discrete (y j) (x j)) [
    | yes q ↦ q
    | no ne ↦
        let here : x j ≡ suc s = elim (dec_le (x j) s) [ yes c ↦ absurd (ne (h j hj c)) | no c ↦ omega arith ] in
        let late : suc s < y j = elim (dec_le (y j) s) [ yes c ↦ absurd (ne (sym (g j hj c))) | no c ↦ omega arith ] in
        absurd (clash here late (contrary zx zy x y cx cy (suc s) hs e j hj l late))
  ]
    where
      clash : x j ≡ suc s → suc s < y j → (i : ℕ) × (i < n) × (y i ≤ suc s) × (suc s < x i) → ⊥
      clash here late (i, hi, yi, xi) =
          let now : y i ≡ suc s = elim (dec_le (y i) s) [ yes c ↦ absurd (omega (arith, g i hi c)) | no c ↦ omega arith ] in
          not_both last i j (cy.fair i j hi hj (omega arith) (omega (arith, cx.seated j hj)))
          (cx.fair j i hj hi (omega arith) (omega (arith, cy.seated i hi)))

  module _ (zx zy x y : ℕ → ℕ) (cx : Complete n top first last zx x) (cy : Complete n top first last zy y) (e : (b : ℕ) → 1 ≤ b → b ≤ top → zx b ≡ zy b) where
    halves : (s : ℕ) → s ≤ top → Half n x y s × Half n y x s
    halves zero hs =
        ((λ j h l. absurd (omega (arith, cx.seated j h, window j h))), (λ j h l. absurd (omega (arith, cy.seated j h, window j h))))
    halves (suc s) hs =
        let r = halves s (omega arith) in
        let q = e (suc s) (omega arith) hs in
        (half_step zx zy x y cx cy s hs q r.0 r.1, half_step zy zx y x cy cx s hs (sym q) r.1 r.0)

    pub complete_unique : (j : ℕ) → j < n → y j ≡ x j
    complete_unique j h = (halves (x j) (omega (arith, cx.seated j h, window j h))).0 j h (omega arith)
