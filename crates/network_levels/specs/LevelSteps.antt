-- The levels, row by row, and what is read from them.
-- Key idea: row k + 1 is made from row k by the steps from each boundary, and the rows above it stay. A search among the rows finds what the laws of
-- levels say is there: a boundary that fell, and one from which a level came.
use Prim.Native.Nat.{ℕ, zero, suc, ◌+◌, ◌-◌, ◌*◌, ◌≤◌, ◌<◌}
use native.Mathlib.Omega.{arith}
use Rattle.std.proofs.Common.{mul-le-mul_right, subst, ◌∙◌, length-take, get_or-take, SFits}
use Rattle.std.proofs.Math.Decide.{dec_le}
use Rattle.std.specs.Prelude.{◌≡◌, refl, take, drop, replicate, pos, ◌+ℤ◌, ◌≤ℤ◌, ◌<ℤ◌, EachIndex}
use Rattle.std.proofs.Math.Path.{sym, ap}
use mathlib.Core.List.{List}
use Rattle.std.proofs.Math.ListN.{length, get_or}
use Rattle.std.proofs.Math.IntN.{ℤ}
use Rattle.std.specs.Int.{w16}
use Rattle.integers.specs.Parts.{ints}
use Rattle.lists.specs.Slices.{part_at, part_length, back, back_before, back_inside}
use Rattle.lists.specs.Values.{list_of, length_list_of, list_of_at}
use Rattle.network.specs.Table.{max_boundaries, entry}
use Rattle.network_levels.specs.Levels.{least_over, lower, level}
use Rattle.network_levels.specs.LevelLaws.{least_same, level_step, level_source, level_feasible}
use Rattle.network_levels.specs.Finder.{StepsFit, LevelsUpTo, Weighed, Leveled, Fallen, Source, Infeasible}
use Rattle.network_levels.specs.LevelRange.{level_sum_fits}

-- a place in a row above row k
above_row : (w i k v : ℕ) → i < k → v < w → i * w + v < k * w
above_row w i k v h l = let q : (i + 1) * w ≤ k * w = mul-le-mul_right w (omega arith) in omega arith

-- ---- row k, as the list prev
pub record RowOf (w k : ℕ) (d prev : List ℤ) : Type 0 where
  pub long : length prev ≡ w
  pub at : (j : ℕ) → j < w → get_or prev j (pos 0) ≡ level w (entry w d) k j

-- the last row of the levels that are made
pub last_row : (w k n : ℕ) (d levels made : List ℤ) → made ≡ take (k * w + w) levels → n ≡ w → k * w + w ≤ length levels → LevelsUpTo w d levels k
    → RowOf w k d (take n (drop (k * w) made))
last_row w k n d levels made e size fits v = record {
  long = omega (arith, part_length (k * w) n made (omega (arith, ap length e, length-take (k * w + w) levels)));
  at = λ j h. part_at (k * w) n made (pos 0) j (omega arith) ∙ ap (λ (x : List ℤ). get_or x (k * w + j) (pos 0)) e
      ∙ get_or-take (k * w + w) levels (k * w + j) (pos 0) (omega arith) ∙ v k j (omega arith) h;
}

module _ {w k : ℕ} {d prev : List ℤ} (c : RowOf w k d prev) where
  pub row_sums_fit : Weighed w d → k < w → StepsFit w d prev
  row_sums_fit q h a b ha hb =
      subst (λ (x : ℤ). SFits w16 (x +ℤ entry w d a b)) (sym (c.at a ha)) (level_sum_fits w d q.small k a b (omega (arith, q.few)) ha hb)

  -- row k + 1 is made
  pub rows_next : (m : ℕ) (levels ys : List ℤ) → LevelsUpTo w d levels k → m ≡ w → k * w + w + m ≤ length levels
      → ys ≡ list_of w (lower w (entry w d) (λ x. get_or prev x (pos 0))) → LevelsUpTo w d (back (k * w + w) m ys levels) (k + 1)
  unfolding level
  rows_next m levels ys v em inside ey i x hi hx =
      let g : ℕ → ℤ = (λ y. get_or prev y (pos 0)) in
      let long : length ys ≡ m = ap length ey ∙ length_list_of (lower w (entry w d) g) w ∙ sym em in
      elim (dec_le i k) [
        | yes h ↦ back_before (k * w + w) m ys levels inside long (i * w + x) (pos 0) (omega (arith, above_row w i (k + 1) x (omega arith) hx)) ∙ v i x h hx
        | no h ↦
            let e : i ≡ suc k = omega arith in
            let p : i * w + x ≡ k * w + w + x = omega (arith, ap (λ (n : ℕ). n * w) e) in
            ap (λ (n : ℕ). get_or (back (k * w + w) m ys levels) n (pos 0)) p
            ∙ back_inside (k * w + w) m ys levels inside long x (pos 0) (omega arith)
            ∙ ap (λ (l : List ℤ). get_or l x (pos 0)) ey ∙ list_of_at (lower w (entry w d) g) w x (pos 0) hx
            ∙ least_same w (λ u. g u +ℤ entry w d u x) (λ u. level w (entry w d) k u +ℤ entry w d u x) (g x)
            (λ u l. ap (λ (z : ℤ). z +ℤ entry w d u x) (c.at u l))
            ∙ ap (least_over w (λ u. level w (entry w d) k u +ℤ entry w d u x)) (c.at x hx)
            ∙ ap (λ (n : ℕ). level w (entry w d) n x) (sym e)
      ]

-- ---- a boundary that fell at the last level: where the last row is below the one before
abbrev pub last_level : ℕ → List ℤ → List ℤ
last_level w levels = take (w * w + w - w * w) (drop (w * w) levels)

abbrev pub level_before : ℕ → List ℤ → List ℤ
level_before w levels = take (w * w - (w * w - w)) (drop (w * w - w) levels)

module _ {w : ℕ} {d levels : List ℤ} (q : Leveled w d levels) where
  sizes : (w ≡ suc (w - 1)) × (w ≤ w * w)
  sizes = let h : 1 * w ≤ w * w = mul-le-mul_right w (omega (arith, q.weights.some)) in (omega (arith, q.weights.some), omega arith)

  last_at : (v : ℕ) → v < w → get_or (last_level w levels) v (pos 0) ≡ level w (entry w d) (suc (w - 1)) v
  last_at v h = part_at (w * w) (w * w + w - w * w) levels (pos 0) v (omega arith) ∙ q.levels_are w v (omega arith) h
      ∙ ap (λ (i : ℕ). level w (entry w d) i v) sizes.0

  before_at : (v : ℕ) → v < w → get_or (level_before w levels) v (pos 0) ≡ level w (entry w d) (w - 1) v
  before_at v h =
      let e : w * w - w ≡ (w - 1) * w = omega (arith, ap (λ (i : ℕ). i * w) sizes.0) in
      part_at (w * w - w) (w * w - (w * w - w)) levels (pos 0) v (omega (arith, sizes))
      ∙ ap (λ (i : ℕ). get_or levels (i + v) (pos 0)) e ∙ q.levels_are (w - 1) v (omega arith) h

  pub last_long : (length (last_level w levels) ≡ w) × (length (level_before w levels) ≡ w)
  last_long = (
    omega (arith, part_length (w * w) (w * w + w - w * w) levels (omega (arith, q.long))),
    omega (arith, sizes, part_length (w * w - w) (w * w - (w * w - w)) levels (omega (arith, q.long, sizes))),
  )

  pub fallen_at : (v : ℕ) → v < length (last_level w levels) → get_or (last_level w levels) v (pos 0) <ℤ get_or (level_before w levels) v (pos 0)
      → Fallen w d v
  fallen_at v h l = let i : v < w = omega (arith, last_long) in record { inside = i; fell = rw (last_at v i, before_at v i) at l }

  -- some boundary did
  pub fallen_there : Infeasible w d
      → EachIndex (last_level w levels) (λ v. get_or (level_before w levels) v (pos 0) ≤ℤ get_or (last_level w levels) v (pos 0)) → ⊥
  fallen_there infeasible f = infeasible (level w (entry w d) (w - 1)) (level_feasible w (entry w d) (w - 1) (w - 1) sizes.0 (λ v h.
      let l = f v (omega (arith, last_long)) in rw (last_at v h, before_at v h) at l))

-- ---- a level read from its row
module _ {w : ℕ} {d levels : List ℤ} (q : Leveled w d levels) where
  -- what the step from u leaves v
  pub left_is : (k u v : ℕ) → k < w → u < w → (entry w levels k u +ℤ entry w d u v) ≡ level w (entry w d) k u +ℤ entry w d u v
  left_is k u v hk hu = ap (λ (z : ℤ). z +ℤ entry w d u v) (q.levels_are k u (omega arith) hu)

  pub left_fits : (k u v : ℕ) → k < w → u < w → v < w → SFits w16 (entry w levels k u +ℤ entry w d u v)
  left_fits k u v hk hu hv =
      subst (SFits w16) (sym (left_is k u v hk hu)) (level_sum_fits w d q.weights.small k u v (omega (arith, q.weights.few)) hu hv)

-- ---- the boundary from which v has its level
module _ {w : ℕ} {d levels : List ℤ} (q : Leveled w d levels) (k v : ℕ) (pk : 0 < k) (hk : k ≤ w) (hv : v < w) where
  target_is : entry w levels k v ≡ level w (entry w d) (suc (k - 1)) v
  target_is = let e : k ≡ suc (k - 1) = omega arith in q.levels_are k v hk hv ∙ ap (λ (n : ℕ). level w (entry w d) n v) e

  pub source_at : (u : ℕ) → u < w → (level w (entry w d) (k - 1) u +ℤ entry w d u v) ≤ℤ entry w levels k v → Source w d (k - 1) v u
  source_at u h f = record { inside = h; gives = omega (ints, f, target_is, level_step w (entry w d) (k - 1) u v h) }

  -- some boundary is one
  pub source_there : ((u : ℕ) → u < w → entry w levels k v <ℤ (level w (entry w d) (k - 1) u +ℤ entry w d u v)) → ⊥
  source_there f =
      let s = level_source w (entry w d) (k - 1) v hv (q.weights.zeros v hv) in
      omega (ints, f s.place s.inside, target_is, s.value)

-- ---- the room of the levels, before they are made
zero_at : (n j : ℕ) → get_or (replicate n (pos 0)) j (pos 0) ≡ pos 0
zero_at zero j = refl
zero_at (suc n) zero = refl
zero_at (suc n) (suc j) = zero_at n j

pub first_level : (n w : ℕ) (d : List ℤ) → LevelsUpTo w d (replicate n (pos 0)) 0
unfolding level
first_level n w d i v h l = let e : 0 ≡ i = omega arith in zero_at n (i * w + v) ∙ ap (λ (k : ℕ). level w (entry w d) k v) e

pub levels_fit : (w : ℕ) → w ≤ max_boundaries → w * w + w ≤ (max_boundaries + 1) * max_boundaries
levels_fit w h = let q : w * w ≤ max_boundaries * w = mul-le-mul_right w h in omega arith
