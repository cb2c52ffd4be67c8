-- A row of the levels copied, and what searches by tests find among the rows. The code makes a row beside the one before it now, and looks for places by
-- `position` (`specs/LevelSteps.antt`); these laws stand.
use Prim.Native.Nat.{ℕ, zero, suc, ◌+◌, ◌-◌, ◌*◌, ◌≤◌, ◌<◌}
use native.Mathlib.Omega.{arith}
use Rattle.std.proofs.Common.{mul-le-mul_right, subst, ◌∙◌, length-take, drop_of_length-le, get_or-take, SFits}
use Rattle.std.proofs.Math.Decide.{dec_le}
use Rattle.std.specs.Prelude.{◌≡◌, refl, Bool, true, false, take, drop, replicate, pos, ◌+ℤ◌}
use Rattle.std.proofs.Math.Path.{sym, ap}
use mathlib.Core.List.{List, ◌++◌, append-nil}
use Rattle.std.proofs.Math.ListN.{length, get_or, get_or-append}
use Rattle.std.proofs.Math.IntN.{ℤ}
use Rattle.std.specs.Int.Signed.{lt_z}
use Rattle.std.specs.Int.{w16}
use Rattle.integers.specs.Parts.{ints}
use Rattle.lists.specs.First.{first_place, first_before, first_at}
use Rattle.lists.specs.Slices.{part_at, part_length, back, back_before, back_inside}
use Rattle.lists.specs.Values.{list_of, length_list_of, list_of_at}
use Rattle.network.specs.Network.{Potential, Feasible}
use Rattle.network.specs.Table.{max_boundaries, entry}
use Rattle.network_levels.specs.Levels.{least_over, lower, level}
use Rattle.network_levels.specs.LevelLaws.{least_same, level_step, level_source, level_feasible}
use Rattle.network_levels.specs.Finder.{StepsFit, LevelsUpTo, Weighed, Leveled, Fallen, Source}
use Rattle.network_levels.specs.LevelRange.{level_sum_fits}
use Rattle.network_levels.specs.LevelSteps.{RowOf}

pub copied_whole : (xs ys : List ℤ) → length ys ≤ length xs → xs ++ drop (length xs) ys ≡ xs
copied_whole xs ys h = ap (λ (l : List ℤ). xs ++ l) (drop_of_length-le ys h) ∙ append-nil xs

-- ---- row k, copied
abbrev pub Copied : ℕ → ℕ → List ℤ → List ℤ → Type 0
Copied w k d xs = RowOf w k d xs

pub row_copied : (w k n : ℕ) (d levels copy old : List ℤ) → n ≡ w → k * w + n ≤ length levels → w ≤ length copy
    → copy ≡ take n (drop (k * w) levels) ++ drop (length (take n (drop (k * w) levels))) old → LevelsUpTo w d levels k → Copied w k d (take w copy)
row_copied w k n d levels copy old size fits room made v = record {
  long = omega (arith, length-take w copy);
  at = λ j h.
      let xs = take n (drop (k * w) levels) in
      get_or-take w copy j (pos 0) h ∙ ap (λ (x : List ℤ). get_or x j (pos 0)) made
      ∙ get_or-append xs (drop (length xs) old) (pos 0) j (omega (arith, part_length (k * w) n levels fits))
      ∙ part_at (k * w) n levels (pos 0) j (omega arith) ∙ v k j (omega arith) h;
}

module _ {w k : ℕ} {d prev : List ℤ} (c : Copied w k d prev) where
  pub copied_sums : Weighed w d → k < w → StepsFit w d prev
  copied_sums q h a b ha hb =
      subst (λ (x : ℤ). SFits w16 (x +ℤ entry w d a b)) (sym (c.at a ha)) (level_sum_fits w d q.small k a b (omega (arith, q.few)) ha hb)

-- ---- a boundary that fell at the last level
pub fallen_found : {w : ℕ} {d levels : List ℤ} (low high : List ℤ) (r : ℕ) → Leveled w d levels → ((z : Potential) → Feasible (w - 1) (entry w d) z → ⊥)
    → length low ≡ w → ((v : ℕ) → v < w → get_or low v (pos 0) ≡ level w (entry w d) w v)
    → ((v : ℕ) → v < w → get_or high v (pos 0) ≡ level w (entry w d) (w - 1) v)
    → r ≡ first_place (length low) (λ v. lt_z (get_or low v (pos 0)) (get_or high v (pos 0))) → Fallen w d r
fallen_found {w} {d} low high r q infeasible long lows highs e =
    let t : ℕ → Bool = (λ v. lt_z (get_or low v (pos 0)) (get_or high v (pos 0))) in
    let s : w ≡ suc (w - 1) = omega (arith, q.weights.some) in
    let last : (v : ℕ) → v < w → get_or low v (pos 0) ≡ level w (entry w d) (suc (w - 1)) v = (λ v h.
    lows v h ∙ ap (λ (n : ℕ). level w (entry w d) n v) s) in
    elim (dec_le w r) [
      | no h ↦
          let l : r < w = omega arith in
          let f : t r ≡ true = ap t e ∙ first_at t (length low) (omega (arith, e)) in
          record { inside = l; fell = omega (ints, f, last r l, highs r l) }
      | yes h ↦ absurd (infeasible (level w (entry w d) (w - 1)) (level_feasible w (entry w d) (w - 1) (w - 1) s (λ v l.
          let f : t v ≡ false = first_before t (length low) v (omega (arith, e)) in
          omega (ints, f, last v l, highs v l))))
    ]

-- ---- the boundary from which v has its level
-- the step from u leaves v more than its level k
abbrev pub leaves_more : ℕ → List ℤ → List ℤ → ℕ → ℕ → ℕ → Bool
leaves_more w d levels k v u = lt_z (entry w levels k v) (level w (entry w d) (k - 1) u +ℤ entry w d u v)

module _ {w : ℕ} {d levels : List ℤ} (q : Leveled w d levels) (k v : ℕ) (pk : 0 < k) (hk : k ≤ w) (hv : v < w) where
  target_is : entry w levels k v ≡ level w (entry w d) (suc (k - 1)) v
  target_is = let e : k ≡ suc (k - 1) = omega arith in q.levels_are k v hk hv ∙ ap (λ (n : ℕ). level w (entry w d) n v) e

  pub source_found : (u : ℕ) → u < w → leaves_more w d levels k v u ≡ false → Source w d (k - 1) v u
  source_found u h f = record { inside = h; gives = omega (ints, f, target_is, level_step w (entry w d) (k - 1) u v h) }

  -- some boundary is one
  pub source_there : ((u : ℕ) → u < w → leaves_more w d levels k v u ≡ true) → ⊥
  source_there f =
      let s = level_source w (entry w d) (k - 1) v hv (q.weights.zeros v hv) in
      omega (ints, f s.place s.inside, target_is, s.value)

-- ---- a level read from its row
module _ {w : ℕ} {d levels : List ℤ} (q : Leveled w d levels) where
  pub level_inside : (k v : ℕ) → k ≤ w → v < w → k * w + v < length levels
  level_inside k v hk hv = let h : k * w ≤ w * w = mul-le-mul_right w hk in omega (arith, q.long)
