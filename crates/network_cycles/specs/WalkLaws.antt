-- The walk back from a boundary that fell at the last level.
-- Key idea: each boundary of the walk fell at its own level, so the levels at two visits of one boundary differ, the later being the lower. The weights
-- between the visits add up to that difference: the stretch is a cycle, and negative.
use Rattle.std.specs.Prelude.{◌≡◌, length, take, drop, pos, ◌+ℤ◌, ◌<ℤ◌}
use Rattle.std.proofs.Common.{sym, ◌∙◌, take-append-drop}
use Rattle.std.proofs.Math.Path.{ap, subst}
use mathlib.Core.List.{List, [], ◌∷◌}
use Prim.Native.Nat.{ℕ, zero, suc, ◌+◌, ◌≤◌, ◌<◌}
use native.Mathlib.Omega.{arith}
use Rattle.std.proofs.Math.ListN.{get_or}
use Rattle.integers.specs.Parts.{ints, sum}
use Rattle.network.specs.Network.{Weights, via}
use Rattle.network.proofs.NetworkLaws.{upto_left, distinct_left}
use Rattle.network_levels.specs.Levels.{level}
use Rattle.network_levels.specs.LevelLaws.{level_sinks, fell_earlier}
use Rattle.network.specs.Cycles.{Upto, Distinct, Cycle}

-- the boundaries v, .. of the levels k + 1, ..: each gives the next one its level, and the last one fell
unfoldable pub WalkedBack : ℕ → Weights → ℕ → ℕ → List ℕ → Type 0
WalkedBack w d k v [] = (v < w) × (level w d (suc k) v <ℤ level w d k v)
WalkedBack w d k v (x ∷ xs) = (v < w) × ((level w d (suc k) v +ℤ d v x) ≡ level w d (suc (suc k)) x) × WalkedBack w d (suc k) x xs

module _ (w : ℕ) (d : Weights) where
  -- its first boundary fell
  walked_fell : (k v : ℕ) (xs : List ℕ) → WalkedBack w d k v xs → level w d (suc k) v <ℤ level w d k v
  unfolding WalkedBack
  walked_fell k v [] h = h.1
  walked_fell k v (x ∷ xs) h = fell_earlier w d k v x h.0 (walked_fell (suc k) x xs h.2) h.1

  -- so did the one at each place
  walked_at : (k v : ℕ) (xs : List ℕ) (j : ℕ) → j < suc (length xs) → WalkedBack w d k v xs
      → level w d (suc (j + k)) (get_or (v ∷ xs) j 0) <ℤ level w d (j + k) (get_or (v ∷ xs) j 0)
  unfolding WalkedBack
  walked_at k v xs zero l h =
      let e : 0 + k ≡ k = omega arith in
      subst (λ (n : ℕ). level w d (suc n) v <ℤ level w d n v) (sym e) (walked_fell k v xs h)
  walked_at k v [] (suc j) l h = absurd (omega arith)
  walked_at k v (x ∷ xs) (suc j) l h =
      let e : suc j + k ≡ j + suc k = omega arith in
      subst (λ (n : ℕ). level w d (suc n) (get_or (x ∷ xs) j 0) <ℤ level w d n (get_or (x ∷ xs) j 0)) (sym e) (walked_at (suc k) x xs j (omega arith) h.2)

  -- the weights from the first boundary to the one at place j, and on to e
  walked_via : (k v : ℕ) (xs : List ℕ) (j e : ℕ) → j < suc (length xs) → WalkedBack w d k v xs
      → (level w d (suc k) v +ℤ via d v (take j xs) e) ≡ (level w d (suc (j + k)) (get_or (v ∷ xs) j 0) +ℤ d (get_or (v ∷ xs) j 0) e)
  unfolding WalkedBack
  walked_via k v xs zero e l h =
      let q : k ≡ 0 + k = omega arith in ap (λ (n : ℕ). level w d (suc n) v +ℤ d v e) q
  walked_via k v [] (suc j) e l h = absurd (omega arith)
  walked_via k v (x ∷ xs) (suc j) e l h =
      let q : j + suc k ≡ suc j + k = omega arith in
      let y = get_or (x ∷ xs) j 0 in
      let r = walked_via (suc k) x xs j e (omega arith) h.2 in
      let s : (level w d (suc k) v +ℤ (d v x +ℤ via d x (take j xs) e)) ≡ (level w d (suc (suc k)) x +ℤ via d x (take j xs) e) = omega (
        ints,
        h.1,
        sum (level w d (suc k) v) (d v x),
        sum (d v x) (via d x (take j xs) e),
        sum (level w d (suc k) v) (d v x +ℤ via d x (take j xs) e),
        sum (level w d (suc (suc k)) x) (via d x (take j xs) e),
      ) in
      s ∙ r ∙ ap (λ (n : ℕ). level w d (suc n) y +ℤ d y e) q

  -- the boundary that gives v its level stands at place j: a negative cycle
  pub met_again : (top k v : ℕ) (xs : List ℕ) (u j : ℕ) → j < suc (length xs) → get_or (v ∷ xs) j 0 ≡ u → WalkedBack w d k v xs
      → Upto top (v ∷ xs) → Distinct (v ∷ xs) → d v v ≡ pos 0 → (level w d k u +ℤ d u v) ≡ level w d (suc k) v → Cycle top d (take (suc j) (v ∷ xs))
  met_again top k v xs u j l e h up apart z s =
      let y = via d v (take j xs) v in
      let r = walked_via k v xs j v l h in
      let r' : (level w d (suc k) v +ℤ y) ≡ (level w d (suc (j + k)) u +ℤ d u v) = r ∙ ap (λ (x : ℕ). level w d (suc (j + k)) x +ℤ d x v) e in
      let f : level w d (suc (j + k)) u <ℤ level w d (j + k) u =
      subst (λ (x : ℕ). level w d (suc (j + k)) x <ℤ level w d (j + k) x) e (walked_at k v xs j l h) in
      let negative : y <ℤ pos 0 = omega (
        ints,
        r',
        f,
        s,
        level_sinks w d k j u,
        sum (level w d (suc k) v) y,
        sum (level w d (suc (j + k)) u) (d u v),
        sum (level w d k u) (d u v),
      ) in
      let whole = sym (take-append-drop (suc j) (v ∷ xs)) in
      record {
        long = two v (take j xs) z negative;
        upto = upto_left top (take (suc j) (v ∷ xs)) (drop (suc j) (v ∷ xs)) (subst (Upto top) whole up);
        apart = distinct_left (take (suc j) (v ∷ xs)) (drop (suc j) (v ∷ xs)) (subst Distinct whole apart);
        negative = negative;
      }
    where
      two : (v : ℕ) (ys : List ℕ) → d v v ≡ pos 0 → via d v ys v <ℤ pos 0 → 2 ≤ suc (length ys)
      two v [] z n = absurd (omega ints)
      two v (x ∷ ys) z n = omega arith
