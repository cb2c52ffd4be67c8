-- Negative cycles that start anywhere, and how they are turned to start at their lowest boundary.
-- Key idea: turned to any of its boundaries a cycle has the same boundaries and the same sum around, so its least entry may come first.
use Rattle.std.specs.Prelude.{◌≡◌, ◌⊎◌, ◌&&◌, List, ◌∷◌, ◌++◌, ℕ, suc, ◌≤◌, ◌<◌, T, ltb, get_or, take, drop, ◌<ℤ◌}
use Rattle.std.proofs.Common.{sym, ap, ◌∙◌, subst, inl, inr, ⊎_elim, arith, eq-or-lt_of_le, le→leb, take-append-drop, drop-cons}
use mathlib.Core.List.Memᴰ
use Rattle.std.proofs.Math.Dec.{leb, lt→ltb}
use Rattle.std.proofs.Math.ListN.{length, length-append}
use Rattle.std.proofs.Math.IntN.{pos}
use Rattle.std.specs.Int.Signed.{lt_z}
use Rattle.integers.specs.Parts.{ints}
use Rattle.lists.specs.Lists.{every}
use Rattle.lists.specs.Members.{In, both, place_in, in_every}
use Rattle.network.specs.Network.{Weights, around, distinct, lowest_first, is_negative_cycle}
use Rattle.network.proofs.NetworkLaws.{upto_append, upto_left, upto_right, every_of_upto, around_turned}
use Rattle.network.proofs.NetworkLaws.{distinct_left, distinct_right, distinct_apart, distinct_join, distinct_test}
use Rattle.network.specs.Cycles.{Upto, Cycle, Distinct}

-- ---- places and members
pub record Place (x : ℕ) (c : List ℕ) : Type 0 where
  pub place : ℕ
  pub inside : place < length c
  pub value : get_or c place 0 ≡ x

pub at_in : (x : ℕ) (c : List ℕ) → In x c → Place x c
at_in x c m = let r = place_in 0 x c m in record { place = r.0; inside = r.1; value = r.2 }

-- ---- a cycle turned to start at place i, where its least boundary stands
module _ (top : ℕ) (d : Weights) (us : List ℕ) (low : ℕ) (vs : List ℕ) (r : Cycle top d (us ++ low ∷ vs))
    (least : (x : ℕ) → In x (us ++ low ∷ vs) → low ≤ x) where
  behind : (x : ℕ) → In x (vs ++ us) → In x us ⊎ In x vs
  behind x m = ⊎_elim inr inl (Memᴰ.append_cases vs m)

  -- the others are above the least
  above : (x : ℕ) → In x (vs ++ us) → low < x
  above x m =
      let g = r.apart in
      let other : low ≡ x → ⊥ = (λ e. ⊎_elim (λ p. distinct_apart us (low ∷ vs) g x p (Memᴰ.head (sym e)))
      (λ p. (distinct_right us (low ∷ vs) g).0 (Memᴰ.cast e p)) (behind x m)) in
      let at_least : low ≤ x = ⊎_elim (λ p. least x (Memᴰ.append_left (low ∷ vs) p)) (λ p. least x (Memᴰ.append_right us (Memᴰ.tail p))) (behind x m) in
      ⊎_elim (λ e. absurd (other e)) (λ l. l) (eq-or-lt_of_le at_least)

  turned_is_cycle : T (is_negative_cycle top d (low ∷ (vs ++ us)))
  unfolding is_negative_cycle
  turned_is_cycle =
      let c = low ∷ (vs ++ us) in
      let g = r.apart in
      let u = upto_right top us (low ∷ vs) r.upto in
      let upto : Upto top c = (u.0, upto_append top vs us u.1 (upto_left top us (low ∷ vs) r.upto)) in
      let apart : Distinct c = (
        (λ m. let l = above low m in omega arith),
        distinct_join vs us (distinct_right us (low ∷ vs) g).1 (distinct_left us (low ∷ vs) g)
            (λ x p q. distinct_apart us (low ∷ vs) g x q (Memᴰ.tail p)),
      ) in
      let negative : around d c <ℤ pos 0 = omega (ints, r.negative, around_turned d us low vs) in
      let size : 2 ≤ length c = omega (arith, r.long, length-append us (low ∷ vs), length-append vs us) in
      let e = every (λ b. leb b top) c in
      let n = lt_z (around d c) (pos 0) in
      both (leb 2 (length c)) (e && (distinct c && (lowest_first c && n))) (le→leb 2 (length c) size)
      (both e (distinct c && (lowest_first c && n)) (every_of_upto top c upto)
      (both (distinct c) (lowest_first c && n) (distinct_test c apart)
      (both (lowest_first c) n (in_every (ltb low) (vs ++ us) (λ x m. lt→ltb low x (above x m))) negative.lt)))

-- the same by places
pub turned_at : (top : ℕ) (d : Weights) (c : List ℕ) (i : ℕ) → Cycle top d c → i < length c → ((j : ℕ) → j < length c → get_or c i 0 ≤ get_or c j 0)
    → T (is_negative_cycle top d (drop i c ++ take i c))
turned_at top d c i r h f =
    let e : drop i c ≡ get_or c i 0 ∷ drop (suc i) c = drop-cons c i 0 h in
    let p : c ≡ take i c ++ get_or c i 0 ∷ drop (suc i) c = sym (take-append-drop i c) ∙ ap (λ (l : List ℕ). take i c ++ l) e in
    let least : (x : ℕ) → In x (take i c ++ get_or c i 0 ∷ drop (suc i) c) → get_or c i 0 ≤ x = (λ x m.
    let q = at_in x c (subst (λ (l : List ℕ). In x l) (sym p) m) in
    omega (arith, f q.place q.inside, q.value)) in
    subst (λ (l : List ℕ). T (is_negative_cycle top d (l ++ take i c))) (sym e)
    (turned_is_cycle top d (take i c) (get_or c i 0) (drop (suc i) c) (subst (Cycle top d) p r) least)
