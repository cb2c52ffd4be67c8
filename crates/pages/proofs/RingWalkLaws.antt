-- A ring walked from its first boundary on, whose last step back to it stands apart. The code walks all steps alike now (`PageLaws.antt`); these laws stand.
use Rattle.std.specs.Prelude.{◌≡◌, ℕ, suc, ◌+◌, ◌-◌, ◌≤◌, ◌<◌, drop, get_or, ℤ, ◌+ℤ◌}
use Rattle.std.proofs.Math.Path.{refl, ap}
use Rattle.std.proofs.Common.{⊎_elim, arith, add-one, drop_of_length-le}
use mathlib.Core.List.{List, [], ◌∷◌}
use Rattle.std.proofs.Math.ListN.{length}
use Rattle.std.proofs.Math.Seq.{drop-cons}
use Rattle.integers.specs.Parts.{up, dn, sum, neg, apart}
use Rattle.network.specs.Network.{Weights, via, around}
use Rattle.pages.specs.Page.{step_line, step_lines, ring_lines, shortfall_of}

module _ (d : Weights) (ring : List ℕ) where
  -- all lines, from the first boundary on
  pub ring_start : 1 ≤ length ring → ring_lines d ring ≡ step_lines d (get_or ring 0 0) (drop 1 ring) (get_or ring 0 0)
  unfolding ring_lines
  ring_start h = go ring h
    where
      go : (r : List ℕ) → 1 ≤ length r → ring_lines d r ≡ step_lines d (get_or r 0 0) (drop 1 r) (get_or r 0 0)
      go [] h = absurd (omega arith)
      go (x ∷ xs) h = refl

  -- the line of the step from place i to place i + 1 stands in front
  pub ring_next : (i a e : ℕ) → i + 1 < length ring
      → step_lines d a (drop (i + 1) ring) e ≡ step_line d a (get_or ring (i + 1) 0) ∷ step_lines d (get_or ring (i + 1) 0) (drop (i + 1 + 1) ring) e
  unfolding step_lines
  ring_next i a e h = rw (add-one (i + 1), drop-cons ring (i + 1) 0 h)

  -- the last step goes back to the first boundary
  pub ring_end : (i a e : ℕ) → length ring ≤ i + 1 → step_lines d a (drop (i + 1) ring) e ≡ step_line d a e ∷ []
  unfolding step_lines
  ring_end i a e h = rw (drop_of_length-le ring h)

  -- the weights from place i on, and back to the first boundary
  abbrev pub weight_from : ℕ → ℤ
  weight_from i = via d (get_or ring i 0) (drop (i + 1) ring) (get_or ring 0 0)

  weight_start : 1 ≤ length ring → around d ring ≡ weight_from 0
  weight_start h = go ring h
    where
      go : (r : List ℕ) → 1 ≤ length r → around d r ≡ via d (get_or r 0 0) (drop 1 r) (get_or r 0 0)
      go [] h = absurd (omega arith)
      go (x ∷ xs) h = refl

  -- what the first i steps rise and fall by, and what the others add up to, make up the ring's sum
  pub record Walked (i rise fall : ℕ) : Type 0 where
    pub rest : rise + up (weight_from i) + dn (around d ring) ≡ up (around d ring) + fall + dn (weight_from i)

  pub walked_none : 1 ≤ length ring → Walked 0 0 0
  walked_none h = record { rest = omega (arith, ap up (weight_start h), ap dn (weight_start h)) }

  pub walked_next : (i rise fall : ℕ) → i + 1 < length ring → Walked i rise fall
      → Walked (i + 1) (rise + up (d (get_or ring i 0) (get_or ring (i + 1) 0))) (fall + dn (d (get_or ring i 0) (get_or ring (i + 1) 0)))
  walked_next i rise fall h w =
      let e : weight_from i ≡ d (get_or ring i 0) (get_or ring (i + 1) 0) +ℤ weight_from (i + 1) = rw (add-one (i + 1), drop-cons ring (i + 1) 0 h) refl in
      record { rest = omega (arith, w.rest, ap up e, ap dn e, sum (d (get_or ring i 0) (get_or ring (i + 1) 0)) (weight_from (i + 1))) }

  -- with the last step the ring is closed
  pub walked_all : (i rise fall : ℕ) → length ring ≤ i + 1 → Walked i rise fall
      → fall + dn (d (get_or ring i 0) (get_or ring 0 0)) - (rise + up (d (get_or ring i 0) (get_or ring 0 0))) ≡ shortfall_of d ring
  walked_all i rise fall h w =
      let e : weight_from i ≡ d (get_or ring i 0) (get_or ring 0 0) = rw (drop_of_length-le ring h) refl in
      ⊎_elim
      (λ z. omega (arith, w.rest, ap up e, ap dn e, neg (around d ring)))
      (λ z. omega (arith, w.rest, ap up e, ap dn e, neg (around d ring)))
      (apart (around d ring))
