-- One row of a table over a middle boundary. Definitions only.
use Rattle.std.specs.Prelude.{Bool, ◌&&◌, List, ℕ, ◌<◌, leb, ltb, length, get_or, ℤ, pos, ◌+ℤ◌}
use Rattle.std.specs.Int.Signed.{lt_z}
use Rattle.std.specs.Int.{w16}
use Rattle.std.proofs.Common.{SFits}
use Rattle.integers.specs.Parts.{min_ℤ}
use Rattle.lists.specs.Values.{list_of}

-- every sum of am with a number of the list fits 16 bits
abbrev pub SumsFit : ℤ → List ℤ → Type 0
SumsFit am mid = (b : ℕ) → b < length mid → SFits w16 (am +ℤ get_or mid b (pos 0))

-- an entry of a row becomes the smaller of itself and the sum of am and the middle row's entry
abbrev pub relaxed_at : ℤ → List ℤ → List ℤ → ℕ → ℤ
relaxed_at am mid row b = min_ℤ (get_or row b (pos 0)) (am +ℤ get_or mid b (pos 0))

abbrev pub relaxed : ℤ → List ℤ → List ℤ → List ℤ
relaxed am mid row = list_of (length row) (relaxed_at am mid row)

-- a row is taken in stretches of this many columns
abbrev pub stretch : ℕ
stretch = 32

-- the diagonal entry of row a lies in the stretch from b to e, and is below 0
abbrev pub falls_in : ℕ → ℕ → ℕ → List ℤ → Bool
falls_in b e a row = leb b a && (ltb a e && lt_z (get_or row a (pos 0)) (pos 0))
