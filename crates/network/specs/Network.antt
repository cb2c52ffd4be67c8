-- Weights between boundaries, potentials, walks and negative cycles: a temporal constraint network (Chabert and Demassey, section 2.4).
-- Definitions only. Boundaries run 0 to top; `d a b` bounds the rise from boundary a to boundary b.
use Rattle.std.specs.Prelude.{Bool, true, ◌&&◌, not, List, [], ◌∷◌, ℕ, ◌≤◌, leb, ltb, eqb, length, ℤ, pos, ◌+ℤ◌, ◌≤ℤ◌}
use Rattle.std.specs.Int.Signed.{lt_z}
use Rattle.lists.specs.Lists.{every}

abbrev pub Weights : Type 0
Weights = ℕ → ℕ → ℤ

abbrev pub Potential : Type 0
Potential = ℕ → ℤ

-- no step rises by more than its weight
abbrev pub Feasible : ℕ → Weights → Potential → Type 0
Feasible top d z = (a b : ℕ) → a ≤ top → b ≤ top → z b ≤ℤ (z a +ℤ d a b)

-- the weights of the steps from a over a list of boundaries and on to e, added up
abbrev pub via : Weights → ℕ → List ℕ → ℕ → ℤ
via d a [] e = d a e
via d a (b ∷ bs) e = d a b +ℤ via d b bs e

-- the weights around a list of boundaries that is closed on itself
abbrev pub around : Weights → List ℕ → ℤ
around d [] = pos 0
around d (a ∷ bs) = via d a bs a

abbrev pub distinct : List ℕ → Bool
distinct [] = true
distinct (a ∷ bs) = every (λ b. not (eqb a b)) bs && distinct bs

abbrev pub lowest_first : List ℕ → Bool
lowest_first [] = true
lowest_first (a ∷ bs) = every (ltb a) bs

-- two or more boundaries, none twice, lowest first, whose weights around add up to less than 0 (docs/RULES.md: ring)
unfoldable pub is_negative_cycle : ℕ → Weights → List ℕ → Bool
is_negative_cycle top d c =
    leb 2 (length c) && (every (λ b. leb b top) c && (distinct c && (lowest_first c && lt_z (around d c) (pos 0))))
