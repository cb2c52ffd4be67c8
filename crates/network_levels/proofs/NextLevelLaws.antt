-- One level: the steps from each boundary in turn.
-- Key idea: the row step over the weights from u, with what prev has at u, takes the least over the boundaries below u to the least over those below u + 1.
use Prim.Native.Nat.{ℕ, suc, ◌+◌, ◌*◌, ◌≤◌, ◌<◌}
use native.Mathlib.Omega.{arith}
use native.Mathlib.Numerals.{add-one}
use mathlib.Core.Path.{◌≡◌, refl, ap, ◌∙◌}
use mathlib.Core.List.{List}
use lib.ListN.{length, get_or, take, drop}
use lib.IntN.{ℤ, pos, ◌+ℤ◌}
use Rattle.integers.specs.Parts.{min_ℤ}
use Rattle.lists.specs.Slices.{part_at}
use Rattle.lists.specs.Values.{list_of, length_list_of, list_of_at, list_of_is, list_of_same}
use Rattle.network.specs.Table.{entry}
use Rattle.network.specs.RowStep.{relaxed_at, relaxed}
use Rattle.network_levels.specs.Levels.{least_over}

-- the least of prev and of what the steps from the boundaries below u leave
abbrev pub reached_by : ℕ → List ℤ → List ℤ → ℕ → ℕ → ℤ
reached_by w d prev u v = least_over u (λ x. get_or prev x (pos 0) +ℤ entry w d x v) (get_or prev v (pos 0))

pub reached_start : (w : ℕ) (d prev : List ℤ) → length prev ≡ w → prev ≡ list_of w (reached_by w d prev 0)
reached_start w d prev e = list_of_is (reached_by w d prev 0) (pos 0) w prev e (λ j h. refl)

pub reached_next : (w u k : ℕ) (d prev row : List ℤ) (am : ℤ) → u < w → k ≡ w → u * w + k ≤ length d → am ≡ get_or prev u (pos 0)
    → row ≡ list_of w (reached_by w d prev u) → relaxed am (take k (drop (u * w) d)) row ≡ list_of w (reached_by w d prev (u + 1))
reached_next w u k d prev row am h ek fits ea er =
    let mid = take k (drop (u * w) d) in
    let long : length row ≡ w = ap length er ∙ length_list_of (reached_by w d prev u) w in
    ap (λ (n : ℕ). list_of n (relaxed_at am mid row)) long ∙ rw (add-one u) (list_of_same w (relaxed_at am mid row) (reached_by w d prev (suc u)) (λ j l.
    ap (λ (x : ℤ). min_ℤ x (am +ℤ get_or mid j (pos 0))) (ap (λ (x : List ℤ). get_or x j (pos 0)) er ∙ list_of_at (reached_by w d prev u) w j (pos 0) l)
    ∙ ap (λ (x : ℤ). min_ℤ (reached_by w d prev u j) (x +ℤ get_or mid j (pos 0))) ea
    ∙ ap (λ (x : ℤ). min_ℤ (reached_by w d prev u j) (get_or prev u (pos 0) +ℤ x)) (part_at (u * w) k d (pos 0) j (omega arith))))
