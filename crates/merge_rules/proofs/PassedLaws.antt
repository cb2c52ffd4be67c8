-- The first place that passes a test which goes on passing, found from the last place that does not.
-- Key idea: p is the first of the first i places that passes, or i; a place that fails has none that passes before it.
use mathlib.Core.Path.{◌≡◌, sym, ap, ◌∙◌}
use mathlib.Core.Logic.{⊎_elim}
use mathlib.Core.Bool.{Bool, true, false}
use Prim.Native.Nat.{ℕ, ◌+◌, ◌≤◌, ◌<◌}
use native.Mathlib.Omega.{arith}
use native.Mathlib.Nat.{eq-or-lt_of_le}
use native.Mathlib.Decide.{dec_lt}
use Rattle.lists.specs.Members.{false_not_true}
use Rattle.lists.specs.First.{first_place, first_from_lem, first_before, first_at}

pub record Passed (t : ℕ → Bool) (i p : ℕ) : Type 0 where
  pub most : p ≤ i
  pub before : (j : ℕ) → j < p → t j ≡ false
  pub at : p < i → t p ≡ true

module _ (t : ℕ → Bool) where
  pub passed_none : Passed t 0 0
  passed_none = record { most = omega arith; before = λ j h. absurd (omega arith); at = λ h. absurd (omega arith) }

  pub passed_not_yet : (i : ℕ) → ((j : ℕ) → j < i + 1 → t j ≡ false) → Passed t (i + 1) (i + 1)
  passed_not_yet i f = record { most = omega arith; before = f; at = λ h. absurd (omega arith) }

  pub passed_stays : (i p : ℕ) → Passed t i p → t i ≡ true → Passed t (i + 1) p
  passed_stays i p s e = record {
    most = omega (arith, s.most);
    before = s.before;
    at = λ h. ⊎_elim (λ (q : p ≡ i). ap t q ∙ e) s.at (eq-or-lt_of_le s.most);
  }

  pub passed_end : (i p : ℕ) → Passed t i p → p ≡ first_place i t
  passed_end i p s =
      let r = first_place i t in
      elim (dec_lt p r) [
        | yes l ↦ false_not_true (sym (first_before t i p l) ∙ s.at (omega (arith, (first_from_lem t i 0).most)))
        | no g ↦ elim (dec_lt r p) [
          | yes l ↦ false_not_true (sym (s.before r l) ∙ first_at t i (omega (arith, s.most)))
          | no k ↦ omega arith
        ]
      ]
