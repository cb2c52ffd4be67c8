-- The last place that passes a test, as a search from the back finds it.
use Rattle.std.specs.Prelude.{◌≡◌, refl, Bool, true, false, cond, ℕ, zero, suc, ◌-◌, ◌<◌}
use Rattle.std.proofs.Common.{sym, ap, ap₂, ◌∙◌, arith}

-- the last of the first j places that passes, or else the place `none`
abbrev pub last_below : ℕ → ℕ → (ℕ → Bool) → ℕ
last_below none zero t = none
last_below none (suc j) t = cond (t j) j (last_below none j t)

-- the last place below n that passes, or n
abbrev pub last_passing : ℕ → (ℕ → Bool) → ℕ
last_passing n t = last_below n n t

-- tests that agree find the same place
pub last_same : (t u : ℕ → Bool) (none k : ℕ) → ((j : ℕ) → j < k → t j ≡ u j) → last_below none k t ≡ last_below none k u
last_same t u none zero same = refl
last_same t u none (suc k) same =
    ap₂ (λ (b : Bool) (r : ℕ). cond b k r) (same k (omega arith)) (last_same t u none k (λ j h. same j (omega arith)))

-- ---- one place of the search, from the back
module _ (t : ℕ → Bool) (none n : ℕ) (some : 0 < n) where
  next : last_below none n t ≡ cond (t (n - 1)) (n - 1) (last_below none (n - 1) t)
  next = let e : n ≡ suc (n - 1) = omega arith in ap (λ (k : ℕ). last_below none k t) e

  pub last_passed : t (n - 1) ≡ true → n - 1 ≡ last_below none n t
  last_passed e = sym (next ∙ ap (λ (b : Bool). cond b (n - 1) (last_below none (n - 1) t)) e)

  pub last_failed : t (n - 1) ≡ false → last_below none (n - 1) t ≡ last_below none n t
  last_failed e = sym (next ∙ ap (λ (b : Bool). cond b (n - 1) (last_below none (n - 1) t)) e)
