-- The first place that passes a test, as a search from the front finds it.
use Rattle.std.specs.Prelude.{◌≡◌, refl, Bool, true, false, cond, ℕ, zero, suc, ◌+◌, ◌-◌, ◌≤◌, ◌<◌}
use Rattle.std.proofs.Common.{sym, ap, ◌∙◌, ⊎_elim, arith, eq-or-lt_of_le, add-one}

-- the first of the k places from i on that passes, or the place behind them
abbrev pub first_from : ℕ → ℕ → (ℕ → Bool) → ℕ
first_from zero i t = i
first_from (suc k) i t = cond (t i) i (first_from k (suc i) t)

-- the first place below n that passes, or n
abbrev pub first_place : ℕ → (ℕ → Bool) → ℕ
first_place n t = first_from n 0 t

module _ (t : ℕ → Bool) where
  -- ---- one place of the search
  next : (n i : ℕ) → i < n → first_from (n - i) i t ≡ cond (t i) i (first_from (n - (i + 1)) (i + 1) t)
  next n i h =
      let e : n - i ≡ suc (n - (i + 1)) = omega arith in
      ap (λ (k : ℕ). first_from k i t) e ∙ ap (λ (j : ℕ). cond (t i) i (first_from (n - (i + 1)) j t)) (sym (add-one i))

  pub first_passed : (n i : ℕ) → i < n → t i ≡ true → first_from (n - i) i t ≡ i
  first_passed n i h e = next n i h ∙ ap (λ (b : Bool). cond b i (first_from (n - (i + 1)) (i + 1) t)) e

  pub first_failed : (n i : ℕ) → i < n → t i ≡ false → first_from (n - (i + 1)) (i + 1) t ≡ first_from (n - i) i t
  first_failed n i h e = sym (next n i h ∙ ap (λ (b : Bool). cond b i (first_from (n - (i + 1)) (i + 1) t)) e)

  pub first_none : (n i : ℕ) → n ≤ i → first_from (n - i) i t ≡ i
  first_none n i h = let e : n - i ≡ 0 = omega arith in ap (λ (k : ℕ). first_from k i t) e

  -- ---- what was found
  pub record From (k i r : ℕ) : Type 0 where
    pub most : r ≤ i + k
    pub least : i ≤ r
    pub before : (j : ℕ) → i ≤ j → j < r → t j ≡ false
    pub at : r < i + k → t r ≡ true

  pub first_from_lem : (k i : ℕ) → From k i (first_from k i t)
  first_from_lem zero i = record { most = omega arith; least = omega arith; before = λ j a b. absurd (omega arith); at = λ h. absurd (omega arith) }
  first_from_lem (suc k) i = go (t i) refl (first_from_lem k (suc i))
    where
      go : (b : Bool) → t i ≡ b → From k (suc i) (first_from k (suc i) t) → From (suc k) i (cond b i (first_from k (suc i) t))
      go true e r = record { most = omega arith; least = omega arith; before = λ j a b. absurd (omega arith); at = λ h. e }
      go false e r = record {
        most = omega (arith, r.most);
        least = omega (arith, r.least);
        before = λ j a b. ⊎_elim (λ (q : i ≡ j). ap t (sym q) ∙ e) (λ l. r.before j l b) (eq-or-lt_of_le a);
        at = λ h. r.at (omega arith);
      }

  pub first_before : (n j : ℕ) → j < first_place n t → t j ≡ false
  first_before n j h = (first_from_lem n 0).before j (omega arith) h

  pub first_at : (n : ℕ) → first_place n t < n → t (first_place n t) ≡ true
  first_at n h = (first_from_lem n 0).at (omega arith)
