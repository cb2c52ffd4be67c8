-- A search for the first entry of a list that passes a test: as a test of all entries, and as the front of those that pass.
-- Key idea: each is an induction on the list; past an entry that fails, the search is that of the entries behind it, one place further on.
use Rattle.std.specs.Prelude.{ℕ, zero, suc, ◌+◌, ◌≤◌, ◌<◌, ◌≡◌, refl, Bool, true, false, ◌&&◌, not, cond, List, [], ◌∷◌, ltb, length, get_or}
use Rattle.std.specs.Prelude.{Option, Some, None, IfSome, MatchOption}
use Rattle.std.specs.Option.{unwrap_or}
use Rattle.std.specs.List.{position_or_len, position}
use Rattle.std.proofs.lemmas.List.Recursion.{is_position_or_len}
use Rattle.std.proofs.lemmas.List.Sums.{prefix_len-le-length}
use Rattle.std.proofs.Common.{sym, ap, ap₂, ◌∙◌, arith, lt-ltb, ltb-true, ltb-false, one-add}
use Rattle.std.proofs.Math.Dec.{leb-suc-suc}
use Rattle.lists.specs.Lists.{every, keep, cons_if}
use Rattle.lists.specs.First.{first_from, first_place}
use Rattle.sheet.specs.Sheet.{head_or}

-- tests that agree find the same place
pub first_same : (t u : ℕ → Bool) (k i : ℕ) → ((j : ℕ) → i ≤ j → j < i + k → t j ≡ u j) → first_from k i t ≡ first_from k i u
first_same t u zero i same = refl
first_same t u (suc k) i same =
    ap₂ (λ (b : Bool) (r : ℕ). cond b i r) (same i (omega arith) (omega arith)) (first_same t u k (suc i) (λ j a b. same j (omega arith) (omega arith)))

-- one place further on
first_shifted : (t : ℕ → Bool) (k i : ℕ) → first_from k (suc i) t ≡ suc (first_from k i (λ j. t (suc j)))
first_shifted t zero i = refl
first_shifted t (suc k) i = go (t (suc i)) (first_shifted t k (suc i))
  where
    go : (b : Bool) → first_from k (suc (suc i)) t ≡ suc (first_from k (suc i) (λ j. t (suc j)))
        → cond b (suc i) (first_from k (suc (suc i)) t) ≡ suc (cond b i (first_from k (suc i) (λ j. t (suc j))))
    go true e = refl
    go false e = e

module _ {A : Type 0} (t : A → Bool) (d : A) where
  -- the place of the first entry that passes, or the list's length
  abbrev pub first_in : List A → ℕ
  first_in xs = first_place (length xs) (λ j. t (get_or xs j d))

  pub first_cons : (x : A) (xs : List A) → first_in (x ∷ xs) ≡ cond (t x) 0 (suc (first_in xs))
  first_cons x xs = ap (cond (t x) 0) (first_shifted (λ j. t (get_or (x ∷ xs) j d)) (length xs) 0)

  -- no entry passes exactly where the search comes to the end
  pub none_first : (xs : List A) → every (λ x. not (t x)) xs ≡ not (ltb (first_in xs) (length xs))
  none_first [] = refl
  none_first (x ∷ xs) = go (t x) (none_first xs) ∙ ap (λ (r : ℕ). not (ltb r (suc (length xs)))) (sym (first_cons x xs))
    where
      go : (b : Bool) → every (λ x. not (t x)) xs ≡ not (ltb (first_in xs) (length xs))
          → (not b && every (λ x. not (t x)) xs) ≡ not (ltb (cond b 0 (suc (first_in xs))) (suc (length xs)))
      go true e = ap not (sym (lt-ltb 0 (suc (length xs)) (omega arith)))
      go false e = e ∙ ap not (sym (leb-suc-suc (suc (first_in xs)) (length xs)))

  -- the entry there is the first of those that pass
  pub head_first : (xs : List A) → head_or d (keep t xs) ≡ get_or xs (first_in xs) d
  head_first [] = refl
  head_first (x ∷ xs) = go (t x) (head_first xs) ∙ ap (λ (r : ℕ). get_or (x ∷ xs) r d) (sym (first_cons x xs))
    where
      go : (b : Bool) → head_or d (keep t xs) ≡ get_or xs (first_in xs) d
          → head_or d (cons_if b x (keep t xs)) ≡ get_or (x ∷ xs) (cond b 0 (suc (first_in xs))) d
      go true e = refl
      go false e = e

  -- ---- the search of std's lists

  pub first_is : (xs : List A) → first_in xs ≡ position_or_len t xs
  first_is = is_position_or_len first_in t refl (λ x xs. first_cons x xs ∙ ap (cond (t x) 0) (sym (one-add (first_in xs))))

  pub position_is : (xs : List A) → position t xs ≡ cond (ltb (first_in xs) (length xs)) (Some (first_in xs)) None
  position_is xs = ap (λ (p : ℕ). cond (ltb p (length xs)) (Some p) None) (sym (first_is xs))

  -- the end of the list where nothing is found
  pub first_or_end : (xs : List A) → unwrap_or (position t xs) (length xs) ≡ first_in xs
  first_or_end xs = ap (λ (o : Option ℕ). unwrap_or o (length xs)) (position_is xs) ∙ go (ltb (first_in xs) (length xs)) refl
    where
      go : (b : Bool) → ltb (first_in xs) (length xs) ≡ b → unwrap_or (cond b (Some (first_in xs)) None) (length xs) ≡ first_in xs
      go true e = refl
      go false e = omega (arith, ltb-false _ _ e, first_is xs, prefix_len-le-length (λ x. not (t x)) xs)

  pub found_first : (xs : List A) (j : ℕ) → Some j ≡ position t xs → (j ≡ first_in xs) × (first_in xs < length xs)
  found_first xs j is = go (ltb (first_in xs) (length xs)) refl (is ∙ position_is xs)
    where
      go : (b : Bool) → ltb (first_in xs) (length xs) ≡ b → Some j ≡ cond b (Some (first_in xs)) None → (j ≡ first_in xs) × (first_in xs < length xs)
      go true e is = (cc, ltb-true _ _ e)
      go false e is = absurd cc

  pub none_found : (xs : List A) → ((j : ℕ) → position t xs ≡ Some j → ⊥) → length xs ≤ first_in xs
  none_found xs not_some = go (ltb (first_in xs) (length xs)) refl (position_is xs)
    where
      go : (b : Bool) → ltb (first_in xs) (length xs) ≡ b → position t xs ≡ cond b (Some (first_in xs)) None → length xs ≤ first_in xs
      go true e is = absurd (not_some (first_in xs) is)
      go false e is = ltb-false _ _ e
