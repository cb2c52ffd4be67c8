-- How many of the places below n pass a test, and the laws that make a count behave as the size of a set.
use Rattle.std.specs.Prelude.{◌≡◌, refl, ◌⊎◌, ◌≢◌, Bool, true, false, List, [], ◌∷◌, ℕ, zero, suc, ◌+◌, ◌≤◌, ◌<◌, T, length, get_or}
use Rattle.std.proofs.Common.{sym, ap, ◌∙◌, subst, ⊎_elim, arith, eq-or-lt_of_le, le_of_suc-le-suc}
use Rattle.std.proofs.Math.Decide.{ℕ_discrete}
use Rattle.lists.specs.Lists.{run, one_if, how_many}

unfoldable pub count : ℕ → (ℕ → Bool) → ℕ
count zero t = 0
count (suc n) t = one_if (t n) + count n t

-- a set inside another is no larger
pub one_if_le : (a b : Bool) → (T a → T b) → one_if a ≤ one_if b
one_if_le true true f = omega arith
one_if_le true false f = absurd (f tt)
one_if_le false b f = omega arith

pub count_le : (n : ℕ) (t u : ℕ → Bool) → ((j : ℕ) → j < n → T (t j) → T (u j)) → count n t ≤ count n u
unfolding count
count_le zero t u f = omega arith
count_le (suc n) t u f = omega (arith, one_if_le (t n) (u n) (f n (omega arith)), count_le n t u (λ j h. f j (omega arith)))

-- a set inside two others together is no larger than both
one_if_or : (a b c : Bool) → (T a → T b ⊎ T c) → one_if a ≤ one_if b + one_if c
one_if_or true true c f = omega arith
one_if_or true false true f = omega arith
one_if_or true false false f = absurd (⊎_elim (λ x. x) (λ x. x) (f tt))
one_if_or false b c f = omega arith

pub count_or : (n : ℕ) (t u v : ℕ → Bool) → ((j : ℕ) → j < n → T (t j) → T (u j) ⊎ T (v j)) → count n t ≤ count n u + count n v
unfolding count
count_or zero t u v f = omega arith
count_or (suc n) t u v f = omega (arith, one_if_or (t n) (u n) (v n) (f n (omega arith)), count_or n t u v (λ j h. f j (omega arith)))

-- one place fewer
one_if_one : (a : Bool) → T a → 1 ≤ one_if a
one_if_one true h = omega arith
one_if_one false h = absurd h

one_if_none : (a : Bool) → (T a → ⊥) → one_if a ≤ 0
one_if_none true h = absurd (h tt)
one_if_none false h = omega arith

pub count_lt : (n : ℕ) (t u : ℕ → Bool) (j : ℕ) → j < n → T (u j) → (T (t j) → ⊥) → ((i : ℕ) → i < n → T (t i) → T (u i)) → count n t < count n u
unfolding count
count_lt zero t u j h p q f = absurd (omega arith)
count_lt (suc n) t u j h p q f =
    ⊎_elim
    (λ (e : j ≡ n).
    let one = one_if_one (u n) (subst (λ i. T (u i)) e p) in
    let none = one_if_none (t n) (subst (λ i. T (t i) → ⊥) e q) in
    omega (arith, count_le n t u (λ i l. f i (omega arith))))
    (λ l. omega (arith, one_if_le (t n) (u n) (f n (omega arith)), count_lt n t u j l p q (λ i l'. f i (omega arith))))
    (eq-or-lt_of_le (le_of_suc-le-suc h))

pub one_if_most : (a : Bool) → one_if a ≤ 1
one_if_most true = omega arith
one_if_most false = omega arith

-- at most one place more
pub count_suc : (n : ℕ) (t u : ℕ → Bool) (j : ℕ) → ((i : ℕ) → i < n → i ≢ j → T (u i) → T (t i)) → count n u ≤ suc (count n t)
unfolding count
count_suc zero t u j f = omega arith
count_suc (suc n) t u j f =
    elim (ℕ_discrete n j) [
      | yes e ↦ omega (arith, one_if_most (u n), count_le n u t (λ i l. f i (omega arith) (omega arith)))
      | no ne ↦ omega (arith, one_if_le (u n) (t n) (f n (omega arith) ne), count_suc n t u j (λ i l. f i (omega arith)))
    ]

-- a count above 0 has a place
pub count_find : (n : ℕ) (t : ℕ → Bool) → 0 < count n t → (j : ℕ) × (j < n) × T (t j)
unfolding count
count_find zero t h = absurd (omega arith)
count_find (suc n) t h = go (t n) refl (count_find n t) h
  where
    go : (b : Bool) → t n ≡ b → (0 < count n t → (j : ℕ) × (j < n) × T (t j)) → 0 < one_if b + count n t → (j : ℕ) × (j < suc n) × T (t j)
    go true e r l = (n, omega arith, subst T (sym e) tt)
    go false e r l = let p = r (omega arith) in (p.0, omega (arith, p.1), p.2)

-- no place at all
pub count_none : (n : ℕ) (t : ℕ → Bool) → count n t ≡ 0 → (j : ℕ) → j < n → T (t j) → ⊥
count_none n t e j l p = omega (arith, count_lt n (λ _. false) t j l p (λ x. x) (λ i h x. absurd x))

-- every place, and no place
pub count_all : (n : ℕ) (t : ℕ → Bool) → ((j : ℕ) → j < n → T (t j)) → n ≤ count n t
unfolding count
count_all zero t f = omega arith
count_all (suc n) t f = omega (arith, one_if_one (t n) (f n (omega arith)), count_all n t (λ j h. f j (omega arith)))

pub count_empty : (n : ℕ) (t : ℕ → Bool) → ((j : ℕ) → j < n → T (t j) → ⊥) → count n t ≤ 0
unfolding count
count_empty zero t f = omega arith
count_empty (suc n) t f = omega (arith, one_if_none (t n) (f n (omega arith)), count_empty n t (λ j h. f j (omega arith)))

-- counted from the front
count_front : (n : ℕ) (t : ℕ → Bool) → count (suc n) t ≡ one_if (t 0) + count n (λ j. t (suc j))
unfolding count
count_front zero t = refl
count_front (suc n) t = omega (arith, count_front n t)

pub count_most : (n : ℕ) (t : ℕ → Bool) → count n t ≤ n
unfolding count
count_most zero t = omega arith
count_most (suc n) t = omega (arith, one_if_most (t n), count_most n t)

-- ---- counts of a list, as counts of places
pub how_many_count : {A : Type 0} (t : A → Bool) (d : A) (xs : List A) → how_many t xs ≡ count (length xs) (λ j. t (get_or xs j d))
unfolding count
how_many_count t d [] = refl
how_many_count t d (x ∷ xs) = omega (arith, how_many_count t d xs, count_front (length xs) (λ j. t (get_or (x ∷ xs) j d)))

-- a count of numbers from a on, by a test that is the same place by place
pub run_count : (t u : ℕ → Bool) (a k : ℕ) → ((j : ℕ) → j < k → t (a + j) ≡ u j) → how_many t (run a k) ≡ count k u
unfolding count
run_count t u a zero f = refl
run_count t u a (suc k) f =
    let first : a ≡ a + 0 = omega arith in
    let rest = run_count t (λ j. u (suc j)) (suc a) k (λ j h. let e : suc a + j ≡ a + suc j = omega arith in ap t e ∙ f (suc j) (omega arith)) in
    omega (arith, ap one_if (ap t first ∙ f 0 (omega arith)), rest, count_front k u)

-- no more are counted than there are
pub how_many_most : {A : Type 0} (t : A → Bool) (xs : List A) → how_many t xs ≤ length xs
how_many_most t [] = omega arith
how_many_most t (x ∷ xs) = omega (arith, one_if_most (t x), how_many_most t xs)

pub one_if_split : (p q r : Bool) → (T p → T q ⊎ T r) → (T q → T p) → (T r → T p) → (T q → T r → ⊥) → one_if p ≡ one_if q + one_if r
one_if_split true true true f g h k = absurd (k tt tt)
one_if_split true true false f g h k = refl
one_if_split true false true f g h k = refl
one_if_split true false false f g h k = absurd (⊎_elim (λ x. x) (λ x. x) (f tt))
one_if_split false true r f g h k = absurd (g tt)
one_if_split false false true f g h k = absurd (h tt)
one_if_split false false false f g h k = refl

-- a set in two parts
pub count_split : (n : ℕ) (p q r : ℕ → Bool) → ((j : ℕ) → j < n → T (p j) → T (q j) ⊎ T (r j)) → ((j : ℕ) → j < n → T (q j) → T (p j))
    → ((j : ℕ) → j < n → T (r j) → T (p j)) → ((j : ℕ) → j < n → T (q j) → T (r j) → ⊥) → count n p ≡ count n q + count n r
unfolding count
count_split zero p q r f g h k = refl
count_split (suc n) p q r f g h k = omega (
  arith,
  one_if_split (p n) (q n) (r n) (f n (omega arith)) (g n (omega arith)) (h n (omega arith)) (k n (omega arith)),
  count_split n p q r (λ j l. f j (omega arith)) (λ j l. g j (omega arith)) (λ j l. h j (omega arith)) (λ j l. k j (omega arith)),
)
