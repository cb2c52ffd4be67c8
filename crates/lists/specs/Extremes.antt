-- The least and the greatest number of a list, as bounds that are attained.
use Rattle.std.specs.Prelude.{◌≡◌, refl, ◌⊎◌, List, [], ◌∷◌, ℕ, ◌≤◌, min, max}
use Rattle.std.proofs.Common.{◌∙◌, inl, inr, ⊎_elim, arith}
use Rattle.std.proofs.Math.Logic.{⊎_map}
use mathlib.Core.List.Memᴰ
use Rattle.std.proofs.Math.Decide.{dec_le}
use Rattle.lists.specs.Lists.{smallest, largest, least, greatest}
use Rattle.lists.specs.Members.{In}

-- `largest n xs` bounds n and each entry, and is one of them
pub largest_base : (n : ℕ) (xs : List ℕ) → n ≤ largest n xs
largest_base n [] = omega arith
largest_base n (x ∷ xs) = omega (arith, largest_base n xs)

pub largest_ge : (n : ℕ) (x : ℕ) (xs : List ℕ) → In x xs → x ≤ largest n xs
largest_ge n x [] h = absurd (Memᴰ.not-nil h)
largest_ge n x (y ∷ ys) h = ⊎_elim (λ e. omega arith) (λ m. omega (arith, largest_ge n x ys m)) (Memᴰ.cases_cons h)

pub largest_in : (n : ℕ) (xs : List ℕ) → (largest n xs ≡ n) ⊎ In (largest n xs) xs
largest_in n [] = inl refl
largest_in n (y ∷ ys) = elim (dec_le (largest n ys) y) [
  | yes l ↦ inr (Memᴰ.head {x = y} (omega arith))
  | no g ↦ let e : max y (largest n ys) ≡ largest n ys = omega arith in
      ⊎_map (λ q. e ∙ q) (λ m. Memᴰ.tail (rw e m)) (largest_in n ys)
]

pub smallest_base : (n : ℕ) (xs : List ℕ) → smallest n xs ≤ n
smallest_base n [] = omega arith
smallest_base n (x ∷ xs) = omega (arith, smallest_base n xs)

pub smallest_le : (n : ℕ) (x : ℕ) (xs : List ℕ) → In x xs → smallest n xs ≤ x
smallest_le n x [] h = absurd (Memᴰ.not-nil h)
smallest_le n x (y ∷ ys) h = ⊎_elim (λ e. omega arith) (λ m. omega (arith, smallest_le n x ys m)) (Memᴰ.cases_cons h)

pub smallest_in : (n : ℕ) (xs : List ℕ) → (smallest n xs ≡ n) ⊎ In (smallest n xs) xs
smallest_in n [] = inl refl
smallest_in n (y ∷ ys) = elim (dec_le y (smallest n ys)) [
  | yes l ↦ inr (Memᴰ.head {x = y} (omega arith))
  | no g ↦ let e : min y (smallest n ys) ≡ smallest n ys = omega arith in
      ⊎_map (λ q. e ∙ q) (λ m. Memᴰ.tail (rw e m)) (smallest_in n ys)
]

pub greatest_ge : (x : ℕ) (xs : List ℕ) → In x xs → x ≤ greatest xs
greatest_ge x [] h = absurd (Memᴰ.not-nil h)
greatest_ge x (y ∷ ys) h = ⊎_elim (λ e. omega (arith, largest_base y ys)) (λ m. largest_ge y x ys m) (Memᴰ.cases_cons h)

pub greatest_in_lem : (x : ℕ) (xs : List ℕ) → In x xs → In (greatest xs) xs
greatest_in_lem x [] h = absurd (Memᴰ.not-nil h)
greatest_in_lem x (y ∷ ys) h = ⊎_elim (λ e. Memᴰ.head e) (λ m. Memᴰ.tail m) (largest_in y ys)

pub greatest_below : (g : ℕ) (xs : List ℕ) → ((x : ℕ) → In x xs → x ≤ g) → greatest xs ≤ g
greatest_below g [] f = omega arith
greatest_below g (y ∷ ys) f = f (greatest (y ∷ ys)) (greatest_in_lem y (y ∷ ys) (Memᴰ.head refl))

-- the number that is attained and bounds all is the greatest
pub greatest_is : (g : ℕ) (xs : List ℕ) → In g xs → ((x : ℕ) → In x xs → x ≤ g) → greatest xs ≡ g
greatest_is g xs h f = omega (arith, greatest_ge g xs h, greatest_below g xs f)

pub least_le : (x : ℕ) (xs : List ℕ) → In x xs → least xs ≤ x
least_le x [] h = absurd (Memᴰ.not-nil h)
least_le x (y ∷ ys) h = ⊎_elim (λ e. omega (arith, smallest_base y ys)) (λ m. smallest_le y x ys m) (Memᴰ.cases_cons h)

pub least_in_lem : (x : ℕ) (xs : List ℕ) → In x xs → In (least xs) xs
least_in_lem x [] h = absurd (Memᴰ.not-nil h)
least_in_lem x (y ∷ ys) h = ⊎_elim (λ e. Memᴰ.head e) (λ m. Memᴰ.tail m) (smallest_in y ys)

pub least_is : (g : ℕ) (xs : List ℕ) → In g xs → ((x : ℕ) → In x xs → g ≤ x) → least xs ≡ g
least_is g xs h f = omega (arith, least_le g xs h, f (least xs) (least_in_lem g xs h))

-- ---- lists whose numbers are among another's, and lists of the same numbers
pub least_more : (x : ℕ) (xs ys : List ℕ) → In x xs → ((k : ℕ) → In k xs → In k ys) → least ys ≤ least xs
least_more x xs ys m f = least_le (least xs) ys (f (least xs) (least_in_lem x xs m))

pub greatest_more : (x : ℕ) (xs ys : List ℕ) → In x xs → ((k : ℕ) → In k xs → In k ys) → greatest xs ≤ greatest ys
greatest_more x xs ys m f = greatest_ge (greatest xs) ys (f (greatest xs) (greatest_in_lem x xs m))

pub least_same : (xs ys : List ℕ) → ((k : ℕ) → In k xs → In k ys) → ((k : ℕ) → In k ys → In k xs) → least xs ≡ least ys
least_same [] [] f g = refl
least_same [] (y ∷ ys) f g = absurd (Memᴰ.not-nil (g y (Memᴰ.head refl)))
least_same (x ∷ xs) [] f g = absurd (Memᴰ.not-nil (f x (Memᴰ.head refl)))
least_same (x ∷ xs) (y ∷ ys) f g =
    omega (arith, least_more x (x ∷ xs) (y ∷ ys) (Memᴰ.head refl) f, least_more y (y ∷ ys) (x ∷ xs) (Memᴰ.head refl) g)

pub greatest_same : (xs ys : List ℕ) → ((k : ℕ) → In k xs → In k ys) → ((k : ℕ) → In k ys → In k xs) → greatest xs ≡ greatest ys
greatest_same [] [] f g = refl
greatest_same [] (y ∷ ys) f g = absurd (Memᴰ.not-nil (g y (Memᴰ.head refl)))
greatest_same (x ∷ xs) [] f g = absurd (Memᴰ.not-nil (f x (Memᴰ.head refl)))
greatest_same (x ∷ xs) (y ∷ ys) f g =
    omega (arith, greatest_more x (x ∷ xs) (y ∷ ys) (Memᴰ.head refl) f, greatest_more y (y ∷ ys) (x ∷ xs) (Memᴰ.head refl) g)
