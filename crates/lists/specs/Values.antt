-- Lists that are given by their values, and lists that are filled from the front.
-- Key idea: a list is known by its length and its value at each place. So a list that is filled in place is what is done, in front, and what is left of
-- the old list behind it; a store moves the seam between the two by one, and a lent part that comes back moves it by the part's length.
use Rattle.std.specs.Prelude.{◌≡◌, refl, List, [], ◌∷◌, ◌++◌, map, ℕ, zero, suc, ◌+◌, ◌-◌, ◌≤◌, ◌<◌, length, get_or, take, drop, set, replicate}
use Rattle.std.proofs.Common.{sym, ap, ap₂, ◌∙◌, append_assoc, append-nil, arith, add-one, length-append, length-drop, drop_of_length-le, ext_get_or, take_at, drop_at, drop-drop, drop-cons, get_or-drop, get_or-take}
use Rattle.std.proofs.lemmas.List.{length-replicate, get_or-replicate, set_at}
use Rattle.std.proofs.Math.Seq.{append_snoc}
use Rattle.lists.specs.Lists.{run}

-- the n values g 0, g 1, ..
abbrev pub list_of {ℓ} : {A : Type ℓ} → ℕ → (ℕ → A) → List A
list_of n g = map g (run 0 n)

-- the first i places of t hold the values of g, and the others what t₀ has there
abbrev pub Filled : {A : Type 0} → (ℕ → A) → ℕ → List A → List A → Type 0
Filled g i t₀ t = t ≡ list_of i g ++ drop i t₀

-- ---- the first n places of t hold xs, and the others what t₀ has there
module _ {A : Type 0} (xs : List A) (n : ℕ) (l : length xs ≡ n) (t₀ t : List A) (f : t ≡ xs ++ drop n t₀) where
  pub front_length : n ≤ length t₀ → length t ≡ length t₀
  front_length h = ap length f ∙ length-append xs (drop n t₀) ∙ (omega (arith, length-drop n t₀))

  front_take : take n t ≡ xs
  front_take = ap (take n) f ∙ take_at xs (drop n t₀) n l

  pub front_rest : drop n t ≡ drop n t₀
  front_rest = ap (drop n) f ∙ drop_at xs (drop n t₀) n l

  pub front_past : (k : ℕ) → n ≤ k → drop k t ≡ drop k t₀
  front_past k h =
      let e : n + (k - n) ≡ k = omega arith in
      ap (λ (i : ℕ). drop i t) (sym e) ∙ sym (drop-drop (k - n) n t) ∙ ap (drop (k - n)) front_rest ∙ drop-drop (k - n) n t₀ ∙ ap (λ (i : ℕ). drop i t₀) e

  front_old : (j : ℕ) (d : A) → n ≤ j → get_or t j d ≡ get_or t₀ j d
  front_old j d h =
      let e : n + (j - n) ≡ j = omega arith in
      ap (λ (i : ℕ). get_or t i d) (sym e) ∙ sym (get_or-drop n t (j - n) d) ∙ ap (λ (l : List A). get_or l (j - n) d) front_rest
      ∙ get_or-drop n t₀ (j - n) d ∙ ap (λ (i : ℕ). get_or t₀ i d) e

  -- a lent part of k places comes back as ys
  pub front_part : (k : ℕ) (ys : List A) → take n t ++ (ys ++ drop k (drop n t)) ≡ (xs ++ ys) ++ drop (n + k) t₀
  front_part k ys = rw (front_take, front_rest, drop-drop k n t₀) (sym (append_assoc xs ys (drop (n + k) t₀)))

module _ {A : Type 0} (g : ℕ → A) where
  -- ---- k values from the value at i on
  pub length_values : (i k : ℕ) → length (map g (run i k)) ≡ k
  length_values i zero = refl
  length_values i (suc k) = ap suc (length_values (suc i) k)

  pub values_at : (i k j : ℕ) (d : A) → j < k → get_or (map g (run i k)) j d ≡ g (i + j)
  values_at i zero j d h = absurd (omega arith)
  values_at i (suc k) zero d h = let e : i ≡ i + 0 = omega arith in ap g e
  values_at i (suc k) (suc j) d h = let e : suc i + j ≡ i + suc j = omega arith in values_at (suc i) k j d (omega arith) ∙ ap g e

  values_append : (i j k : ℕ) → map g (run i (j + k)) ≡ map g (run i j) ++ map g (run (i + j) k)
  values_append i zero k =
      let e : i ≡ i + 0 = omega arith in
      let f : 0 + k ≡ k = omega arith in
      ap (λ (n : ℕ). map g (run i n)) f ∙ ap (λ (n : ℕ). map g (run n k)) e
  values_append i (suc j) k =
      let e : suc i + j ≡ i + suc j = omega arith in
      let f : suc j + k ≡ suc (j + k) = omega arith in
      ap (λ (n : ℕ). map g (run i n)) f
      ∙ ap (λ (l : List A). g i ∷ l) (values_append (suc i) j k ∙ ap (λ (n : ℕ). map g (run (suc i) j) ++ map g (run n k)) e)

  -- a list with these values is this list
  pub values_are : (d : A) (i k : ℕ) (xs : List A) → length xs ≡ k → ((j : ℕ) → j < k → get_or xs j d ≡ g (i + j)) → xs ≡ map g (run i k)
  values_are d i k xs e f = ext_get_or d xs (map g (run i k)) (e ∙ sym (length_values i k))
      (λ j h. f j (omega arith) ∙ sym (values_at i k j d (omega arith)))

  -- ---- n values
  pub length_list_of : (n : ℕ) → length (list_of n g) ≡ n
  length_list_of n = length_values 0 n

  pub list_of_at : (n j : ℕ) (d : A) → j < n → get_or (list_of n g) j d ≡ g j
  list_of_at n j d h = let e : 0 + j ≡ j = omega arith in values_at 0 n j d h ∙ ap g e

  pub list_of_is : (d : A) (n : ℕ) (xs : List A) → length xs ≡ n → ((j : ℕ) → j < n → get_or xs j d ≡ g j) → xs ≡ list_of n g
  list_of_is d n xs e f = values_are d 0 n xs e (λ j h. let q : j ≡ 0 + j = omega arith in f j h ∙ ap g q)

  -- ---- a list that is filled
  module _ (i : ℕ) (t₀ t : List A) (f : Filled g i t₀ t) where
    pub filled_old : (j : ℕ) (d : A) → i ≤ j → get_or t j d ≡ get_or t₀ j d
    filled_old = front_old (list_of i g) i (length_list_of i) t₀ t f

    pub filled_new : (j : ℕ) (d : A) → j < i → get_or t j d ≡ g j
    filled_new j d h =
        sym (get_or-take i t j d h) ∙ ap (λ (l : List A). get_or l j d) (front_take (list_of i g) i (length_list_of i) t₀ t f) ∙ list_of_at i j d h

    -- the whole list is filled
    pub filled_all : length t₀ ≤ i → t ≡ list_of i g
    filled_all h = f ∙ ap (λ (l : List A). list_of i g ++ l) (drop_of_length-le t₀ h) ∙ append-nil (list_of i g)

    -- a lent part of k places comes back with the next k values
    pub filled_part : (k : ℕ) (ys : List A) → ys ≡ map g (run i k) → Filled g (i + k) t₀ (take i t ++ (ys ++ drop k (drop i t)))
    filled_part k ys e =
        let z : i ≡ 0 + i = omega arith in
        front_part (list_of i g) i (length_list_of i) t₀ t f k ys
        ∙ ap (λ (l : List A). l ++ drop (i + k) t₀) (ap (λ (l : List A). list_of i g ++ l) (e ∙ ap (λ (n : ℕ). map g (run n k)) z) ∙ sym (values_append 0 i k))

    -- the next value is stored
    pub filled_store : (v : A) → i < length t₀ → v ≡ g i → Filled g (i + 1) t₀ (set t i v)
    filled_store v h e =
        let z : 0 + i ≡ i = omega arith in
        ap (λ (l : List A). set l i v) (f ∙ ap (λ (l : List A). list_of i g ++ l) (drop-cons t₀ i v h))
        ∙ set_at (list_of i g) (get_or t₀ i v) (drop (suc i) t₀) v i (length_list_of i)
        ∙ sym (append_snoc (list_of i g) v (drop (suc i) t₀))
        ∙ rw (add-one i) (ap (λ (l : List A). l ++ drop (suc i) t₀)
        (ap (λ (x : A). list_of i g ++ (x ∷ [])) (e ∙ ap g (sym z)) ∙ sym (values_append 0 i 1) ∙ ap (λ (n : ℕ). list_of n g) (add-one i)))

-- ---- the same values make the same list
pub values_same : {A : Type 0} (f g : ℕ → A) (i k : ℕ) → ((j : ℕ) → i ≤ j → j < i + k → f j ≡ g j) → map f (run i k) ≡ map g (run i k)
values_same f g i zero h = refl
values_same f g i (suc k) h = ap₂ (λ x xs. x ∷ xs) (h i (omega arith) (omega arith)) (values_same f g (suc i) k (λ j a b. h j (omega arith) (omega arith)))

pub list_of_same : {A : Type 0} (n : ℕ) (f g : ℕ → A) → ((j : ℕ) → j < n → f j ≡ g j) → list_of n f ≡ list_of n g
list_of_same n f g h = values_same f g 0 n (λ j a b. h j (omega arith))

pub replicate_values : {A : Type 0} (n : ℕ) (v : A) → replicate n v ≡ list_of n (λ _. v)
replicate_values n v = list_of_is (λ _. v) v n (replicate n v) (length-replicate n v) (λ j h. get_or-replicate n j v v h)
