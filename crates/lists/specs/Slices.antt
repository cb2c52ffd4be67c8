-- A part of a list, and the list with a part replaced, as a lent part comes back or by one store after another.
-- Key idea: the list is what stands before the part, the part, and what stands behind it; a place is in one of the three.
use Rattle.std.specs.Prelude.{◌≡◌, List, [], ◌∷◌, ◌++◌, ℕ, suc, ◌+◌, ◌≤◌, ◌<◌, length, get_or, set, take, drop}
use Rattle.std.proofs.Common.{sym, ap, ◌∙◌, arith, add-zero, length-take, length-drop, length-append, take-append-drop, get_or-take, get_or-drop, get_or-append-add}
use Rattle.std.proofs.Math.ListN.{get_or-append}
use Rattle.std.proofs.lemmas.List.Edits.{sets}
use Rattle.lists.specs.Values.{front_length, front_past, front_part}

pub part_at : {A : Type 0} (i k : ℕ) (t : List A) (d : A) (j : ℕ) → j < k → get_or (take k (drop i t)) j d ≡ get_or t (i + j) d
part_at i k t d j h = get_or-take k (drop i t) j d h ∙ get_or-drop i t j d

pub part_length : {A : Type 0} (i k : ℕ) (t : List A) → i + k ≤ length t → length (take k (drop i t)) ≡ k
part_length i k t h = omega (arith, length-take k (drop i t), length-drop i t)

-- t with the k places from i on replaced by ys
abbrev pub back : {A : Type 0} → ℕ → ℕ → List A → List A → List A
back i k ys t = take i t ++ (ys ++ drop k (drop i t))

module _ {A : Type 0} (i k : ℕ) (ys t : List A) (fits : i + k ≤ length t) (long : length ys ≡ k) where
  front_long : length (take i t ++ ys) ≡ i + k
  front_long = length-append (take i t) ys ∙ (omega (arith, length-take i t))

  back_form : back i k ys t ≡ (take i t ++ ys) ++ drop (i + k) t
  back_form = front_part (take i t) i (omega (arith, length-take i t)) t t (sym (take-append-drop i t)) k ys

  pub back_length : length (back i k ys t) ≡ length t
  back_length = front_length (take i t ++ ys) (i + k) front_long t (back i k ys t) back_form fits

  pub back_past : (n : ℕ) → i + k ≤ n → drop n (back i k ys t) ≡ drop n t
  back_past = front_past (take i t ++ ys) (i + k) front_long t (back i k ys t) back_form

  pub back_before : (j : ℕ) (d : A) → j < i → get_or (back i k ys t) j d ≡ get_or t j d
  back_before j d h =
      get_or-append (take i t) (ys ++ drop k (drop i t)) d j (omega (arith, length-take i t)) ∙ get_or-take i t j d h

  pub back_inside : (j : ℕ) (d : A) → j < k → get_or (back i k ys t) (i + j) d ≡ get_or ys j d
  back_inside j d h =
      let n : length (take i t) ≡ i = omega (arith, length-take i t) in
      ap (λ (m : ℕ). get_or (back i k ys t) (m + j) d) (sym n)
      ∙ get_or-append-add (take i t) (ys ++ drop k (drop i t)) j d
      ∙ get_or-append ys (drop k (drop i t)) d j (omega arith)

-- what is stored from a place on goes on where its first part ends
pub sets_append : {A : Type 0} (xs ys t : List A) (i : ℕ) → sets t i (xs ++ ys) ≡ sets (sets t i xs) (i + length xs) ys
sets_append [] ys t i = ap (λ (k : ℕ). sets t k ys) (sym (add-zero i))
sets_append (x ∷ xs) ys t i =
    let e : suc i + length xs ≡ i + suc (length xs) = omega arith in
    sets_append xs ys (set t i x) (suc i) ∙ ap (λ (k : ℕ). sets (sets (set t i x) (suc i) xs) k ys) e
