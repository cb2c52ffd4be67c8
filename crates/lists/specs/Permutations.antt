-- The same entries in another order, by the library's permutation (`List.Permᴰ`): what stays the same along one.
-- Key idea: a permutation is made of swaps of neighbours, and neither a count nor membership sees a swap.
use Rattle.std.specs.Prelude.{◌≡◌, refl, Bool, suc, ◌+◌, T, length}
use Rattle.std.proofs.Common.{ap, ap₂, ◌∙◌, ⊎_elim, arith}
use mathlib.Core.List.Permᴰ
use mathlib.Core.List.{List, map, Permᴰ}
use mathlib.Core.List.Memᴰ
use Rattle.lists.specs.Lists.{every, how_many, one_if}
use Rattle.lists.specs.Members.{In, every_in, in_every}

module _ {A : Type 0} where
  pub length_perm : {xs ys : List A} → Permᴰ xs ys → length xs ≡ length ys
  length_perm Permᴰ.nil = refl
  length_perm (Permᴰ.cons e p) = ap suc (length_perm p)
  length_perm (Permᴰ.swap e f) = refl
  length_perm (Permᴰ.trans p q) = length_perm p ∙ length_perm q

  pub how_many_perm : (t : A → Bool) {xs ys : List A} → Permᴰ xs ys → how_many t xs ≡ how_many t ys
  how_many_perm t Permᴰ.nil = refl
  how_many_perm t (Permᴰ.cons e p) = ap₂ ◌+◌ (ap (λ a. one_if (t a)) e) (how_many_perm t p)
  how_many_perm t (Permᴰ.swap {a} {b} {a'} {b'} {l} e f) =
      let p = ap (λ x. one_if (t x)) e in let q = ap (λ x. one_if (t x)) f in omega arith
  how_many_perm t (Permᴰ.trans p q) = how_many_perm t p ∙ how_many_perm t q

  pub in_perm : (x : A) {xs ys : List A} → Permᴰ xs ys → In x xs → In x ys
  in_perm x Permᴰ.nil m = m
  in_perm x (Permᴰ.cons e p) m = ⊎_elim (λ q. Memᴰ.head (q ∙ e)) (λ n. Memᴰ.tail (in_perm x p n)) (Memᴰ.cases_cons m)
  in_perm x (Permᴰ.swap e f) m =
      ⊎_elim (λ q. Memᴰ.tail (Memᴰ.head (q ∙ e)))
      (λ n. ⊎_elim (λ q. Memᴰ.head (q ∙ f)) (λ k. Memᴰ.tail (Memᴰ.tail k)) (Memᴰ.cases_cons n)) (Memᴰ.cases_cons m)
  in_perm x (Permᴰ.trans p q) m = in_perm x q (in_perm x p m)

  pub map_perm : {B : Type 0} (f : A → B) {xs ys : List A} → Permᴰ xs ys → Permᴰ (map f xs) (map f ys)
  map_perm f Permᴰ.nil = Permᴰ.nil
  map_perm f (Permᴰ.cons e p) = Permᴰ.cons (ap f e) (map_perm f p)
  map_perm f (Permᴰ.swap e g) = Permᴰ.swap (ap f e) (ap f g)
  map_perm f (Permᴰ.trans p q) = Permᴰ.trans (map_perm f p) (map_perm f q)

  pub every_perm : (t : A → Bool) {xs ys : List A} → Permᴰ xs ys → T (every t xs) → T (every t ys)
  every_perm t {xs} {ys} p h = in_every t ys (λ x m. every_in t x xs (in_perm x (Permᴰ.symm p) m) h)
