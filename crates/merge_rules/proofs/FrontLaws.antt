-- A list at the front of a room: what stands there, one entry changed, and one more behind it.
-- Key idea: a store before the seam changes the list, and one at the seam moves it by one.
use mathlib.Core.Path.{◌≡◌, sym, ap, ◌∙◌}
use mathlib.Core.List.{List, [], ◌∷◌, ◌++◌}
use Prim.Native.Nat.{ℕ, suc, ◌+◌, ◌-◌, ◌<◌}
use native.Mathlib.Omega.{arith}
use lib.ListN.{length, get_or, set, drop, length-append, length-drop, length-set, get_or-append}
use lib.Seq.{drop-cons, append_snoc, set-append_left, set-append_seam}
use Rattle.lists.specs.Lists.{on_front}

module _ {A : Type 0} (xs room now : List A) (f : now ≡ on_front xs room) where
  long : length now ≡ length xs + (length room - length xs)
  long = ap length f ∙ length-append xs (drop (length xs) room) ∙ ap (λ k. length xs + k) (length-drop (length xs) room)

  pub front_at : (j : ℕ) (d : A) → j < length xs → get_or now j d ≡ get_or xs j d
  front_at j d h = ap (λ l. get_or l j d) f ∙ get_or-append xs (drop (length xs) room) d j h

  pub front_set : (j : ℕ) (v : A) → j < length xs → set now j v ≡ on_front (set xs j v) room
  front_set j v h =
      ap (λ l. set l j v) f ∙ set-append_left xs (drop (length xs) room) j v h ∙ ap (λ k. set xs j v ++ drop k room) (sym (length-set xs j v))

  pub front_more : (v : A) → length xs < length now → set now (length xs) v ≡ on_front (xs ++ (v ∷ [])) room
  front_more v h =
      let n = length xs in
      let e : suc n ≡ length (xs ++ (v ∷ [])) = omega (arith, length-append xs (v ∷ [])) in
      ap (λ l. set l n v) (f ∙ ap (λ l. xs ++ l) (drop-cons room n v (omega (arith, long))))
      ∙ set-append_seam xs (get_or room n v) (drop (suc n) room) v
      ∙ sym (append_snoc xs v (drop (suc n) room))
      ∙ ap (λ k. (xs ++ (v ∷ [])) ++ drop k room) e
