-- What stands at the front of an array is the column that was put there.
-- Key idea: an array with a column at its front is that column and then the rest of what it was.
use Rattle.std.specs.Prelude.{◌≡◌, List, map, ℕ, ◌≤◌, length, take, drop}
use Rattle.std.proofs.Common.{sym, ap, ◌∙◌, arith, length-append, take_at}
use Rattle.std.proofs.lemmas.List.{length-map}
use Rattle.lists.specs.Lists.{on_front}

module _ {A : Type 0} (f : A → ℕ) (xs : List A) (k : ℕ) (room array : List ℕ) (e : k ≡ length xs) (a : array ≡ on_front (map f xs) room) where
  -- as many places as there are entries are their column
  pub front_is : take k array ≡ map f xs
  front_is = ap (take k) a ∙ take_at (map f xs) (drop (length (map f xs)) room) k (length-map xs f ∙ sym e)

  pub front_holds : k ≤ length array
  front_holds = omega (arith, ap length a, length-append (map f xs) (drop (length (map f xs)) room), length-map xs f)
