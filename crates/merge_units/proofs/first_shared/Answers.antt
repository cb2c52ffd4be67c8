-- The first list is in its chains, so what the search asks of each number is whether it stands in that list.
use Rattle.std.proofs.Common.{◌≡◌, ℕ, List, Bool, length, take, sym, ap, ◌∙◌, arith, rules}
use Rattle.std.proofs.lemmas.Iterator.{YieldsList-from_slice}
use Rattle.std.proofs.lemmas.Iterator.Search.{position_from_yields_List}
use lib.Seq.{take_all}
use Rattle.lists.specs.Lists.{member}
use Rattle.merge_units.proofs.first_shared.Goals as goal

-- a number is among all of a list where it is a member
among_all : (k : ℕ) (xs : List ℕ) (b : Bool) → b ≡ member k (take (length xs) xs) → b ≡ member k xs
among_all k xs b e = e ∙ ap (member k) (take_all (length xs) xs (omega arith))

pub returns : goal.returns
returns c =
    position_from_yields_List (λ k. member k c.args.ones.now) _ _ c.position.result c.position.ensures.ran
    (YieldsList-from_slice c.args.twos.now c.iter.ensures.rest) (λ x b q k. (search rules, search (rules, among_all)))
