-- The pairs of two lists, asked one after the other, give the whole answer.
-- Key idea: two lists of one length have as many pairs as windows, with the same ends in each place.
use Rattle.std.specs.Prelude.{◌≡◌, refl, Bool, true, false, ◌&&◌, List, [], ◌∷◌, ℕ, ◌<◌, length, MatchBool}
use Rattle.std.specs.List.{list_all, zip, AllWithin, HoldsAt}
use Rattle.std.proofs.Math.Path.{ap}
use Rattle.std.proofs.Common.{sym, ◌∙◌, arith}
use Rattle.std.proofs.lemmas.List.Sums.{AllPass-from_list_all, list_all-from_AllPass}
use Rattle.sheet.specs.Questions.{rising}
use Rattle.plan_lists.specs.Rising.{all_rising}

-- what `all` answers of a list, where each call gives the test
by_all : {X : Type 0} (t : X → Bool) (d : X) (xs : List X) (r : Bool)
    → MatchBool r (AllWithin (λ x. t x ≡ true) xs 0 (length xs)) ((k : ℕ) × (k < length xs) × HoldsAt (λ x. t x ≡ false) xs k) → r ≡ list_all t xs
by_all t d xs true h = sym (list_all-from_AllPass t xs (λ k e hk. h k e (omega arith) hk))
by_all t d xs false h = go (list_all t xs) refl
  where
    go : (b : Bool) → list_all t xs ≡ b → false ≡ list_all t xs
    go true e = let yes = AllPass-from_list_all t xs e h.0 d h.1 in let no = h.2 d in cc
    go false e = sym e

module _ (least start most : ℕ) where
  pairs_rise : (fs ls : List ℕ) → length ls ≡ length fs → list_all (λ p. rising least start most p.0 p.1) (zip fs ls) ≡ all_rising least start most fs ls
  unfolding all_rising
  pairs_rise [] ls e = refl
  pairs_rise (f ∷ fs) [] e = absurd (omega arith)
  pairs_rise (f ∷ fs) (l ∷ ls) e = ap (λ b. rising least start most f l && b) (pairs_rise fs ls (omega arith))

  pub rising_by_all : (fs ls : List ℕ) → length ls ≡ length fs → (r : Bool)
      → MatchBool r (AllWithin (λ p. rising least start most p.0 p.1 ≡ true) (zip fs ls) 0 (length (zip fs ls)))
      ((k : ℕ) × (k < length (zip fs ls)) × HoldsAt (λ p. rising least start most p.0 p.1 ≡ false) (zip fs ls) k) → r ≡ all_rising least start most fs ls
  rising_by_all fs ls e r h = by_all (λ p. rising least start most p.0 p.1) (0, 0) (zip fs ls) r h ∙ pairs_rise fs ls e
