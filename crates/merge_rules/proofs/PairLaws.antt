-- A search from the front over the pairs of two lists.
-- Key idea: its pairs are the two lists' entries, place by place; so what it says of the pairs that it passed, and of the one that it found, makes that
-- place the first that passes.
use Rattle.std.proofs.Common.{◌≡◌, sym, ap, ◌∙◌, arith, ℕ, List, ◌<◌, Bool, true, false, Option, Some, None, MatchOption, unwrap_or, length, get_or}
use Rattle.std.specs.List.{AllWithin, HoldsAt, zip}
use Rattle.std.proofs.lemmas.Slice.Zip.{length-zip, get_or-zip}
use Rattle.lists.specs.First.{first_place}
use Rattle.merge_rules.proofs.PassedLaws.{passed_end}

-- what a search for the first pair that passes says
abbrev pub FirstPair : (ℕ × ℕ → Bool) → List (ℕ × ℕ) → Option ℕ → Type 0
FirstPair u ps r = MatchOption r (AllWithin (λ p. u p ≡ false) ps 0 (length ps))
    (λ i. (i < length ps) × HoldsAt (λ p. u p ≡ true) ps i × AllWithin (λ p. u p ≡ false) ps 0 i)

module _ (xs ys : List ℕ) (n : ℕ) (ex : length xs ≡ n) (ey : length ys ≡ n) (u : ℕ × ℕ → Bool) (t : ℕ → Bool)
    (same : (k : ℕ) → k < n → u (get_or xs k 0, get_or ys k 0) ≡ t k) where
  long : length (zip xs ys) ≡ n
  long = length-zip xs ys ∙ omega arith

  test : (k : ℕ) → k < n → u (get_or (zip xs ys) k (0, 0)) ≡ t k
  test k h = ap u (get_or-zip xs ys k (0, 0) (omega arith) (omega arith)) ∙ same k h

  pub first_pair : (r : Option ℕ) → FirstPair u (zip xs ys) r → MatchOption r (first_place n t ≡ n) (λ p. (p < n) × (p ≡ first_place n t))
  first_pair None f = sym (passed_end t n n (record {
    most = omega arith;
    before = λ j h. sym (test j h) ∙ f j (0, 0) (omega arith) (omega (arith, long));
    at = λ h. absurd (omega arith);
  }))
  first_pair (Some i) f = (
    omega (arith, f.0, long),
    passed_end t n i (record {
      most = omega (arith, f.0, long);
      before = λ j h. sym (test j (omega (arith, f.0, long))) ∙ f.2 j (0, 0) (omega arith) h;
      at = λ h. sym (test i h) ∙ f.1 (0, 0);
    }),
  )

  pub first_pair_or : (r : Option ℕ) → FirstPair u (zip xs ys) r → unwrap_or r n ≡ first_place n t
  first_pair_or None f = sym (first_pair None f)
  first_pair_or (Some i) f = (first_pair (Some i) f).1
