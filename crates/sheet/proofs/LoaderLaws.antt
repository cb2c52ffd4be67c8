-- The laws of question 16: numbers that pass it are loader numbers, and no two of them are the same.
-- Key idea: each number is new after those before it, so at each place of a list what is left to ask gives the whole answer.
use Rattle.std.specs.Prelude.{◌≡◌, false, ◌&&◌, not, List, [], ◌∷◌, ◌++◌, ℕ, suc, ◌+◌, ◌≤◌, ◌<◌, length, take, drop}
use Rattle.std.proofs.Common.{sym, ◌∙◌, append-nil, append_assoc, arith, add-one, drop_of_length-le, take-append-drop, drop-cons, take-suc, get_or-take}
use Rattle.std.proofs.Math.Path.{ap, subst}
use Rattle.std.proofs.Math.Bool.{true, and_assoc}
use Rattle.std.proofs.Math.Decide.{dec_lt}
use Rattle.std.proofs.Math.Dec.{T}
use Rattle.std.proofs.Math.ListN.{get_or}
use Rattle.std.proofs.Math.Seq.{length-take-le}
use Rattle.lists.specs.Lists.{within, member}
use Rattle.lists.specs.Members.{both, left, right, within_iff, member_at}
use Rattle.sheet.specs.Sizes.{max_loader}
use Rattle.sheet.specs.Questions.{is_new, all_new, loaders_fit}

-- ---- one number more
all_new_append : (earlier ks more : List ℕ) → all_new earlier (ks ++ more) ≡ (all_new earlier ks && all_new (earlier ++ ks) more)
unfolding all_new
all_new_append earlier [] more = ap (λ xs. all_new xs more) (sym (append-nil earlier))
all_new_append earlier (k ∷ ks) more =
    ap (λ b. is_new earlier k && b)
    (all_new_append (earlier ++ (k ∷ [])) ks more ∙ ap (λ xs. all_new (earlier ++ (k ∷ [])) ks && all_new xs more) (append_assoc earlier (k ∷ []) ks))
    ∙ sym (and_assoc (is_new earlier k) (all_new (earlier ++ (k ∷ [])) ks) (all_new (earlier ++ (k ∷ ks)) more))

pub loaders_more : (ks : List ℕ) (k : ℕ) → T (loaders_fit ks) → T (is_new ks k) → T (loaders_fit (ks ++ (k ∷ [])))
unfolding all_new
loaders_more ks k h n =
    subst T (sym (all_new_append [] ks (k ∷ []))) (both (all_new [] ks) (all_new ks (k ∷ [])) h (both (is_new ks k) true n tt))

-- ---- at a place: what is left to ask gives the whole answer
module _ (ks : List ℕ) (j : ℕ) (h : j < length ks) where
  new_here : all_new (take j ks) (drop j ks) ≡ (is_new (take j ks) (get_or ks j 0) && all_new (take (j + 1) ks) (drop (j + 1) ks))
  unfolding all_new
  new_here =
      ap (all_new (take j ks)) (drop-cons ks j 0 h)
      ∙ ap (λ xs. is_new (take j ks) (get_or ks j 0) && all_new xs (drop (suc j) ks)) (sym (take-suc ks j 0 h))
      ∙ ap (λ i. is_new (take j ks) (get_or ks j 0) && all_new (take i ks) (drop i ks)) (sym (add-one j))

  pub new_next : is_new (take j ks) (get_or ks j 0) ≡ true → all_new (take j ks) (drop j ks) ≡ all_new (take (j + 1) ks) (drop (j + 1) ks)
  new_next e = new_here ∙ ap (λ b. b && all_new (take (j + 1) ks) (drop (j + 1) ks)) e

  pub new_stop : is_new (take j ks) (get_or ks j 0) ≡ false → all_new (take j ks) (drop j ks) ≡ false
  new_stop e = new_here ∙ ap (λ b. b && all_new (take (j + 1) ks) (drop (j + 1) ks)) e

pub new_end : (ks : List ℕ) (j : ℕ) → length ks ≤ j → all_new (take j ks) (drop j ks) ≡ true
unfolding all_new
new_end ks j h = ap (all_new (take j ks)) (drop_of_length-le ks {i = j} h)

-- ---- numbers that pass
module _ (ks : List ℕ) (fit : T (loaders_fit ks)) where
  -- each is new after those before it
  new_at : (j : ℕ) → j < length ks → T (is_new (take j ks) (get_or ks j 0))
  new_at j h =
      let rest = all_new (take j ks) (drop j ks) in
      let whole : all_new [] ks ≡ (all_new [] (take j ks) && rest) = ap (all_new []) (sym (take-append-drop j ks)) ∙ all_new_append [] (take j ks) (drop j ks) in
      left (is_new (take j ks) (get_or ks j 0)) (all_new (take (j + 1) ks) (drop (j + 1) ks))
      (subst T (new_here ks j h) (right (all_new [] (take j ks)) rest (subst T whole fit)))

  -- each is from 1 to 9999
  pub loader_size : (j : ℕ) → j < length ks → (1 ≤ get_or ks j 0) × (get_or ks j 0 ≤ max_loader)
  unfolding is_new
  loader_size j h =
      (within_iff 1 max_loader (get_or ks j 0)).0
      (left (within 1 max_loader (get_or ks j 0)) (not (member (get_or ks j 0) (take j ks))) (new_at j h))

  -- an earlier one is another
  earlier_differs : (i j : ℕ) → i < j → j < length ks → get_or ks i 0 ≡ get_or ks j 0 → ⊥
  unfolding is_new
  earlier_differs i j l h e =
      let k = get_or ks j 0 in
      let long = length-take-le j ks (omega arith) in
      let there : member k (take j ks) ≡ true = member_at k (take j ks) i (omega (arith, long)) (get_or-take j ks i 0 l ∙ e) in
      subst (λ b. T (not b)) there (right (within 1 max_loader k) (not (member k (take j ks))) (new_at j h))

  -- a number stands at one place alone
  pub loader_once : (i j : ℕ) → i < length ks → j < length ks → get_or ks i 0 ≡ get_or ks j 0 → i ≡ j
  loader_once i j hi hj e =
      elim (dec_lt i j) [
        | yes l ↦ absurd (earlier_differs i j l hj e)
        | no g ↦ elim (dec_lt j i) [ yes l ↦ absurd (earlier_differs j i l hi (sym e)) | no f ↦ omega arith ]
      ]
