-- The search for the first place at fault, place by place, and what its finding none means. The code looks for it by `position` now
-- (`HouseQuestionsLaws.antt`); these laws stand.
-- Key idea: at each place of a list what is left to search gives the whole answer; places count from 1, so 0 says that every entry passes.
use Rattle.std.specs.Prelude.{◌≡◌, refl, Bool, true, false, ◌&&◌, cond, List, [], ◌∷◌, ℕ, zero, suc, ◌+◌, ◌≤◌, ◌<◌, leb, eqb, length, get_or, drop}
use Rattle.std.proofs.Common.{sym, ap, ap₂, ◌∙◌, arith, add-one, drop_of_length-le, drop-cons, ne_eqb}
use Rattle.std.proofs.lemmas.Bool.{lt-leb}
use Rattle.lists.specs.Lists.{every}
use Rattle.questions.specs.Questions.{Question, no, first_no}
use Rattle.questions.proofs.FirstNoLaws.{no_here, yes_here}
use Rattle.sheet.specs.Questions.{sheet_of}
use Rattle.sheet.proofs.QuestionLaws.{Agree}
use Rattle.sheet.specs.Lists.{Lists, given}
use Rattle.sheet.proofs.WrittenLaws.{windows_lists, rules_lists}
use Rattle.forms.specs.declared.House.{House}
use Rattle.write_ask.specs.HouseQuestions.{fault_from, first_at_fault, ask_each, end_questions, house_questions}

module _ {A : Type 0} (t : A → Bool) (d : A) (xs : List A) (j : ℕ) where
  -- what is left to search, before place j
  abbrev pub fault_left : ℕ
  fault_left = fault_from t (suc j) (drop j xs)

  module _ (h : j < length xs) where
    here : fault_left ≡ cond (t (get_or xs j d)) (fault_from t (suc (suc j)) (drop (suc j) xs)) (suc j)
    here = ap (fault_from t (suc j)) (drop-cons xs j d h)

    pub fault_next : t (get_or xs j d) ≡ true → fault_left ≡ fault_from t (suc (j + 1)) (drop (j + 1) xs)
    fault_next e =
        here ∙ ap (λ (b : Bool). cond b (fault_from t (suc (suc j)) (drop (suc j) xs)) (suc j)) e
        ∙ ap (λ (i : ℕ). fault_from t (suc i) (drop i xs)) (sym (add-one j))

    pub fault_found : t (get_or xs j d) ≡ false → fault_left ≡ j + 1
    fault_found e = here ∙ ap (λ (b : Bool). cond b (fault_from t (suc (suc j)) (drop (suc j) xs)) (suc j)) e ∙ sym (add-one j)

  pub fault_none : length xs ≤ j → fault_left ≡ 0
  fault_none h = ap (fault_from t (suc j)) (drop_of_length-le xs {i = j} h)

-- 0 says that every entry passes
every_none : {A : Type 0} (t : A → Bool) (i : ℕ) (xs : List A) → every t xs ≡ eqb (fault_from t (suc i) xs) 0
every_none t i [] = refl
every_none t i (x ∷ xs) = go (t x) (every_none t (suc i) xs)
  where
    go : (b : Bool) → every t xs ≡ eqb (fault_from t (suc (suc i)) xs) 0
        → (b && every t xs) ≡ eqb (cond b (fault_from t (suc (suc i)) xs) (suc i)) 0
    go true e = e
    go false e = sym (ne_eqb (suc i) 0 (λ z. omega arith))

-- two tests that say the same have the same first place at fault
fault_same : {A : Type 0} (t u : A → Bool) → ((x : A) → t x ≡ u x) → (i : ℕ) (xs : List A) → fault_from t i xs ≡ fault_from u i xs
fault_same t u e i [] = refl
fault_same t u e i (x ∷ xs) = ap₂ (λ (b : Bool) (n : ℕ). cond b n i) (e x) (fault_same t u e (suc i) xs)

none_past : (k : ℕ) → leb k 0 ≡ eqb k 0
none_past zero = refl
none_past (suc k) = lt-leb (suc k) 0 (omega arith) ∙ sym (ne_eqb (suc k) 0 (λ z. omega arith))

-- past 0 is what is not 0
pub fault_past : (ks : List ℕ) → first_at_fault (λ k. leb k 0) ks ≡ first_at_fault (λ k. eqb k 0) ks
fault_past ks = fault_same (λ k. leb k 0) (λ k. eqb k 0) none_past _ ks

-- so the question is answered by the place that was found
module _ {A : Type 0} (q : ℕ) (t : A → Bool) (xs : List A) (found : ℕ) (is : found ≡ first_at_fault t xs) (qs : List Question) where
  pub each_no : eqb found 0 ≡ false → first_no (ask_each q t xs ∷ qs) ≡ no q found
  each_no e =
      no_here (every t xs) q (first_at_fault t xs) qs (every_none t 0 xs ∙ ap (λ n. eqb n 0) (sym is) ∙ e) ∙ ap (λ (n : ℕ). no q n) (sym is)

  pub each_yes : eqb found 0 ≡ true → first_no (ask_each q t xs ∷ qs) ≡ first_no qs
  each_yes e = yes_here (every t xs) q (first_at_fault t xs) qs (every_none t 0 xs ∙ ap (λ n. eqb n 0) (sym is) ∙ e)
