-- The search for the first place at fault answers a question that is asked of each entry; the questions of a house by its lists.
-- Key idea: places count from 1, and at each entry what is left to search gives the whole answer.
use Rattle.std.specs.Prelude.{◌≡◌, refl, Bool, true, false, ◌&&◌, cond, List, [], ◌∷◌, ℕ, zero, suc, ◌+◌, not, leb, ltb, eqb, Option, Some, None}
use Rattle.std.specs.List.{position, position_from}
use Rattle.std.proofs.Common.{sym, ap, ap₂, ◌∙◌, arith, add-one, ne_eqb}
use Rattle.std.proofs.lemmas.Iterator.Adapters.{position_from-zero}
use Rattle.std.proofs.lemmas.Bool.{lt-leb}
use Rattle.std.proofs.lemmas.Bool.Decides.{nat_tests}
use Rattle.lists.specs.Lists.{every}
use Rattle.questions.specs.Questions.{Verdict, ask, no, all_yes, first_no}
use Rattle.sheet.specs.Questions.{sheet_of}
use Rattle.sheet.proofs.QuestionLaws.{Agree}
use Rattle.sheet.specs.Lists.{Lists, given}
use Rattle.sheet.proofs.WrittenLaws.{windows_lists, rules_lists}
use Rattle.forms.specs.declared.House.{House}
use Rattle.write_ask.specs.HouseQuestions.{fault_from, ask_each, end_questions, house_questions}

-- the verdict of a question, by the first place at fault, which is counted from 0 on
abbrev pub verdict_at : ℕ → Option ℕ → Verdict
verdict_at q None = all_yes
verdict_at q (Some place) = no q (place + 1)

past_fails : (most x : ℕ) → ltb most x ≡ not (leb x most)
past_fails most x = grind (arith, nat_tests)

module _ (q most : ℕ) where
  abbrev passes : ℕ → Bool
  passes x = leb x most

  abbrev fails : ℕ → Bool
  fails x = ltb most x

  found_from : (i : ℕ) (xs : List ℕ) → first_no (ask q (fault_from passes (i + 1) xs) (every passes xs) ∷ []) ≡ verdict_at q (position_from fails i xs)
  unfolding first_no
  found_from i [] = refl
  found_from i (x ∷ xs) = rw (past_fails most x) (go (passes x) (found_from (i + 1) xs))
    where
      go : (b : Bool) → first_no (ask q (fault_from passes (i + 1 + 1) xs) (every passes xs) ∷ []) ≡ verdict_at q (position_from fails (i + 1) xs)
          → first_no (ask q (cond b (fault_from passes (suc (i + 1)) xs) (i + 1)) (b && every passes xs) ∷ [])
          ≡ verdict_at q (cond (not b) (Some i) (position_from fails (i + 1) xs))
      go true h = rw add-one at h
      go false h = refl

  -- the first entry past the most that is allowed decides
  pub found : (xs : List ℕ) → first_no (ask_each q passes xs ∷ []) ≡ verdict_at q (position fails xs)
  found xs = found_from 0 xs ∙ ap (verdict_at q) (sym (position_from-zero fails xs))

-- two tests that say the same ask the same
module _ {A : Type 0} (t u : A → Bool) (same : (x : A) → t x ≡ u x) where
  same_fault : (i : ℕ) (xs : List A) → fault_from t i xs ≡ fault_from u i xs
  same_fault i [] = refl
  same_fault i (x ∷ xs) = ap₂ (λ (b : Bool) (n : ℕ). cond b n i) (same x) (same_fault (suc i) xs)

  same_every : (xs : List A) → every t xs ≡ every u xs
  same_every [] = refl
  same_every (x ∷ xs) = ap₂ (λ (a b : Bool). a && b) (same x) (same_every xs)

  same_asked : (q : ℕ) (xs : List A) → ask_each q t xs ≡ ask_each q u xs
  same_asked q xs = ap₂ (λ (n : ℕ) (yes : Bool). ask q n yes) (same_fault 1 xs) (same_every xs)

none_past : (k : ℕ) → leb k 0 ≡ eqb k 0
none_past zero = refl
none_past (suc k) = lt-leb (suc k) 0 (omega arith) ∙ sym (ne_eqb (suc k) 0 (λ z. omega arith))

-- at most 0 is 0
pub lows_asked : (q : ℕ) (ks : List ℕ) → ask_each q (λ k. leb k 0) ks ≡ ask_each q (λ k. eqb k 0) ks
lows_asked q ks = same_asked (λ k. leb k 0) (λ k. eqb k 0) none_past q ks

-- of the sheet of parallel lists a house asks what it asks of two of them
pub asks_lists : (h : House) (l : Lists) → Agree l.first l.last l.from l.to l.low l.high
    → house_questions h (given l) ≡ end_questions h l.span l.last l.low
unfolding sheet_of
asks_lists h l a =
    ap₂ (λ lasts lows. end_questions h l.span lasts lows) (windows_lists l.first l.last a.windows).lasts
    (rules_lists l.from l.to l.low l.high a.stretches a.lows a.highs).lows
