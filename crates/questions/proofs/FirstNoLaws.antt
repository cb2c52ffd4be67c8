-- The laws of the first no: of questions one after the other, where every answer is yes, and by a test that every question passes.
-- Key idea: each is an induction on the list, by the answer to its first question.
use Rattle.std.specs.Prelude.{◌≡◌, refl, Bool, true, false, ◌&&◌, cond, List, [], ◌∷◌, ◌++◌, ℕ, T, ltb, length, get_or}
use Rattle.std.proofs.Common.{ap, subst, ◌∙◌, arith, ltb→lt}
use Rattle.lists.specs.Lists.{every}
use Rattle.lists.specs.Members.{left, right, every_at, every_append}
use Rattle.questions.specs.Questions.{Question, ask, Verdict, no, all_yes, first_no, and_then, AllYes}

-- ---- one question after the other: a no decides, and past a yes the questions that are left do
pub no_here : (b : Bool) (q n : ℕ) (qs : List Question) → b ≡ false → first_no (ask q n b ∷ qs) ≡ no q n
unfolding first_no
no_here b q n qs e = rw e

pub yes_here : (b : Bool) (q n : ℕ) (qs : List Question) → b ≡ true → first_no (ask q n b ∷ qs) ≡ first_no qs
unfolding first_no
yes_here b q n qs e = rw e

-- ---- one list after the other
pub first_no_append : (xs ys : List Question) → first_no (xs ++ ys) ≡ and_then (first_no xs) (first_no ys)
unfolding first_no
first_no_append [] ys = refl
first_no_append (q ∷ qs) ys = go q.yes (first_no_append qs ys)
  where
    go : (b : Bool) → first_no (qs ++ ys) ≡ and_then (first_no qs) (first_no ys)
        → cond b (first_no (qs ++ ys)) (no q.number q.line) ≡ and_then (cond b (first_no qs) (no q.number q.line)) (first_no ys)
    go true h = h
    go false h = refl

-- so the first list's verdict goes on to the second's
pub first_then : (xs ys : List Question) (v : Verdict) → first_no xs ≡ v → first_no (xs ++ ys) ≡ and_then v (first_no ys)
first_then xs ys v e = first_no_append xs ys ∙ ap (λ (x : Verdict). and_then x (first_no ys)) e

-- ---- every answer is yes
pub yes_every : (qs : List Question) → first_no qs ≡ all_yes → AllYes qs
unfolding first_no
yes_every [] e = tt
yes_every (q ∷ qs) e = go q.yes (yes_every qs) e
  where
    go : (b : Bool) → (first_no qs ≡ all_yes → AllYes qs) → cond b (first_no qs) (no q.number q.line) ≡ all_yes → T (b && every (λ x. x.yes) qs)
    go true f h = f h
    go false f h = let z : ◌≡◌ {A = ℕ} 0 1 = cc in absurd (omega arith)

pub every_yes : (qs : List Question) → AllYes qs → first_no qs ≡ all_yes
unfolding first_no
every_yes [] h = refl
every_yes (q ∷ qs) h = go q.yes (every_yes qs) h
  where
    go : (b : Bool) → (AllYes qs → first_no qs ≡ all_yes) → T (b && every (λ x. x.yes) qs) → cond b (first_no qs) (no q.number q.line) ≡ all_yes
    go true f h = f h
    go false f h = absurd h

pub yes_front : (qs rs : List Question) → AllYes (qs ++ rs) → AllYes qs
yes_front qs rs h = left (every (λ q. q.yes) qs) (every (λ q. q.yes) rs) (subst T (every_append (λ q. q.yes) qs rs) h)

pub yes_back : (qs rs : List Question) → AllYes (qs ++ rs) → AllYes rs
yes_back qs rs h = right (every (λ q. q.yes) qs) (every (λ q. q.yes) rs) (subst T (every_append (λ q. q.yes) qs rs) h)

-- the answer at a place
pub yes_at : (qs : List Question) → AllYes qs → (i : ℕ) → T (ltb i (length qs)) → T (get_or qs i (ask 0 0 true)).yes
yes_at qs h i l = every_at (λ q. q.yes) (ask 0 0 true) qs h i (ltb→lt i (length qs) l)

-- ---- the first no is one of the questions: it passes each test of number and line that they all pass
pub first_passes : (t : ℕ → ℕ → Bool) (qs : List Question) → T (every (λ q. t q.number q.line) qs)
    → (number line : ℕ) → first_no qs ≡ no number line → T (t number line)
unfolding first_no
first_passes t [] h number line e = let z : ◌≡◌ {A = ℕ} 0 1 = cc in absurd (omega arith)
first_passes t (q ∷ qs) h number line e =
    let p = left (t q.number q.line) (every (λ x. t x.number x.line) qs) h in
    go q.yes p (first_passes t qs (right (t q.number q.line) (every (λ x. t x.number x.line) qs) h) number line) e
  where
    go : (b : Bool) → T (t q.number q.line) → (first_no qs ≡ no number line → T (t number line))
        → cond b (first_no qs) (no q.number q.line) ≡ no number line → T (t number line)
    go true p f h = f h
    go false p f h =
        let a : q.number ≡ number = cc in
        let b : q.line ≡ line = cc in
        rw (a, b) at p
