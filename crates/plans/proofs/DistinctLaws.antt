-- No lawful plan is listed twice, so where some plan is lawful the list of printed plans has one entry.
-- Key idea: plans that give the first unit different slots differ there, and those that give it the same slot differ in the rest.
use Rattle.std.specs.Prelude.{◌≡◌, refl, Bool, true, false, ◌&&◌, List, [], ◌∷◌, ◌++◌, map, ℕ, zero, suc, ◌-◌, T}
use Rattle.std.proofs.Common.{sym, ap, ◌∙◌, subst, ⊎_elim, arith}
use mathlib.Core.List.Memᴰ
use Rattle.lists.specs.Lists.{run, from_to, keep, cons_if, joined}
use Rattle.lists.specs.Members.{In, in_keep, in_joined, in_map, in_run}
use Rattle.sheet.specs.Sheet.{Sheet, Window, assignments, lawful, lawful_plans, soonest, fair, printed_plans, printed_plan}
use Rattle.plans.proofs.CountLaws.{lawful_solved}
use Rattle.plans.proofs.PrintedLaws.{in_printed_plans, printed_plans_in, printed_unique, some_printed}
use Rattle.sheet.specs.Solved.{Valid}

-- no entry stands twice
abbrev NoneTwice : {A : Type 0} → List A → Type 0
NoneTwice [] = Unit {0}
NoneTwice (x ∷ xs) = (In x xs → ⊥) × NoneTwice xs

module _ {A : Type 0} where
  distinct_cons_if : (b : Bool) (x : A) (xs : List A) → (In x xs → ⊥) → NoneTwice xs → NoneTwice (cons_if b x xs)
  distinct_cons_if true x xs f d = (f, d)
  distinct_cons_if false x xs f d = d

  distinct_keep : (t : A → Bool) (xs : List A) → NoneTwice xs → NoneTwice (keep t xs)
  distinct_keep t [] d = tt
  distinct_keep t (x ∷ xs) d = distinct_cons_if (t x) x (keep t xs) (λ m. d.0 (in_keep t x xs m).0) (distinct_keep t xs d.1)

  distinct_append : (xs ys : List A) → NoneTwice xs → NoneTwice ys → ((x : A) → In x xs → In x ys → ⊥) → NoneTwice (xs ++ ys)
  distinct_append [] ys d e f = e
  distinct_append (x ∷ xs) ys d e f = (
    λ m. ⊎_elim (λ l. d.0 l) (λ r. f x (Memᴰ.head refl) r) (Memᴰ.append_cases xs m),
    distinct_append xs ys d.1 e (λ y l r. f y (Memᴰ.tail l) r),
  )

  -- a list of one value, none twice, has one entry
  distinct_one : (x : A) (xs : List A) → NoneTwice xs → In x xs → ((y : A) → In y xs → y ≡ x) → xs ≡ x ∷ []
  distinct_one x [] d m f = absurd (Memᴰ.not-nil m)
  distinct_one x (y ∷ []) d m f = ap (λ (w : A). w ∷ []) (f y (Memᴰ.head refl))
  distinct_one x (y ∷ w ∷ ws) d m f =
      absurd (d.0 (Memᴰ.head (f y (Memᴰ.head refl) ∙ sym (f w (Memᴰ.tail (Memᴰ.head refl))))))

distinct_run : (a k : ℕ) → NoneTwice (run a k)
distinct_run a zero = tt
distinct_run a (suc k) = ((λ m. let r = in_run a (suc a) k m in omega arith), distinct_run (suc a) k)

distinct_cons : (slot : ℕ) (xs : List (List ℕ)) → NoneTwice xs → NoneTwice (map (λ plan. slot ∷ plan) xs)
distinct_cons slot [] d = tt
distinct_cons slot (x ∷ xs) d = (
  λ m. let r = in_map (λ (plan : List ℕ). slot ∷ plan) (slot ∷ x) xs m in
      let e : x ≡ r.0 = let q = r.2 in cc in
      d.0 (subst (λ (y : List ℕ). In y xs) (sym e) r.1),
  distinct_cons slot xs d.1,
)

distinct_slots : (slots : List ℕ) (xs : List (List ℕ)) → NoneTwice slots → NoneTwice xs → NoneTwice (joined (map (λ slot. map (λ plan. slot ∷ plan) xs) slots))
distinct_slots [] xs d e = tt
distinct_slots (slot ∷ slots) xs d e =
    distinct_append (map (λ plan. slot ∷ plan) xs) (joined (map (λ slot. map (λ plan. slot ∷ plan) xs) slots)) (distinct_cons slot xs e)
    (distinct_slots slots xs d.1 e) (λ y l r.
    let p = in_map (λ (plan : List ℕ). slot ∷ plan) y xs l in
    let j = in_joined y (map (λ slot. map (λ plan. slot ∷ plan) xs) slots) r in
    let q = in_map (λ (slot : ℕ). map (λ plan. slot ∷ plan) xs) j.0 slots j.1 in
    let w = in_map (λ (plan : List ℕ). q.0 ∷ plan) y xs (subst (λ (zs : List (List ℕ)). In y zs) q.2 j.2) in
    let same : slot ≡ q.0 = let a = p.2 in let b = w.2 in cc in
    d.0 (subst (λ (v : ℕ). In v slots) (sym same) q.1))

distinct_assignments : (ws : List Window) → NoneTwice (assignments ws)
distinct_assignments [] = ((λ m. Memᴰ.not-nil m), tt)
distinct_assignments (w ∷ ws) =
    distinct_slots (from_to w.first w.last) (assignments ws) (distinct_run w.first (suc w.last - w.first)) (distinct_assignments ws)

distinct_printed : (s : Sheet) → NoneTwice (printed_plans s)
unfolding printed_plans lawful_plans
distinct_printed s =
    distinct_keep (λ plan. soonest s plan && fair s plan) (lawful_plans s) (distinct_keep (lawful s) (assignments s.units) (distinct_assignments s.units))

-- wherever there is a lawful plan, exactly one plan is printed
pub one_printed : (s : Sheet) → Valid s → (x : List ℕ) → T (lawful s x) → printed_plans s ≡ printed_plan s ∷ []
one_printed s ok x l =
    let t = lawful_solved s ok x l in
    let p = some_printed s t.0 t.1 in
    distinct_one (printed_plan s) (printed_plans s) (distinct_printed s) (printed_plans_in s (printed_plan s) p)
    (λ y m. printed_unique s ok (printed_plan s) y p (in_printed_plans s y m))
