-- Key idea: the search asks each unit of the order from the given place on, and the first that passes is the answer.
use Rattle.std.proofs.Common.{◌≡◌, refl, sym, ap, ◌∙◌, arith, rules, List, ℕ, ◌+◌, ◌-◌, ◌<◌, ◌≤◌, Bool, true, false, Option, MatchOption, Some, None, length, take, drop, get_or, length-drop, length-take}
use Rattle.std.proofs.Math.Decide.{dec_lt}
use Rattle.std.proofs.lemmas.List.{places}
use Rattle.std.proofs.lemmas.Bool.Decides.{nat_tests}
use Rattle.std.proofs.lemmas.Iterator.{YieldsList-from_slice, IsFirst-from_position}
use Rattle.std.proofs.lemmas.Iterator.Adapters.{serves_from_places}
use Rattle.std.specs.List.{AllWithin, HoldsAt}
use Rattle.lists.specs.Members.{false_not_true}
use Rattle.lists.specs.First.{first_from, first_from_lem}
use Rattle.plans.specs.Seating.{at, free_open}
use Rattle.plan_seats.specs.Seats.{FirstOpen}
use Rattle.plan_seats.proofs.next_open.Goals as goal

-- the place before which no place passes, and which passes itself, is the first
first_is : (t : ℕ → Bool) (k i r : ℕ) → i ≤ r → r ≤ i + k → ((j : ℕ) → i ≤ j → j < r → t j ≡ false) → (r < i + k → t r ≡ true) → first_from k i t ≡ r
first_is t k i r lo hi before here =
    let q = first_from k i t in
    let F = first_from_lem t k i in
    elim (dec_lt q r) [
      | yes l ↦ false_not_true (sym (before q F.least l) ∙ F.at (omega arith))
      | no g ↦ elim (dec_lt r q) [ yes l ↦ false_not_true (sym (F.before r lo l) ∙ here (omega (arith, F.most))) | no h ↦ omega arith ]
    ]

-- ---- the order from place a on
module _ (xs : List ℕ) (a n : ℕ) (en : n ≡ length xs) (le : a ≤ n) where
  abbrev part : List ℕ
  part = take (n - a) (drop a xs)

  length_part : length part ≡ n - a
  length_part = simp (length-take, length-drop) (omega arith)

  part_at : (k d : ℕ) → k < n - a → get_or part k d ≡ at xs (a + k)
  part_at k d h = grind (arith, places)

  -- what the search says of the units that it passed
  passed : (u : ℕ → Bool) (m j : ℕ) → AllWithin (λ x. u x ≡ false) part 0 m → a ≤ j → j < a + m → j < n → u (at xs j) ≡ false
  passed u m j f l h g =
      let k : a + (j - a) ≡ j = omega arith in
      ap (λ (p : ℕ). u (at xs p)) (sym k) ∙ ap u (sym (part_at (j - a) 0 (omega arith))) ∙ f (j - a) 0 (omega arith) (omega arith)

  first_open : (u : ℕ → Bool) (q r : Option ℕ)
      → MatchOption q (AllWithin (λ x. u x ≡ false) part 0 (length part))
      (λ i. (i < length part) × HoldsAt (λ x. u x ≡ true) part i × AllWithin (λ x. u x ≡ false) part 0 i)
      → MatchOption q (r ≡ None) (λ i. r ≡ Some (a + i))
      → FirstOpen n (first_from (n - a) a (λ p. u (at xs p))) r
  first_open u None r f e = rw e (first_is (λ p. u (at xs p)) (n - a) a n le (omega arith) (λ j l h. passed u (length part) j f l (omega (arith, length_part)) h) (λ h. absurd (omega arith)))
  first_open u (Some i) r f e =
      let l : i < n - a = omega (arith, f.0, length_part) in
      rw e (
        omega arith,
        sym (first_is (λ p. u (at xs p)) (n - a) a (a + i) (omega arith) (omega arith) (λ j lo h. passed u i j f.2 lo h (omega arith))
            (λ h. ap u (sym (part_at i 0 l)) ∙ f.1 0)),
      )

pub position-requires-clause-callable : goal.position-requires-clause-callable
position-requires-clause-callable c =
    let road = YieldsList-from_slice _ c.iter.ensures.rest in
    let xs = c.args.order.now in
    let a = c.args.from in
    serves_from_places road (λ x q r. search rules)
    (λ x k h e.
    let l : k < length xs - a = omega (arith, length_part xs a (length xs) refl c.requires.2) in
    let u = c.requires.1 (a + k) (omega arith) in
    let i : x.now < length c.args.plan.now = omega (arith, e, part_at xs a (length xs) refl c.requires.2 k x.now l) in
    omega arith)

pub returns : goal.returns
returns c =
    let a = c.args in
    let u : ℕ → Bool = free_open (at a.plan.now) (at a.first.now) a.slot in
    first_open a.order.now a.from (length a.order.now) refl c.requires.2 u c.position.result c.map.result
    (IsFirst-from_position _ _ c.position.result (λ x. u x ≡ true) (λ x. u x ≡ false) c.position.ensures.ran (YieldsList-from_slice _ c.iter.ensures.rest)
    (λ x q k. grind (arith, nat_tests)) (λ x q k. grind (arith, nat_tests)))
    (search rules)
