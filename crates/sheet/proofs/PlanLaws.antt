-- What the list of lawful plans holds: a plan is in it exactly when each unit has one slot, in its window, and each rule holds.
-- And least and greatest over it, as bounds that are attained.
use Rattle.std.specs.Prelude.{◌≡◌, refl, ◌↔◌, List, [], ◌∷◌, map, ℕ, zero, suc, ◌≤◌, ◌<◌, T, length}
use Rattle.std.proofs.Common.{ap, arith}
use mathlib.Core.List.Memᴰ
use Rattle.std.proofs.Math.ListN.{get_or}
use Rattle.lists.specs.Lists.{from_to, within, every, least, greatest}
use Rattle.lists.specs.Members.{In, both, left, right, within_iff, in_keep, keep_in, joined_in, in_map, map_in, in_from_to, every_at, at_every}
use Rattle.lists.specs.Extremes.{least_le, least_in_lem, greatest_ge, greatest_in_lem}
use Rattle.sheet.specs.Sheet.{Window, Rule, Sheet, no_window, count_in, assignments, in_windows, obeys, no_rule}
use Rattle.sheet.specs.Sheet.{lawful, lawful_plans, least_in, greatest_in, earliest, latest}

-- ---- the plans that give each unit a slot of its window
pub assignments_in : (ws : List Window) (x : List ℕ) → T (in_windows ws x) → In x (assignments ws)
assignments_in [] [] h = Memᴰ.head refl
assignments_in [] (x ∷ xs) h = absurd h
assignments_in (w ∷ ws) [] h = absurd h
assignments_in (w ∷ ws) (x ∷ xs) h =
    joined_in (x ∷ xs) (map (λ plan. x ∷ plan) (assignments ws)) (map (λ slot. map (λ plan. slot ∷ plan) (assignments ws)) (from_to w.first w.last))
    (map_in (λ (slot : ℕ). map (λ plan. slot ∷ plan) (assignments ws)) x (from_to w.first w.last)
    ((in_from_to w.first w.last x).1 (left (within w.first w.last x) (in_windows ws xs) h)))
    (map_in (λ (plan : List ℕ). x ∷ plan) xs (assignments ws) (assignments_in ws xs (right (within w.first w.last x) (in_windows ws xs) h)))

-- ---- a list holds exactly the lawful plans
pub in_lawful_plans : (s : Sheet) (x : List ℕ) → In x (lawful_plans s) ↔ T (lawful s x)
unfolding lawful_plans lawful
in_lawful_plans s x = (
  λ m. (in_keep (lawful s) x (assignments s.units) m).1,
  λ t. keep_in (lawful s) x (assignments s.units)
      (assignments_in s.units x (left (in_windows s.units x) (every (obeys x) s.rules) t)) t,
)

-- ---- what `lawful` says, place by place

-- each unit has one slot, inside its window
pub record Seated (ws : List Window) (x : List ℕ) : Type 0 where
  pub size : length x ≡ length ws
  pub inside : (j : ℕ) → j < length ws → ((get_or ws j no_window).first ≤ get_or x j 0) × (get_or x j 0 ≤ (get_or ws j no_window).last)

pub in_windows_seated : (ws : List Window) (x : List ℕ) → T (in_windows ws x) → Seated ws x
in_windows_seated [] [] h = record { size = refl; inside = λ j l. absurd (omega arith) }
in_windows_seated [] (x ∷ xs) h = absurd h
in_windows_seated (w ∷ ws) [] h = absurd h
in_windows_seated (w ∷ ws) (x ∷ xs) h =
    let r = in_windows_seated ws xs (right (within w.first w.last x) (in_windows ws xs) h) in
    let first = (within_iff w.first w.last x).0 (left (within w.first w.last x) (in_windows ws xs) h) in
    record { size = ap suc r.size; inside = go first r }
  where
    go : (within_first : (w.first ≤ x) × (x ≤ w.last)) → Seated ws xs → (j : ℕ) → j < length (w ∷ ws)
        → ((get_or (w ∷ ws) j no_window).first ≤ get_or (x ∷ xs) j 0) × (get_or (x ∷ xs) j 0 ≤ (get_or (w ∷ ws) j no_window).last)
    go f r zero l = f
    go f r (suc k) l = r.inside k (omega arith)

pub seated_in_windows : (ws : List Window) (x : List ℕ) → Seated ws x → T (in_windows ws x)
seated_in_windows [] [] h = tt
seated_in_windows [] (x ∷ xs) h = absurd (omega arith)
seated_in_windows (w ∷ ws) [] h = absurd (omega arith)
seated_in_windows (w ∷ ws) (x ∷ xs) h =
    both (within w.first w.last x) (in_windows ws xs) ((within_iff w.first w.last x).1 (h.inside 0 (omega arith)))
    (seated_in_windows ws xs (record { size = omega arith; inside = λ j l. h.inside (suc j) (omega arith) }))

-- the bridging law
pub record Lawful (s : Sheet) (x : List ℕ) : Type 0 where
  pub seated : Seated s.units x
  pub obeyed : (i : ℕ) → i < length s.rules →
      ((get_or s.rules i no_rule).low ≤ count_in (get_or s.rules i no_rule).from (get_or s.rules i no_rule).to x)
      × (count_in (get_or s.rules i no_rule).from (get_or s.rules i no_rule).to x ≤ (get_or s.rules i no_rule).high)

pub lawful_iff : (s : Sheet) (x : List ℕ) → T (lawful s x) ↔ Lawful s x
unfolding lawful
lawful_iff s x = (
  λ t. record {
    seated = in_windows_seated s.units x (left (in_windows s.units x) (every (obeys x) s.rules) t);
    obeyed = λ i l. let r = get_or s.rules i no_rule in (within_iff r.low r.high (count_in r.from r.to x)).0
        (every_at (obeys x) no_rule s.rules (right (in_windows s.units x) (every (obeys x) s.rules) t) i l);
  },
  λ h. both (in_windows s.units x) (every (obeys x) s.rules) (seated_in_windows s.units x h.seated)
      (at_every (obeys x) no_rule s.rules (λ i l.
      let r = get_or s.rules i no_rule in
      (within_iff r.low r.high (count_in r.from r.to x)).1 (h.obeyed i l))),
)

pub in_lawful_plans_iff : (s : Sheet) (x : List ℕ) → In x (lawful_plans s) ↔ Lawful s x
in_lawful_plans_iff s x = (λ m. (lawful_iff s x).0 ((in_lawful_plans s x).0 m), λ h. (in_lawful_plans s x).1 ((lawful_iff s x).1 h))

-- ---- least and greatest over lawful plans: bounds that are attained
module _ (s : Sheet) (f : List ℕ → ℕ) where
  least_bound : (x : List ℕ) → T (lawful s x) → least (map f (lawful_plans s)) ≤ f x
  least_bound x l = least_le (f x) (map f (lawful_plans s)) (map_in f x (lawful_plans s) ((in_lawful_plans s x).1 l))

  greatest_bound : (x : List ℕ) → T (lawful s x) → f x ≤ greatest (map f (lawful_plans s))
  greatest_bound x l = greatest_ge (f x) (map f (lawful_plans s)) (map_in f x (lawful_plans s) ((in_lawful_plans s x).1 l))

  attains : (k : ℕ) → In k (map f (lawful_plans s)) → (y : List ℕ) × T (lawful s y) × (k ≡ f y)
  attains k m = let p = in_map f k (lawful_plans s) m in (p.0, (in_lawful_plans s p.0).0 p.1, p.2)

  least_attained : (x : List ℕ) → T (lawful s x) → (y : List ℕ) × T (lawful s y) × (least (map f (lawful_plans s)) ≡ f y)
  least_attained x l = attains (least (map f (lawful_plans s)))
      (least_in_lem (f x) (map f (lawful_plans s)) (map_in f x (lawful_plans s) ((in_lawful_plans s x).1 l)))

  greatest_attained : (x : List ℕ) → T (lawful s x) → (y : List ℕ) × T (lawful s y) × (greatest (map f (lawful_plans s)) ≡ f y)
  greatest_attained x l = attains (greatest (map f (lawful_plans s)))
      (greatest_in_lem (f x) (map f (lawful_plans s)) (map_in f x (lawful_plans s) ((in_lawful_plans s x).1 l)))

module _ (s : Sheet) (x : List ℕ) (l : T (lawful s x)) where
  pub least_in_bound : (f t : ℕ) → least_in s f t ≤ count_in f t x
  unfolding least_in
  least_in_bound f t = least_bound s (count_in f t) x l

  pub greatest_in_bound : (f t : ℕ) → count_in f t x ≤ greatest_in s f t
  unfolding greatest_in
  greatest_in_bound f t = greatest_bound s (count_in f t) x l

  pub earliest_bound : (j : ℕ) → earliest s j ≤ get_or x j 0
  unfolding earliest
  earliest_bound j = least_bound s (λ plan. get_or plan j 0) x l

  pub earliest_attained : (j : ℕ) → (y : List ℕ) × T (lawful s y) × (earliest s j ≡ get_or y j 0)
  unfolding earliest
  earliest_attained j = least_attained s (λ plan. get_or plan j 0) x l

  pub latest_bound : (j : ℕ) → get_or x j 0 ≤ latest s j
  unfolding latest
  latest_bound j = greatest_bound s (λ plan. get_or plan j 0) x l

  pub latest_attained : (j : ℕ) → (y : List ℕ) × T (lawful s y) × (latest s j ≡ get_or y j 0)
  unfolding latest
  latest_attained j = greatest_attained s (λ plan. get_or plan j 0) x l
