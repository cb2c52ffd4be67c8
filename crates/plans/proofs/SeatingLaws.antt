-- Seating by deadline succeeds on every problem.
-- Key idea: while slot s is filled and k units have seats, the free units that close by slot b number at most z b - k, for every b. A seat for the unit that
-- closes first keeps this: if it closes by b, one free unit fewer does; if it closes after b, every open unit that closes by b is seated already, and the
-- others' windows lie inside the slots s+1 to b. At b = s nobody is late. And the windows that open after s leave a free unit open while slot s has seats.
-- So the search for slot s ends with a unit that it takes, and no unit behind that one has slot s: not before, where slots are earlier, nor after, where they
-- are later. The looks are that unit's place.
use Rattle.std.specs.Prelude.{◌≡◌, ◌⊎◌, ◌≢◌, Bool, ◌&&◌, cond, ltb, leb, eqb, length, set, replicate}
use Rattle.std.proofs.Math.Path.{refl, sym, ap₂, subst}
use Rattle.std.proofs.Common.{ap, ◌∙◌, inr, eq-or-lt_of_le, leb→le, le→leb, ltb→lt, lt→ltb, eqb→eq, length-set, get_or-set_same, get_or-set_other, drop-cons}
use Rattle.std.proofs.Math.Logic.{inl, ⊎_elim}
use Rattle.std.proofs.Math.Bool.{true, false}
use mathlib.Core.List.{List, [], map}
use Prim.Native.Nat.{ℕ, zero, suc, ◌+◌, ◌-◌, ◌≤◌, ◌<◌}
use native.Mathlib.Omega.{arith}
use Rattle.std.proofs.Math.Decide.{ℕ_discrete, dec_le}
use Rattle.std.proofs.Math.Dec.{T, eqb_refl}
use Rattle.std.proofs.Math.ListN.{drop, drop_of_length-le}
use Rattle.std.proofs.lemmas.List.{length-replicate, get_or-replicate}
use Rattle.lists.specs.Lists.{run, keep, sum_of, greatest}
use Rattle.lists.specs.Members.{In, both, left, right, in_map, map_in, in_keep, keep_in, in_run, run_in}
use Rattle.lists.specs.Extremes.{greatest_ge, greatest_below}
use Rattle.lists.specs.Counts.{count, count_le, count_or, count_lt, count_suc, count_find, count_none, count_all, count_empty}
use Rattle.plans.specs.Seating.{at, Before, InOrder, free_open, seat_slot, seat_slots, looks, looks_slots, inside, seated_by, Problem, Complete, by_rank}
use Rattle.plans.specs.Seating.{seats_of, looks_of}
use Rattle.plans.proofs.OrderLaws.{before_apart, by_rank_in_order}

-- ---- the tests, read and made
abbrev free : (ℕ → ℕ) → ℕ → Bool
free x j = eqb (x j) 0

abbrev free_due : (ℕ → ℕ) → (ℕ → ℕ) → ℕ → ℕ → Bool
free_due x last b j = eqb (x j) 0 && leb (last j) b

is_free : {m : ℕ} → m ≡ 0 → T (eqb m 0)
is_free e = subst (λ (y : ℕ). T (eqb y 0)) (sym e) (eqb_refl 0)

free_le : (x y b : ℕ) → T (eqb x 0 && leb y b) → (x ≡ 0) × (y ≤ b)
free_le x y b t = (eqb→eq x 0 (left (eqb x 0) (leb y b) t), leb→le y b (right (eqb x 0) (leb y b) t))

le_free : (x y b : ℕ) → x ≡ 0 → y ≤ b → T (eqb x 0 && leb y b)
le_free x y b e h = both (eqb x 0) (leb y b) (is_free e) (le→leb y b h)

in_inside : (f l a b : ℕ) → a < f → l ≤ b → T (ltb a f && leb l b)
in_inside f l a b h k = both (ltb a f) (leb l b) (lt→ltb a f h) (le→leb l b k)

taken : (x b : ℕ) → T (ltb 0 x && leb x b) → (0 < x) × (x ≤ b)
taken x b t = (ltb→lt 0 x (left (ltb 0 x) (leb x b) t), leb→le x b (right (ltb 0 x) (leb x b) t))

-- ---- the invariant: slot s is being filled, and k units have seats
record SeatsSoFar (n top : ℕ) (first last z x : ℕ → ℕ) (k s : ℕ) : Type 0 where
  due : (b : ℕ) → b ≤ top → count n (free_due x last b) ≤ z b - k
  unseated : n ≤ count n (free x) + k
  seated : (j : ℕ) → j < n → 0 < x j → (first j ≤ x j) × (x j ≤ last j) × (x j ≤ s)
  placed : (b : ℕ) → b < s → count n (seated_by x b) ≡ z b
  here : count n (seated_by x s) ≡ k
  fair_free : (i j : ℕ) → i < n → j < n → 0 < x i → x j ≡ 0 → first j ≤ x i → Before last i j
  fair_late : (i j : ℕ) → i < n → j < n → 0 < x i → x i < x j → first j ≤ x i → Before last i j

-- ---- places in the order, and the last of each slot
abbrev pub PlacedBy : ℕ → (ℕ → ℕ) → (ℕ → ℕ) → Type 0
PlacedBy n last place = (p : ℕ) → p < n → place (at (by_rank last n n (replicate n 0)) p) ≡ suc p

-- the places of the units that have slot t in the plan x, and the last of them; for all slots, its sum
abbrev places_at : (ℕ → ℕ) → ℕ → List ℕ → ℕ → List ℕ
places_at place n x t = map place (keep (λ j. eqb (at x j) t) (run 0 n))

abbrev last_at : (ℕ → ℕ) → ℕ → List ℕ → ℕ → ℕ
last_at place n x t = greatest (places_at place n x t)

abbrev pub last_places : (ℕ → ℕ) → ℕ → ℕ → List ℕ → ℕ
last_places place n top x = sum_of (map (last_at place n x) (run 1 top))

module _ (n top : ℕ) (first last z : ℕ → ℕ) (P : Problem n top first last z) where
  start : (x : ℕ → ℕ) → ((j : ℕ) → j < n → x j ≡ 0) → SeatsSoFar n top first last z x 0 1
  start x e = record {
    due = λ b hb. omega (
      arith,
      P.room 0 b (omega arith) hb,
      count_le n (free_due x last b) (inside first last 0 b)
          (λ j h t. in_inside (first j) (last j) 0 b (P.window j h).0 (free_le (x j) (last j) b t).1),
    );
    unseated = omega (arith, count_all n (free x) (λ j h. is_free (e j h)));
    seated = λ j h l. absurd (omega (arith, e j h));
    placed = λ b hb. let w : b ≡ 0 = omega arith in rw w (omega (arith, none 0, P.starts));
    here = omega (arith, none 1);
    fair_free = λ i j hi hj l. absurd (omega (arith, e i hi));
    fair_late = λ i j hi hj l. absurd (omega (arith, e i hi));
  }
    where
      none : (b : ℕ) → count n (seated_by x b) ≤ 0
      none b = count_empty n (seated_by x b) (λ j h t. omega (arith, (taken (x j) b t).0, e j h))

  -- ---- a full slot is left for the next one
  advance : (x : ℕ → ℕ) (s : ℕ) → SeatsSoFar n top first last z x (z s) s → SeatsSoFar n top first last z x (z s) (suc s)
  advance x s S = record {
    due = S.due;
    unseated = S.unseated;
    seated = λ j h l. let p = S.seated j h l in (p.0, p.1, omega arith);
    placed = λ b hb. elim (dec_le b s) [
      | yes l ↦ ⊎_elim (λ (q : b ≡ s). rw q S.here) (λ g. S.placed b g) (eq-or-lt_of_le l)
      | no c ↦ absurd (omega arith)
    ];
    here = omega (
      arith,
      S.here,
      count_le n (seated_by x s) (seated_by x (suc s)) (λ j h t. let p = taken (x j) s t in in_inside (x j) (x j) 0 (suc s) p.0 (omega arith)),
      count_le n (seated_by x (suc s)) (seated_by x s) (λ j h t. let p = taken (x j) (suc s) t in in_inside (x j) (x j) 0 s p.0 (S.seated j h p.0).2),
    );
    fair_free = S.fair_free;
    fair_late = S.fair_late;
  }

  -- ---- one seat
  module _ (x : ℕ → ℕ) (k s : ℕ) (S : SeatsSoFar n top first last z x k s) (hs : 1 ≤ s) (ht : s ≤ top) (more : k < z s) (before : z (s - 1) ≤ k) where
    -- while slot s has seats left, a free unit is open
    some_open : (j : ℕ) × (j < n) × (x j ≡ 0) × (first j ≤ s)
    some_open =
        let c = count_or n (free x) (free_open x first s) (inside first last s top) (λ j h t. elim (dec_le (first j) s) [
          | yes l ↦ inl (le_free (x j) (first j) s (eqb→eq (x j) 0 t) l)
          | no g ↦ inr (in_inside (first j) (last j) s top (omega arith) (P.window j h).2)
        ]) in
        let f = count_find n (free_open x first s) (omega (arith, c, S.unseated, P.total, P.room s top ht (omega arith), P.rising s top ht (omega arith))) in
        let p = free_le (x f.0) (first f.0) s f.2 in
        (f.0, f.1, p.0, p.1)

    module _ (j : ℕ) (hj : j < n) (fj : x j ≡ 0) (oj : first j ≤ s) (best : (i : ℕ) → i < n → i ≢ j → x i ≡ 0 → first i ≤ s → Before last j i)
        (x' : ℕ → ℕ) (now : x' j ≡ s) (else : (i : ℕ) → i ≢ j → x' i ≡ x i) where
      not_j : (i : ℕ) → x' i ≢ s → i ≢ j
      not_j i ne q = ne (ap x' q ∙ now)

      still : (i : ℕ) → x' i ≡ 0 → (i ≢ j) × (x i ≡ 0)
      still i e = let ne = not_j i (omega arith) in (ne, sym (else i ne) ∙ e)

      closes_first : (i : ℕ) → i < n → x i ≡ 0 → first i ≤ s → last j ≤ last i
      closes_first i hi e o = elim (ℕ_discrete i j) [ yes q ↦ rw q (omega arith) | no ne ↦ (best i hi ne e o).closes ]

      in_time : s ≤ last j
      in_time = elim (dec_le s (last j)) [
        | yes l ↦ l
        | no g ↦ absurd (count_none n (free_due x last (last j))
            (omega (arith, S.due (last j) (P.window j hj).2, before, P.rising (last j) (s - 1) (omega arith) (omega arith)))
            j hj (le_free (x j) (last j) (last j) fj (omega arith)))
      ]

      due_after : (b : ℕ) → b ≤ top → count n (free_due x' last b) ≤ z b - suc k
      due_after b hb = elim (dec_le (last j) b) [
        | yes l ↦ omega (
          arith,
          S.due b hb,
          count_lt n (free_due x' last b) (free_due x last b) j hj (le_free (x j) (last j) b fj l)
              (λ t. let p = free_le (x' j) (last j) b t in omega arith)
              (λ i h t. let p = free_le (x' i) (last i) b t in le_free (x i) (last i) b (still i p.0).1 p.1),
        )
        | no g ↦ omega (
          arith,
          P.room s b ht hb,
          count_le n (free_due x' last b) (inside first last s b)
              (λ i h t. let p = free_le (x' i) (last i) b t in elim (dec_le (first i) s) [
                | yes o ↦ absurd (omega (arith, closes_first i h (still i p.0).1 o))
                | no c ↦ in_inside (first i) (last i) s b (omega arith) p.1
              ]),
        )
      ]

      seated_after : (i : ℕ) → i < n → 0 < x' i → (first i ≤ x' i) × (x' i ≤ last i) × (x' i ≤ s)
      seated_after i h l = elim (ℕ_discrete i j) [
        | yes e ↦ rw e (omega (arith, in_time))
        | no ne ↦ rw (else i ne) (S.seated i h (omega (arith, else i ne)))
      ]

      same_by : (b : ℕ) → b < s → count n (seated_by x' b) ≡ count n (seated_by x b)
      same_by b hb = omega (
        arith,
        count_le n (seated_by x' b) (seated_by x b)
            (λ i h t. let p = taken (x' i) b t in let w = else i (not_j i (omega arith)) in in_inside (x i) (x i) 0 b (omega arith) (omega arith)),
        count_le n (seated_by x b) (seated_by x' b)
            (λ i h t. let p = taken (x i) b t in let w = else i (λ q. let r = ap x q in omega arith) in
            in_inside (x' i) (x' i) 0 b (omega arith) (omega arith)),
      )

      one_more : count n (seated_by x' s) ≡ suc (count n (seated_by x s))
      one_more = omega (
        arith,
        count_lt n (seated_by x s) (seated_by x' s) j hj (in_inside (x' j) (x' j) 0 s (omega arith) (omega arith)) (λ t. let p = taken (x j) s t in omega arith)
            (λ i h t. let p = taken (x i) s t in let w = else i (λ q. let r = ap x q in omega arith) in
            in_inside (x' i) (x' i) 0 s (omega arith) (omega arith)),
        count_suc n (seated_by x s) (seated_by x' s) j
            (λ i h ne t. let p = taken (x' i) s t in let w = else i ne in in_inside (x i) (x i) 0 s (omega arith) (omega arith)),
      )

      fair_free_lem : (i m : ℕ) → i < n → m < n → 0 < x' i → x' m ≡ 0 → first m ≤ x' i → Before last i m
      fair_free_lem i m hi hm l e o =
          let nm = not_j m (omega arith) in
          let w = else m nm in
          elim (ℕ_discrete i j) [
            | yes q ↦ let a = ap x' q in rw q (best m hm nm (omega arith) (omega arith))
            | no ne ↦ let a = else i ne in S.fair_free i m hi hm (omega arith) (omega arith) (omega arith)
          ]

      fair_late_lem : (i m : ℕ) → i < n → m < n → 0 < x' i → x' i < x' m → first m ≤ x' i → Before last i m
      fair_late_lem i m hi hm l lt o = elim (ℕ_discrete m j) [
        | yes q ↦
            let a = ap x' q in
            let b = ap x q in
            let w = else i (not_j i (omega arith)) in
            S.fair_free i m hi hm (omega arith) (omega arith) (omega arith)
        | no ne ↦
            let w = else m ne in
            let c = S.seated m hm (omega arith) in
            let v = else i (not_j i (omega arith)) in
            S.fair_late i m hi hm (omega arith) (omega arith) (omega arith)
      ]

      seat_best : SeatsSoFar n top first last z x' (suc k) s
      seat_best = record {
        due = due_after;
        unseated = omega (arith, S.unseated, count_suc n (free x') (free x) j (λ i h ne t. is_free (else i ne ∙ eqb→eq (x i) 0 t)));
        seated = seated_after;
        placed = λ b hb. same_by b hb ∙ S.placed b hb;
        here = one_more ∙ ap suc S.here;
        fair_free = fair_free_lem;
        fair_late = fair_late_lem;
      }

  -- once the last slot is full, every unit has a seat
  finish : (x : ℕ → ℕ) → SeatsSoFar n top first last z x (z top) (suc top) → Complete n top first last z x
  finish x S = record {
    seated = in_window;
    counts = λ b hb. S.placed b (omega arith);
    fair = λ i j hi hj. S.fair_late i j hi hj (omega (arith, P.window i hi, in_window i hi));
  }
    where
      in_window : (j : ℕ) → j < n → (first j ≤ x j) × (x j ≤ last j)
      in_window j h = elim (ℕ_discrete (x j) 0) [
        | yes e ↦ absurd (count_none n (free_due x last top) (omega (arith, S.due top (omega arith))) j h (le_free (x j) (last j) top e (P.window j h).2))
        | no ne ↦ let p = S.seated j h (omega arith) in (p.0, p.1)
      ]

  -- ---- a slot, place after place of the order
  module _ (order : List ℕ) (O : InOrder n last order) where
    abbrev PlanSoFar : ℕ → ℕ → List ℕ → Type 0
    PlanSoFar k s plan = (length plan ≡ n) × SeatsSoFar n top first last z (at plan) k s

    apart : (p q : ℕ) → p < q → q < n → at order p ≢ at order q
    apart p q h hq = before_apart last (at order p) (at order q) (O.sorted p q h hq)

    -- what slot s leaves and looks at from place p of the order on, where r seats are left
    record SlotFilled (s p r : ℕ) (plan after : List ℕ) (l : ℕ) : Type 0 where
      sofar : PlanSoFar (z s) s after
      -- who has a seat keeps it
      kept : (j : ℕ) → (at after j ≡ at plan j) ⊎ ((at plan j ≡ 0) × (at after j ≡ s))
      -- with no seat left nothing is looked at; else the last look is at a unit that gets this slot
      none : r ≡ 0 → l ≡ 0
      inside : p + l ≤ n
      final : 0 < r → (0 < l) × (at after (at order (p + l - 1)) ≡ s)
      -- and the units behind it are as they were
      behind : (q : ℕ) → p + l ≤ q → q < n → at after (at order q) ≡ at plan (at order q)

    module _ (s : ℕ) (hs : 1 ≤ s) (ht : s ≤ top) where
      -- no unit in the first p places of the order is free and open
      abbrev Passed : ℕ → List ℕ → Type 0
      Passed p plan = (q : ℕ) → q < p → T (free_open (at plan) first s (at order q)) → ⊥

      passed_suc : (p : ℕ) (plan : List ℕ) → Passed p plan → (T (free_open (at plan) first s (at order p)) → ⊥) → Passed (suc p) plan
      passed_suc p plan f g q hq = ⊎_elim (λ (e : q ≡ p). rw e g) (λ l. f q l) (eq-or-lt_of_le (omega arith))

      module _ (p k : ℕ) (hp : p < n) (plan : List ℕ) (F : PlanSoFar k s plan) (f : Passed p plan) (o : T (free_open (at plan) first s (at order p))) where
        abbrev seated_plan : List ℕ
        seated_plan = set plan (at order p) s

        here_now : at seated_plan (at order p) ≡ s
        here_now = get_or-set_same plan (at order p) s 0 (omega (arith, F.0, O.units p hp))

        else_same : (i : ℕ) → i ≢ at order p → at seated_plan i ≡ at plan i
        else_same i ne = get_or-set_other plan (at order p) i s 0 ne

        passed_seat : Passed (suc p) seated_plan
        passed_seat = passed_suc p seated_plan
            (λ q hq t.
            let w = else_same (at order q) (apart q p hq hp) in
            let r = free_le (at seated_plan (at order q)) (first (at order q)) s t in
            f q hq (le_free (at plan (at order q)) (first (at order q)) s (sym w ∙ r.0) r.1))
            (λ t. let r = free_le (at seated_plan (at order p)) (first (at order p)) s t in omega (arith, here_now))

        best : (i : ℕ) → i < n → i ≢ at order p → at plan i ≡ 0 → first i ≤ s → Before last (at order p) i
        best i hi ne e l =
            let a = O.all i hi in
            let after : p < a.0 = elim (dec_le a.0 p) [
              | no g ↦ omega arith
              | yes g ↦ ⊎_elim (λ (q : a.0 ≡ p). absurd (ne (sym a.2 ∙ ap (at order) q)))
                  (λ g. absurd (f a.0 g (rw a.2 (le_free (at plan i) (first i) s e l)))) (eq-or-lt_of_le g)
            ] in
            rw (sym a.2) (O.sorted p a.0 after a.1)

        seat_filled : k < z s → z (s - 1) ≤ k → PlanSoFar (suc k) s seated_plan
        seat_filled more before = let r = free_le (at plan (at order p)) (first (at order p)) s o in (
          size,
          seat_best (at plan) k s F.1 hs ht more before (at order p) (O.units p hp) r.0 r.1 best (at seated_plan) here_now else_same,
        )
          where
            size : length seated_plan ≡ n
            size = length-set plan (at order p) s ∙ F.0

      none_left : (k : ℕ) (plan : List ℕ) → PlanSoFar k s plan → z (s - 1) ≤ k → k ≤ z s → Passed n plan → k ≡ z s
      none_left k plan F before le f = elim (dec_le (z s) k) [
        | yes l ↦ omega arith
        | no g ↦
            let j = some_open (at plan) k s F.1 hs ht (omega arith) before in
            let a = O.all j.0 j.1 in
            absurd (f a.0 a.1 (rw a.2 (le_free (at plan j.0) (first j.0) s j.2 j.3)))
      ]

      untouched : (p r : ℕ) (plan : List ℕ) → r ≡ 0 → p ≤ n → PlanSoFar (z s) s plan → SlotFilled s p r plan plan 0
      untouched p r plan e h F = record {
        sofar = F;
        kept = λ j. inl refl;
        none = λ _. refl;
        inside = omega arith;
        final = λ l. absurd (omega arith);
        behind = λ q _ _. refl;
      }

      -- the unit at place p is passed, or it is seated
      past : (p r : ℕ) (plan after : List ℕ) (l : ℕ) → SlotFilled s (suc p) (suc r) plan after l → SlotFilled s p (suc r) plan after (suc l)
      past p r plan after l G = record {
        sofar = G.sofar;
        kept = G.kept;
        none = λ e. absurd (omega arith);
        inside = omega (arith, G.inside);
        final = λ _.
            let f = G.final (omega arith) in
            let same : p + suc l - 1 ≡ suc p + l - 1 = omega arith in
            (omega arith, rw same f.1);
        behind = λ q h. G.behind q (omega arith);
      }

      module _ (p k : ℕ) (hp : p < n) (plan : List ℕ) (F : PlanSoFar k s plan) (f : Passed p plan) (o : T (free_open (at plan) first s (at order p))) where
        taken_here : (r : ℕ) (after : List ℕ) (l : ℕ) → SlotFilled s (suc p) r (set plan (at order p) s) after l → SlotFilled s p (suc r) plan after (suc l)
        taken_here r after l G = record {
          sofar = G.sofar;
          kept = kept;
          none = λ e. absurd (omega arith);
          inside = omega (arith, G.inside);
          final = λ _. (omega arith, last_here (ℕ_discrete r 0));
          behind = λ q h hq. G.behind q (omega arith) hq ∙ else_same p k hp plan F f o (at order q) (λ e. apart p q (omega arith) hq (sym e));
        }
          where
            free : at plan (at order p) ≡ 0
            free = (free_le (at plan (at order p)) (first (at order p)) s o).0

            kept : (j : ℕ) → (at after j ≡ at plan j) ⊎ ((at plan j ≡ 0) × (at after j ≡ s))
            kept j = elim (ℕ_discrete j (at order p)) [
              | yes e ↦ inr (ap (at plan) e ∙ free, ⊎_elim (λ q. q ∙ ap (at (set plan (at order p) s)) e ∙ here_now p k hp plan F f o) (λ q. q.1) (G.kept j))
              | no ne ↦
                  let w = else_same p k hp plan F f o j ne in
                  ⊎_elim (λ q. inl (q ∙ w)) (λ q. inr (sym w ∙ q.0, q.1)) (G.kept j)
            ]

            last_here : Dec (r ≡ 0) → at after (at order (p + suc l - 1)) ≡ s
            last_here (yes e) =
                let same : p + suc l - 1 ≡ p = omega (arith, G.none e) in
                rw same (⊎_elim (λ q. q ∙ here_now p k hp plan F f o) (λ q. q.1) (G.kept (at order p)))
            last_here (no g) =
                let same : p + suc l - 1 ≡ suc p + l - 1 = omega arith in
                rw same (G.final (omega arith)).1

      -- m places of the order are left
      slot_filled : (m p k r : ℕ) (plan : List ℕ) → p + m ≡ n → k + r ≡ z s → z (s - 1) ≤ k → Passed p plan → PlanSoFar k s plan
          → SlotFilled s p r plan (seat_slot first s (drop p order) r plan) (looks first s (drop p order) r plan)
      unfolding seat_slot looks
      slot_filled zero p k r plan e c before f F =
          let none : drop p order ≡ [] = drop_of_length-le order {i = p} (omega (arith, O.size)) in
          let q : p ≡ n = omega arith in
          let full = none_left k plan F before (omega arith) (rw (sym q) f) in
          rw none (untouched p r plan (omega arith) (omega arith) (rw (sym full) F))
      slot_filled (suc m) p k zero plan e c before f F =
          let full : k ≡ z s = omega arith in
          rw (drop-cons order p 0 (omega (arith, O.size))) (untouched p 0 plan refl (omega arith) (rw (sym full) F))
      slot_filled (suc m) p k (suc r) plan e c before f F =
          let u = at order p in
          rw (drop-cons order p 0 (omega (arith, O.size))) (go (free_open (at plan) first s u) refl (slot_filled m (suc p)))
        where
          go : (t : Bool) → free_open (at plan) first s (at order p) ≡ t
              → ((k r : ℕ) (plan : List ℕ) → suc p + m ≡ n → k + r ≡ z s → z (s - 1) ≤ k → Passed (suc p) plan → PlanSoFar k s plan
              → SlotFilled s (suc p) r plan (seat_slot first s (drop (suc p) order) r plan) (looks first s (drop (suc p) order) r plan))
              → SlotFilled s p (suc r) plan
              (cond t (seat_slot first s (drop (suc p) order) r (set plan (at order p) s)) (seat_slot first s (drop (suc p) order) (suc r) plan))
              (suc (cond t (looks first s (drop (suc p) order) r (set plan (at order p) s)) (looks first s (drop (suc p) order) (suc r) plan)))
          go true q ih =
              let o : T (free_open (at plan) first s (at order p)) = subst T (sym q) tt in
              taken_here p k (omega arith) plan F f o r _ _
              (ih (suc k) r (set plan (at order p) s) (omega arith) (omega arith) (omega arith) (passed_seat p k (omega arith) plan F f o)
              (seat_filled p k (omega arith) plan F f o (omega arith) before))
          go false q ih = past p r plan _ _ (ih k (suc r) plan (omega arith) c before (passed_suc p plan f (λ t. subst T q t)) F)

    -- ---- slot after slot

    -- the slot after boundary b
    next_filled : (b : ℕ) (plan : List ℕ) (h : suc b ≤ top) → PlanSoFar (z b) (suc b) plan
        → let k = z (suc b) - z b in
        SlotFilled (suc b) 0 k plan (seat_slot first (suc b) order k plan) (looks first (suc b) order k plan)
    next_filled b plan h F =
        let same = ap z (let p : suc b - 1 ≡ b = omega arith in p) in
        slot_filled (suc b) (omega arith) h n 0 (z b) (z (suc b) - z b) plan (omega arith)
        (omega (arith, P.rising b (suc b) (omega arith) h)) (omega arith) (λ q hq. absurd (omega arith)) F

    -- a full slot is left for the next one
    moved_on : (s : ℕ) (plan : List ℕ) → PlanSoFar (z s) s plan → PlanSoFar (z s) (suc s) plan
    moved_on s plan F = (F.0, advance (at plan) s F.1)

    -- the slots up to boundary b are taken; those after it are for units that are free
    abbrev Early : ℕ → List ℕ → Type 0
    Early b plan = (j : ℕ) → j < n → at plan j ≤ b

    abbrev Later : ℕ → List ℕ → List ℕ → Type 0
    Later b plan x = (j : ℕ) → (at x j ≡ at plan j) ⊎ ((at plan j ≡ 0) × (b < at x j))

    later : (b : ℕ) (plan next x : List ℕ) → ((j : ℕ) → (at next j ≡ at plan j) ⊎ ((at plan j ≡ 0) × (at next j ≡ suc b))) → Later (suc b) next x
        → Later b plan x
    later b plan next x here rest j =
        ⊎_elim (λ same. ⊎_elim (λ q. inl (q ∙ same)) (λ q. inr (sym same ∙ q.0, omega (arith, q.1))) (rest j))
        (λ new. inr (new.0, ⊎_elim (λ q. omega (arith, q, new.1)) (λ q. omega (arith, q.1)) (rest j))) (here j)

    slots_filled : (m b : ℕ) (plan : List ℕ) → b + m ≡ top → PlanSoFar (z b) (suc b) plan
        → let x = seat_slots first z order b m plan in PlanSoFar (z top) (suc top) x × Later b plan x
    unfolding seat_slots
    slots_filled zero b plan e F = let q : b ≡ top = omega arith in (subst (λ (t : ℕ). PlanSoFar (z t) (suc t) plan) q F, λ j. inl refl)
    slots_filled (suc m) b plan e F =
        let next = seat_slot first (suc b) order (z (suc b) - z b) plan in
        let full = next_filled b plan (omega arith) F in
        let rest = slots_filled m (suc b) next (omega arith) (moved_on (suc b) next full.sofar) in
        (rest.0, later b plan next (seat_slots first z order (suc b) m next) full.kept rest.1)

    all_free : PlanSoFar (z 0) 1 (replicate n 0) × Early 0 (replicate n 0)
    all_free =
        let zeros : (j : ℕ) → j < n → at (replicate n 0) j ≡ 0 = (λ j h. get_or-replicate n j 0 0 h) in
        ((length-replicate n 0, rw P.starts (start (at (replicate n 0)) zeros)), λ j h. omega (arith, zeros j h))

    all_filled : PlanSoFar (z top) (suc top) (seat_slots first z order 0 top (replicate n 0))
    all_filled = (slots_filled top 0 (replicate n 0) (omega arith) all_free.0).0

    -- ---- the looks, where every unit has its place in the order
    module _ (place : ℕ → ℕ) (placed : (p : ℕ) → p < n → place (at order p) ≡ suc p) where
      module _ (b k : ℕ) (plan next x : List ℕ) (l : ℕ) (G : SlotFilled (suc b) 0 k plan next l)
          (early : Early b plan) (rest : Later (suc b) next x) where
        not_behind : (p : ℕ) → p < n → at x (at order p) ≡ suc b → p < l
        not_behind p h e = elim (dec_le l p) [
          | no g ↦ omega arith
          | yes g ↦
              let w = G.behind p (omega arith) h in
              let o = early (at order p) (O.units p h) in
              absurd (⊎_elim (λ q. omega (arith, w, o, q, e)) (λ q. omega (arith, q.1, e)) (rest (at order p)))
        ]

        abbrev has : ℕ → Bool
        has j = eqb (at x j) (suc b)

        none_after : (y : ℕ) → In y (places_at place n x (suc b)) → y ≤ l
        none_after y m =
            let j = in_map place y (keep has (run 0 n)) m in
            let here = in_keep has j.0 (run 0 n) j.1 in
            let a = O.all j.0 (omega (arith, (in_run j.0 0 n here.0).1)) in
            let seat = ap (at x) a.2 ∙ eqb→eq (at x j.0) (suc b) here.1 in
            omega (arith, j.2, ap place a.2, placed a.0 a.1, not_behind a.0 a.1 seat)

        last_there : 0 < l → l ≤ last_at place n x (suc b)
        last_there h =
            let p : ℕ = l - 1 in
            let hp : p < n = omega (arith, G.inside) in
            let u = at order p in
            let more : 0 < k = elim (ℕ_discrete k 0) [ yes e ↦ absurd (omega (arith, G.none e)) | no g ↦ omega arith ] in
            let front : p ≡ 0 + l - 1 = omega arith in
            let seat : at next u ≡ suc b = rw front (G.final more).1 in
            let now : at x u ≡ suc b = ⊎_elim (λ q. q ∙ seat) (λ q. absurd (omega (arith, q.0, seat))) (rest u) in
            let m = keep_in has u (run 0 n) (run_in u 0 n (omega arith) (omega (arith, O.units p hp))) (rw now (eqb_refl (suc b))) in
            omega (arith, placed p hp, greatest_ge (place u) (places_at place n x (suc b)) (map_in place u (keep has (run 0 n)) m))

        last_look : last_at place n x (suc b) ≡ l
        last_look = elim (ℕ_discrete l 0) [
          | yes e ↦ omega (arith, greatest_below l (places_at place n x (suc b)) none_after)
          | no g ↦ omega (arith, greatest_below l (places_at place n x (suc b)) none_after, last_there (omega arith))
        ]

      slots_looked : (m b : ℕ) (plan : List ℕ) → b + m ≡ top → PlanSoFar (z b) (suc b) plan → Early b plan
          → sum_of (map (last_at place n (seat_slots first z order b m plan)) (run (suc b) m)) ≡ looks_slots first z order b m plan
      unfolding seat_slots looks_slots
      slots_looked zero b plan e F early = refl
      slots_looked (suc m) b plan e F early =
          let k = z (suc b) - z b in
          let next = seat_slot first (suc b) order k plan in
          let full = next_filled b plan (omega arith) F in
          let F' = moved_on (suc b) next full.sofar in
          let rest = (slots_filled m (suc b) next (omega arith) F').1 in
          let early' : Early (suc b) next =
          (λ j h. let o = early j h in ⊎_elim (λ q. omega (arith, q)) (λ q. omega (arith, q.1)) (full.kept j)) in
          ap₂ (λ (a c : ℕ). a + c)
          (last_look b k plan next (seat_slots first z order (suc b) m next) (looks first (suc b) order k plan) full early rest)
          (slots_looked m (suc b) next (omega arith) F' early')

  in_order_lem : InOrder n last (by_rank last n n (replicate n 0))
  in_order_lem = by_rank_in_order last n (replicate n 0) (length-replicate n 0)

  pub seats_size : length (seats_of n top first last z) ≡ n
  unfolding seats_of
  seats_size = (all_filled (by_rank last n n (replicate n 0)) in_order_lem).0

  pub seats_complete : Complete n top first last z (at (seats_of n top first last z))
  unfolding seats_of
  seats_complete = finish (at (seats_of n top first last z)) (all_filled (by_rank last n n (replicate n 0)) in_order_lem).1

  -- each slot is looked for as far as its last unit
  pub looks_are : (place : ℕ → ℕ) → PlacedBy n last place → looks_of n top first last z ≡ last_places place n top (seats_of n top first last z)
  unfolding seats_of looks_of
  looks_are place placed =
      let order = by_rank last n n (replicate n 0) in
      let free = all_free order in_order_lem in
      sym (slots_looked order in_order_lem place placed top 0 (replicate n 0) (omega arith) free.0 free.1)
