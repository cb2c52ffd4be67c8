-- A feasible potential of a sheet's limits is the deliveries of a lawful plan: the one that seating by deadline makes.
-- Key idea: the limits say that the potential's rise over a stretch is at least the number of windows inside it and from low to high of each rule on it. The
-- first makes the rises a seating problem, so every unit finds a seat in its window; the second makes the plan obey each rule.
use Rattle.std.specs.Prelude.{◌≡◌, refl, ◌&&◌, List, ℕ, suc, ◌+◌, ◌-◌, ◌≤◌, ◌<◌, ltb, length, pos, ◌+ℤ◌, ◌-ℤ◌, ◌≤ℤ◌}
use Rattle.std.proofs.Common.{sym, ◌∙◌, eq-or-lt_of_le, le→leb, lt→ltb}
use Rattle.std.proofs.Math.Path.{ap, subst}
use Rattle.std.proofs.Math.Logic.{⊎_elim}
use native.Mathlib.Omega.{arith}
use Rattle.std.proofs.Math.Decide.{dec_le}
use Rattle.std.proofs.Math.Dec.{T, leb, leb→le, ltb→lt}
use Rattle.integers.specs.Parts.{up, ints, sum, neg, difference, nonneg}
use Rattle.lists.specs.Lists.{within, every, how_many}
use Rattle.lists.specs.Members.{In, both, left, right, within_iff, in_every}
use Rattle.lists.specs.Counts.{count, count_le, count_all, count_empty, how_many_count}
use Rattle.network.specs.Network.{Potential, Feasible}
use Rattle.sheet.specs.Sheet.{Sheet, Rule, top, no_window, count_in, in_windows, obeys, lawful, fair, inside_of, at_most, at_least, limit}
use Rattle.sheet.proofs.PlanLaws.{seated_in_windows}
use Rattle.sheet.proofs.LimitLaws.{count_in_split, limit_fwd, limit_back, at_most_rule, at_least_rule, at_most_n, at_least_windows}
use Rattle.plans.specs.Seating.{at, inside, seated_by, Problem, Complete, seats_of, looks_of}
use Rattle.plans.proofs.SeatingLaws.{PlacedBy, last_places, seats_size, seats_complete, looks_are}
use Rattle.plans.proofs.FairLaws.{firsts, lasts, fair_make}
use Rattle.sheet.specs.Solved.{Valid}

-- first and last are the sheet's windows, and c counts how far the potential has risen since boundary 0
pub record Rises (s : Sheet) (z : Potential) (first last c : ℕ → ℕ) : Type 0 where
  pub opens : (j : ℕ) → j < length s.units → first j ≡ firsts s j
  pub closes : (j : ℕ) → j < length s.units → last j ≡ lasts s j
  pub rise : (b : ℕ) → b ≤ top s → z b ≡ (z 0 +ℤ pos (c b))

module _ (s : Sheet) (ok : Valid s) (z : Potential) (f : Feasible (top s) (limit s) z) (first last c : ℕ → ℕ) (R : Rises s z first last c) where
  n : ℕ
  n = length s.units

  -- a step up is at most its limit, and at least
  up_most : (a b : ℕ) → a < b → b ≤ top s → c b ≤ c a + at_most s (suc a) b
  up_most a b h hb = omega (
    ints,
    R.rise a (omega arith),
    R.rise b hb,
    sum (z 0) (pos (c a)),
    sum (z 0) (pos (c b)),
    f a b (omega arith) hb,
    sum (z a) (limit s a b),
    limit_fwd s a b h,
  )

  up_least : (a b : ℕ) → a < b → b ≤ top s → c a + at_least s (suc a) b ≤ c b
  up_least a b h hb = omega (
    ints,
    R.rise a (omega arith),
    R.rise b hb,
    sum (z 0) (pos (c a)),
    sum (z 0) (pos (c b)),
    f b a hb (omega arith),
    sum (z b) (limit s b a),
    limit_back s b a h,
    neg (pos (at_least s (suc a) b)),
  )

  starts : c 0 ≡ 0
  starts = omega (ints, R.rise 0 (omega arith), sum (z 0) (pos (c 0)))

  fits : (a b : ℕ) → count n (inside first last a b) ≡ how_many (inside_of (suc a) b) s.units
  unfolding n
  fits a b = omega (
    arith,
    how_many_count (inside_of (suc a) b) no_window s.units,
    count_le n (inside first last a b) (inside (firsts s) (lasts s) a b)
        (λ j h t. subst (λ (w : ℕ). T (ltb a w && leb (lasts s j) b)) (R.opens j h) (subst (λ (w : ℕ). T (ltb a (first j) && leb w b)) (R.closes j h) t)),
    count_le n (inside (firsts s) (lasts s) a b) (inside first last a b)
        (λ j h t. subst (λ (w : ℕ). T (ltb a w && leb (last j) b)) (sym (R.opens j h))
        (subst (λ (w : ℕ). T (ltb a (firsts s j) && leb w b)) (sym (R.closes j h)) t)),
  )

  window : (j : ℕ) → j < n → (1 ≤ first j) × (first j ≤ last j) × (last j ≤ top s)
  unfolding n
  window j h = omega (arith, ok.windows j h, R.opens j h, R.closes j h)

  problem : Problem n (top s) first last c
  unfolding n
  problem = record {
    window = window;
    starts = starts;
    rising = λ a b h hb. ⊎_elim (λ (e : a ≡ b). omega (arith, ap c e)) (λ l. omega (arith, up_least a b l hb)) (eq-or-lt_of_le h);
    total =
        let all = count_all n (inside first last 0 (top s)) (λ j h.
        let w = window j h in
        both (ltb 0 (first j)) (leb (last j) (top s)) (lt→ltb 0 (first j) w.0) (le→leb (last j) (top s) w.2)) in
        omega (
          arith,
          starts,
          all,
          fits 0 (top s),
          up_most 0 (top s) ok.spans (omega arith),
          up_least 0 (top s) ok.spans (omega arith),
          at_most_n s 1 (top s),
          at_least_windows s 1 (top s),
        );
    room = λ a b ha hb. elim (dec_le b a) [
      | no g ↦ omega (arith, fits a b, up_least a b (omega arith) hb, at_least_windows s (suc a) b)
      | yes l ↦ omega (
        arith,
        count_empty n (inside first last a b) (λ j h t.
            let w = window j h in
            omega (
              arith,
              w,
              ltb→lt a (first j) (left (ltb a (first j)) (leb (last j) b) t),
              leb→le (last j) b (right (ltb a (first j)) (leb (last j) b) t),
            )),
      )
    ];
  }

  plan : List ℕ
  plan = seats_of n (top s) first last c

  done : Complete n (top s) first last c (at plan)
  unfolding plan
  done = seats_complete n (top s) first last c problem

  size : length plan ≡ n
  unfolding plan
  size = seats_size n (top s) first last c problem

  -- the plan's deliveries by the end of slot b are c b
  by_end : (b : ℕ) → b ≤ top s → count_in 1 b plan ≡ c b
  by_end b hb = how_many_count (within 1 b) 0 plan ∙ ap (λ (m : ℕ). count m (seated_by (at plan) b)) size ∙ done.counts b hb

  in_stretch : (a b : ℕ) → a ≤ b → b ≤ top s → c a + count_in (suc a) b plan ≡ c b
  in_stretch a b h hb = omega (arith, count_in_split a b h plan, by_end a (omega arith), by_end b hb)

  kept : (r : Rule) → In r s.rules → (r.low ≤ count_in r.from r.to plan) × (count_in r.from r.to plan ≤ r.high)
  kept r m =
      let w = ok.stretches r m in
      let a = r.from - 1 in
      let e : suc a ≡ r.from = omega arith in
      omega (
        arith,
        ap (λ (u : ℕ). count_in u r.to plan) e,
        ap (λ (u : ℕ). at_most s u r.to) e,
        ap (λ (u : ℕ). at_least s u r.to) e,
        in_stretch a r.to (omega arith) w.2,
        up_most a r.to (omega arith) w.2,
        up_least a r.to (omega arith) w.2,
        at_most_rule s r m,
        at_least_rule s r m,
      )

  pub seats_lawful : T (lawful s (seats_of (length s.units) (top s) first last c))
  unfolding n plan lawful
  seats_lawful = both (in_windows s.units plan) (every (obeys plan) s.rules)
      (seated_in_windows s.units plan (record { size = size; inside = λ j h. omega (arith, done.seated j h, R.opens j h, R.closes j h) }))
      (in_every (obeys plan) s.rules (λ r m. (within_iff r.low r.high (count_in r.from r.to plan)).1 (kept r m)))

  pub seats_fair : T (fair s (seats_of (length s.units) (top s) first last c))
  unfolding n plan
  seats_fair = fair_make s plan (λ i j hi hj lt o.
      let b = done.fair i j hi hj lt (omega (arith, R.opens j hj)) in
      record { closes = omega (arith, b.closes, R.closes i hi, R.closes j hj); tie = λ l. b.tie (omega (arith, R.closes i hi, R.closes j hj)) })

  pub seats_count : (b : ℕ) → b ≤ top s → count_in 1 b (seats_of (length s.units) (top s) first last c) ≡ c b
  unfolding n plan
  seats_count = by_end

  -- each slot is looked for as far as its last unit, by places that are those of the order
  pub seats_looked : (place : ℕ → ℕ) → PlacedBy (length s.units) last place
      → looks_of (length s.units) (top s) first last c ≡ last_places place (length s.units) (top s) (seats_of (length s.units) (top s) first last c)
  unfolding n
  seats_looked = looks_are n (top s) first last c problem

-- a lawful and fair plan whose count in each stretch is the potential's rise
pub feasible_lawful : (s : Sheet) → Valid s → (z : Potential) → Feasible (top s) (limit s) z
    → (x : List ℕ) × T (lawful s x) × T (fair s x) × ((a b : ℕ) → a ≤ b → b ≤ top s → z b ≡ (z a +ℤ pos (count_in (suc a) b x)))
feasible_lawful s ok z f =
    let c : ℕ → ℕ = (λ v. up (z v -ℤ z 0)) in
    let x = seats_of (length s.units) (top s) (firsts s) (lasts s) c in (
      x,
      seats_lawful s ok z f (firsts s) (lasts s) c R,
      seats_fair s ok z f (firsts s) (lasts s) c R,
      λ a b h hb. omega (
        ints,
        R.rise a (omega arith),
        R.rise b hb,
        sum (z 0) (pos (c a)),
        sum (z 0) (pos (c b)),
        sum (z a) (pos (count_in (suc a) b x)),
        count_in_split a b h x,
        seats_count s ok z f (firsts s) (lasts s) c R a (omega arith),
        seats_count s ok z f (firsts s) (lasts s) c R b hb,
      ),
    )
  where
    down : (v : ℕ) → v ≤ top s → z 0 ≤ℤ z v
    down v hv = ⊎_elim
        (λ (e : 0 ≡ v). omega (ints, ap z e))
        (λ (g : 0 < v). omega (ints, f v 0 hv (omega arith), sum (z v) (limit s v 0), limit_back s v 0 g, neg (pos (at_least s 1 v))))
        (eq-or-lt_of_le (omega arith))

    R : Rises s z (firsts s) (lasts s) (λ v. up (z v -ℤ z 0))
    R = record {
      opens = λ j h. refl;
      closes = λ j h. refl;
      rise = λ b hb.
          let d = z b -ℤ z 0 in
          let p : pos 0 ≤ℤ d = omega (ints, down b hb, difference (z b) (z 0)) in
          omega (ints, difference (z b) (z 0), nonneg p, sum (z 0) (pos (up d)));
    }
