-- Seats by closing slot: two complete seatings of the same windows, in whatever order, that have as many seats by the end of each slot, have as many of each
-- closing slot in each slot.
-- Key idea: slot after slot they have seated as many of the units that close by c. If y had fewer of them by the end of slot s + 1 than x, then one of them
-- was open and waits in y, since as many are open in the one as in the other; and y has given slot s + 1 to a unit that closes after c, since as many are
-- seated in all. That is against the order of seats. Lines are not looked at.
use Rattle.std.specs.Prelude.{◌≡◌, ◌⊎◌, Bool, true, ◌&&◌, ℕ, zero, suc, ◌+◌, ◌≤◌, ◌<◌, T, leb, ltb, eqb}
use Rattle.std.proofs.Common.{sym, inl, inr, arith, leb→le, le→leb, ltb→lt, lt→ltb, eqb→eq}
use Rattle.std.proofs.Math.Logic.{⊎_map}
use Rattle.std.proofs.Math.Decide.{dec_le}
use Rattle.std.proofs.Math.Dec.{eqb_refl}
use Rattle.lists.specs.Lists.{within}
use Rattle.lists.specs.Members.{both, left, right, within_iff}
use Rattle.lists.specs.Counts.{count, count_le, count_or, count_find, count_empty, count_split}
use Rattle.plans.specs.Seating.{Complete}

-- ---- a test in two parts: what passes it passes one of them, and nothing passes both

record Parts (p q r : ℕ → Bool) : Type 0 where
  either : (a : ℕ) → T (p a) → T (q a) ⊎ T (r a)
  one : (a : ℕ) → T (q a) → T (p a)
  other : (a : ℕ) → T (r a) → T (p a)
  apart : (a : ℕ) → T (q a) → T (r a) → ⊥

-- one slot more
next : (f k : ℕ) → f ≤ suc k → Parts (within f (suc k)) (within f k) (λ a. eqb a (suc k))
next f k h = record {
  either = λ a t.
      let p = (within_iff f (suc k) a).0 t in
      elim (dec_le a k) [
        | yes l ↦ inl ((within_iff f k a).1 (omega arith))
        | no g ↦ let e : a ≡ suc k = omega arith in inr (rw e (eqb_refl (suc k)))
      ];
  one = λ a t. let p = (within_iff f k a).0 t in (within_iff f (suc k) a).1 (omega arith);
  other = λ a t. let e = eqb→eq a (suc k) t in (within_iff f (suc k) a).1 (omega arith);
  apart = λ a t u. let p = (within_iff f k a).0 t in let e = eqb→eq a (suc k) u in omega arith;
}

-- up to a slot, and after it
sides : (c : ℕ) → Parts (λ _. true) (within 0 c) (ltb c)
sides c = record {
  either = λ a t. elim (dec_le a c) [ yes l ↦ inl ((within_iff 0 c a).1 (omega arith)) | no g ↦ inr (lt→ltb c a (omega arith)) ];
  one = λ a t. tt;
  other = λ a t. tt;
  apart = λ a t u. let p = (within_iff 0 c a).0 t in let q = ltb→lt c a u in omega arith;
}

-- how many units' closing slots pass the one test and their seats the other
abbrev seats_by : ℕ → (ℕ → ℕ) → (ℕ → ℕ) → (ℕ → Bool) → (ℕ → Bool) → ℕ
seats_by n last x closing seat = count n (λ j. closing (last j) && seat (x j))

module _ (n : ℕ) (last x : ℕ → ℕ) (p q r : ℕ → Bool) (P : Parts p q r) where
  by_closing : (v : ℕ → Bool) → seats_by n last x p v ≡ seats_by n last x q v + seats_by n last x r v
  by_closing v = count_split n (λ j. p (last j) && v (x j)) (λ j. q (last j) && v (x j)) (λ j. r (last j) && v (x j))
      (λ j h t.
      let seat = right (p (last j)) (v (x j)) t in
      ⊎_map (λ a. both (q (last j)) (v (x j)) a seat) (λ a. both (r (last j)) (v (x j)) a seat) (P.either (last j) (left (p (last j)) (v (x j)) t)))
      (λ j h t. both (p (last j)) (v (x j)) (P.one (last j) (left (q (last j)) (v (x j)) t)) (right (q (last j)) (v (x j)) t))
      (λ j h t. both (p (last j)) (v (x j)) (P.other (last j) (left (r (last j)) (v (x j)) t)) (right (r (last j)) (v (x j)) t))
      (λ j h t u. P.apart (last j) (left (q (last j)) (v (x j)) t) (left (r (last j)) (v (x j)) u))

  by_seat : (v : ℕ → Bool) → seats_by n last x v p ≡ seats_by n last x v q + seats_by n last x v r
  by_seat v = count_split n (λ j. v (last j) && p (x j)) (λ j. v (last j) && q (x j)) (λ j. v (last j) && r (x j))
      (λ j h t.
      let closes = left (v (last j)) (p (x j)) t in
      ⊎_map (both (v (last j)) (q (x j)) closes) (both (v (last j)) (r (x j)) closes) (P.either (x j) (right (v (last j)) (p (x j)) t)))
      (λ j h t. both (v (last j)) (p (x j)) (left (v (last j)) (q (x j)) t) (P.one (x j) (right (v (last j)) (q (x j)) t)))
      (λ j h t. both (v (last j)) (p (x j)) (left (v (last j)) (r (x j)) t) (P.other (x j) (right (v (last j)) (r (x j)) t)))
      (λ j h t u. P.apart (x j) (right (v (last j)) (q (x j)) t) (right (v (last j)) (r (x j)) u))

-- ---- seatings

-- windows inside the slots 1 to top
abbrev Windows : ℕ → ℕ → (ℕ → ℕ) → (ℕ → ℕ) → Type 0
Windows n top first last = (j : ℕ) → j < n → (1 ≤ first j) × (first j ≤ last j) × (last j ≤ top)

-- open by slot b, and closing by c
abbrev pub opened : (ℕ → ℕ) → (ℕ → ℕ) → ℕ → ℕ → ℕ → Bool
opened first last c b j = leb (last j) c && leb (first j) b

-- in slot t, and closing in c
abbrev pub closing_in : (ℕ → ℕ) → (ℕ → ℕ) → ℕ → ℕ → ℕ → Bool
closing_in last x c t j = eqb (last j) c && eqb (x j) t

module _ (n top : ℕ) where
  -- seated by the end of slot b, and closing by c, or after it
  abbrev low : (ℕ → ℕ) → (ℕ → ℕ) → ℕ → ℕ → ℕ
  low last x c b = seats_by n last x (within 0 c) (within 1 b)

  abbrev high : (ℕ → ℕ) → (ℕ → ℕ) → ℕ → ℕ → ℕ
  high last x c b = seats_by n last x (ltb c) (within 1 b)

  -- no unit closes or sits outside the slots 1 to top
  none_closing : (first last z x : ℕ → ℕ) → Windows n top first last → Complete n top first last z x
      → (c t : ℕ) → (1 ≤ c → 1 ≤ t → t ≤ top → ⊥) → count n (closing_in last x c t) ≤ 0
  none_closing first last z x valid cx c t out = count_empty n (closing_in last x c t) (λ j h u.
      let e = eqb→eq (last j) c (left (eqb (last j) c) (eqb (x j) t) u) in
      let f = eqb→eq (x j) t (right (eqb (last j) c) (eqb (x j) t) u) in
      let w = valid j h in
      let k = cx.seated j h in
      out (omega arith) (omega arith) (omega arith))

  -- in slot s + 1, of those that close in c + 1: by those that close by either, seated by the end of either slot
  closing_is : (last x : ℕ → ℕ) (c s : ℕ)
      → low last x (suc c) (suc s) + low last x c s ≡ low last x (suc c) s + low last x c (suc s) + count n (closing_in last x (suc c) (suc s))
  closing_is last x c s =
      let slot = next 1 s (omega arith) in
      omega (
        arith,
        by_seat n last x (within 1 (suc s)) (within 1 s) (λ a. eqb a (suc s)) slot (within 0 (suc c)),
        by_seat n last x (within 1 (suc s)) (within 1 s) (λ a. eqb a (suc s)) slot (within 0 c),
        by_closing n last x (within 0 (suc c)) (within 0 c) (λ a. eqb a (suc c)) (next 0 c (omega arith)) (λ a. eqb a (suc s)),
      )

  -- ---- two of them, over the same windows: by the end of slot s + 1 the second has seated no fewer of those that close by c
  module _ (first last zx x : ℕ → ℕ) (cx : Complete n top first last zx x)
      (first' last' zy y : ℕ → ℕ) (valid' : Windows n top first' last') (cy : Complete n top first' last' zy y)
      (windows : (c b : ℕ) → count n (opened first last c b) ≡ count n (opened first' last' c b)) (s : ℕ) (hs : suc s ≤ top)
      (now : zx (suc s) ≡ zy (suc s)) (c : ℕ) (before : high last' y c s ≤ high last x c s) where
    no_fewer : low last x c (suc s) ≤ low last' y c (suc s)
    no_fewer = elim (dec_le (low last x c (suc s)) (low last' y c (suc s))) [
      | yes l ↦ l
      | no g ↦
          let waits : ℕ → Bool = (λ j. opened first' last' c (suc s) j && ltb (suc s) (y j)) in
          let takes : ℕ → Bool = (λ j. ltb c (last' j) && eqb (y j) (suc s)) in
          let slot = next 1 s (omega arith) in
          let most = count_le n (λ j. within 0 c (last j) && within 1 (suc s) (x j)) (opened first last c (suc s)) (λ j h t.
          let p = (within_iff 0 c (last j)).0 (left (within 0 c (last j)) (within 1 (suc s) (x j)) t) in
          let q = (within_iff 1 (suc s) (x j)).0 (right (within 0 c (last j)) (within 1 (suc s) (x j)) t) in
          both (leb (last j) c) (leb (first j) (suc s)) (le→leb (last j) c p.1) (le→leb (first j) (suc s) (omega (arith, cx.seated j h)))) in
          let some = count_or n (opened first' last' c (suc s)) (λ j. within 0 c (last' j) && within 1 (suc s) (y j)) waits (λ j h t.
          let p = leb→le (last' j) c (left (leb (last' j) c) (leb (first' j) (suc s)) t) in
          elim (dec_le (y j) (suc s)) [
            | yes l ↦ inl (both (within 0 c (last' j)) (within 1 (suc s) (y j)) ((within_iff 0 c (last' j)).1 (omega arith))
                ((within_iff 1 (suc s) (y j)).1 (omega (arith, valid' j h, cy.seated j h))))
            | no m ↦ inr (both (opened first' last' c (suc s) j) (ltb (suc s) (y j)) t (lt→ltb (suc s) (y j) (omega arith)))
          ]) in
          let i = count_find n waits (omega (arith, most, some, windows c (suc s))) in
          let j = count_find n takes (omega (
            arith,
            before,
            now,
            by_seat n last x (within 1 (suc s)) (within 1 s) (λ a. eqb a (suc s)) slot (ltb c),
            by_seat n last' y (within 1 (suc s)) (within 1 s) (λ a. eqb a (suc s)) slot (ltb c),
            by_closing n last x (λ _. true) (within 0 c) (ltb c) (sides c) (within 1 (suc s)),
            by_closing n last' y (λ _. true) (within 0 c) (ltb c) (sides c) (within 1 (suc s)),
            cx.counts (suc s) hs,
            cy.counts (suc s) hs,
          )) in
          let after = ltb→lt c (last' j.0) (left (ltb c (last' j.0)) (eqb (y j.0) (suc s)) j.2) in
          let here = eqb→eq (y j.0) (suc s) (right (ltb c (last' j.0)) (eqb (y j.0) (suc s)) j.2) in
          let open-now = left (opened first' last' c (suc s) i.0) (ltb (suc s) (y i.0)) i.2 in
          let late = ltb→lt (suc s) (y i.0) (right (opened first' last' c (suc s) i.0) (ltb (suc s) (y i.0)) i.2) in
          let closes = leb→le (last' i.0) c (left (leb (last' i.0) c) (leb (first' i.0) (suc s)) open-now) in
          let opens = leb→le (first' i.0) (suc s) (right (leb (last' i.0) c) (leb (first' i.0) (suc s)) open-now) in
          absurd (omega (arith, (cy.fair j.0 i.0 j.1 i.1 (omega arith) (omega arith)).closes))
    ]

  module _ (first last zx x : ℕ → ℕ) (valid : Windows n top first last) (cx : Complete n top first last zx x)
      (first' last' zy y : ℕ → ℕ) (valid' : Windows n top first' last') (cy : Complete n top first' last' zy y)
      (windows : (c b : ℕ) → count n (opened first last c b) ≡ count n (opened first' last' c b))
      (e : (b : ℕ) → b ≤ top → zx b ≡ zy b) where
    -- by the end of each slot, of the units that close by c, one has seated as many as the other
    lows : (s : ℕ) → s ≤ top → (c : ℕ) → low last x c s ≡ low last' y c s
    lows zero hs c =
        let none : (last x : ℕ → ℕ) → low last x c 0 ≤ 0 = (λ last x. count_empty n (λ j. within 0 c (last j) && within 1 0 (x j)) (λ j h t.
        omega (arith, (within_iff 1 0 (x j)).0 (right (within 0 c (last j)) (within 1 0 (x j)) t)))) in
        omega (arith, none last x, none last' y)
    lows (suc s) hs c =
        let highs : high last x c s ≡ high last' y c s = omega (
          arith,
          lows s (omega arith) c,
          by_closing n last x (λ _. true) (within 0 c) (ltb c) (sides c) (within 1 s),
          by_closing n last' y (λ _. true) (within 0 c) (ltb c) (sides c) (within 1 s),
          cx.counts s (omega arith),
          cy.counts s (omega arith),
          e s (omega arith),
        ) in
        omega (
          arith,
          no_fewer first last zx x cx first' last' zy y valid' cy windows s hs (e (suc s) hs) c (omega arith),
          no_fewer first' last' zy y cy first last zx x valid cx (λ d b. sym (windows d b)) s hs (sym (e (suc s) hs)) c (omega arith),
        )

    both_none : (c t : ℕ) → (1 ≤ c → 1 ≤ t → t ≤ top → ⊥) → count n (closing_in last x c t) ≡ count n (closing_in last' y c t)
    both_none c t out = omega (arith, none_closing first last zx x valid cx c t out, none_closing first' last' zy y valid' cy c t out)

    -- in each slot there are as many of each closing slot
    pub closing_same : (c t : ℕ) → count n (closing_in last x c t) ≡ count n (closing_in last' y c t)
    closing_same zero t = both_none 0 t (λ h k l. omega arith)
    closing_same (suc c) zero = both_none (suc c) 0 (λ h k l. omega arith)
    closing_same (suc c) (suc s) = elim (dec_le (suc s) top) [
      | no g ↦ both_none (suc c) (suc s) (λ h k l. omega arith)
      | yes hs ↦ omega (
        arith,
        closing_is last x c s,
        closing_is last' y c s,
        lows (suc s) hs (suc c),
        lows (suc s) hs c,
        lows s (omega arith) (suc c),
        lows s (omega arith) c,
      )
    ]
