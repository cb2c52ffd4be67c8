-- Cutting a unit's window, over sheets.
-- Key idea: the lawful plans of the sheet with unit j's window cut to u are the lawful plans of the sheet that seat j in u. Cutting leaves the rules as
-- they are and moves one window into the stretches that hold u but not the old window. So a potential is feasible for the cut sheet exactly when it is
-- feasible for the sheet and falls by one more than the windows inside over each of those stretches.
use mathlib.Core.Path.{◌≡◌, refl, sym, ap, ◌∙◌}
use mathlib.Core.Logic.{⊎_elim, ◌↔◌}
use mathlib.Core.Bool.{Bool, true, false}
use mathlib.Core.List.{List, [], ◌∷◌, map}
use Prim.Native.Nat.{ℕ, zero, suc, ◌+◌, ◌≤◌, ◌<◌}
use native.Mathlib.Omega.{arith}
use native.Mathlib.Nat.{eq-or-lt_of_le}
use native.Mathlib.Decide.{dec_le, ℕ_discrete}
use lib.Dec.{T, leb, leb→le, le→leb}
use lib.ListN.{length, get_or, set, length-set}
use lib.Seq.{get_or-set_same, get_or-set_other}
use lib.IntN.{pos, neg_ℤ, ◌+ℤ◌}
use lib.Signed.{◌≤ℤ◌}
use Rattle.integers.specs.Parts.{up, dn, ints, sum, neg, nonneg}
use Rattle.lists.specs.Lists.{one_if, how_many, smallest, keep}
use Rattle.lists.specs.Members.{both, left, right}
use Rattle.network.specs.Network.{Potential, Feasible}
use Rattle.sheet.specs.Sheet.{Window, Sheet, no_window, top, count_in, inside_of, on_stretch, lawful, at_most, at_least, limit}
use Rattle.sheet.proofs.PlanLaws.{lawful_iff, seated_in_windows}
use Rattle.sheet.proofs.LimitLaws.{count_in_split, inside_count, limit_fwd, limit_back, limit_same, at_least_rule, at_least_windows, at_least_le}
use Rattle.plan_windows.specs.CutSheet.{added_arc, cut_to}
use Rattle.sheet.specs.Solved.{Valid}

-- ---- one entry of a list replaced
how_many_set : {A : Type 0} (t : A → Bool) (d u : A) (xs : List A) (j : ℕ) → j < length xs
    → how_many t (set xs j u) + one_if (t (get_or xs j d)) ≡ how_many t xs + one_if (t u)
how_many_set t d u [] j h = absurd (omega arith)
how_many_set t d u (x ∷ xs) zero h = omega arith
how_many_set t d u (x ∷ xs) (suc j) h = omega (arith, how_many_set t d u xs j (omega arith))

one_yes : (c : Bool) → T c → one_if c ≡ 1
one_yes true h = refl
one_yes false h = absurd h

one_no : (c : Bool) → (T c → ⊥) → one_if c ≡ 0
one_no true h = absurd (h tt)
one_no false h = refl

inside_iff : (f t : ℕ) (w : Window) → T (inside_of f t w) ↔ ((f ≤ w.first) × (w.last ≤ t))
inside_iff f t w = (
  λ h. (leb→le f w.first (left (leb f w.first) (leb w.last t) h), leb→le w.last t (right (leb f w.first) (leb w.last t) h)),
  λ h. both (leb f w.first) (leb w.last t) (le→leb f w.first h.0) (le→leb w.last t h.1),
)

-- a stretch b+1 to a that holds the window u and not the window o
abbrev pub Gains : Window → Window → ℕ → ℕ → Type 0
Gains o u a b = (b < u.first) × (u.last ≤ a) × (b < o.first → o.last ≤ a → ⊥)

module _ (s : Sheet) (j : ℕ) (hj : j < length s.units) (u : Window) where
  abbrev pub old : Window
  old = get_or s.units j no_window

  -- ---- lawful plans
  module _ (hf : old.first ≤ u.first) (hl : u.last ≤ old.last) where
    pub cut_lawful : (x : List ℕ) → T (lawful (cut_to s j u) x) ↔ (T (lawful s x) × ((u.first ≤ get_or x j 0) × (get_or x j 0 ≤ u.last)))
    cut_lawful x = (
      (λ t. let L = (lawful_iff (cut_to s j u) x).0 t in
          let n = length-set s.units j u in
          let here = rw (get_or-set_same s.units j u no_window hj) at (L.seated.inside j (omega arith)) in (
            (lawful_iff s x).1 (record {
              seated = record {
                size = L.seated.size ∙ n;
                inside = λ i hi. elim (ℕ_discrete i j) [
                  | yes e ↦ rw e (omega arith)
                  | no ne ↦ rw (get_or-set_other s.units j i u no_window ne) at (L.seated.inside i (omega arith))
                ];
              };
              obeyed = L.obeyed;
            }),
            here,
          )),
      (λ p. let L = (lawful_iff s x).0 p.0 in
          let n = length-set s.units j u in
          let w = get_or-set_same s.units j u no_window hj in
          (lawful_iff (cut_to s j u) x).1 (record {
            seated = record {
              size = L.seated.size ∙ sym n;
              inside = λ i hi. elim (ℕ_discrete i j) [
                | yes e ↦ rw (e, w) p.1
                | no ne ↦ rw (get_or-set_other s.units j i u no_window ne) (L.seated.inside i (omega arith))
              ];
            };
            obeyed = L.obeyed;
          })),
    )

    pub cut_valid : Valid s → u.first ≤ u.last → Valid (cut_to s j u)
    unfolding top
    cut_valid ok h =
        let n = length-set s.units j u in
        let o = ok.windows j hj in
        record {
          spans = ok.spans;
          windows = λ i hi. elim (ℕ_discrete i j) [
            | yes e ↦ rw (e, get_or-set_same s.units j u no_window hj) (omega arith)
            | no ne ↦ rw (get_or-set_other s.units j i u no_window ne) (ok.windows i (omega arith))
          ];
          stretches = ok.stretches;
        }

  -- ---- potentials
  gained : (a b : ℕ) → Gains old u a b → how_many (inside_of (suc b) a) (set s.units j u) ≡ suc (how_many (inside_of (suc b) a) s.units)
  gained a b g = omega (
    arith,
    how_many_set (inside_of (suc b) a) no_window u s.units j hj,
    one_yes (inside_of (suc b) a u) ((inside_iff (suc b) a u).1 (g.0, g.1)),
    one_no (inside_of (suc b) a (get_or s.units j no_window)) (λ t. let i = (inside_iff (suc b) a (get_or s.units j no_window)).0 t in g.2 i.0 i.1),
  )

  -- a lawful plan of the cut sheet falls by one more than the windows inside
  pub plan_gains : (x : List ℕ) → T (lawful (cut_to s j u) x) → (a b : ℕ) → b ≤ a → Gains old u a b
      → pos (count_in 1 b x) ≤ℤ (pos (count_in 1 a x) +ℤ added_arc s a b)
  plan_gains x t a b h g =
      let k = suc (how_many (inside_of (suc b) a) s.units) in
      omega (
        ints,
        inside_count (suc b) a (set s.units j u) x (seated_in_windows (set s.units j u) x ((lawful_iff (cut_to s j u) x).0 t).seated),
        gained a b g,
        count_in_split b a h x,
        sum (pos (count_in 1 a x)) (neg_ℤ (pos k)),
        neg (pos k),
      )

  same_most : (f t : ℕ) → at_most (cut_to s j u) f t ≡ at_most s f t
  unfolding at_most
  same_most f t = ap (λ (n : ℕ). smallest n (map (λ r. r.high) (keep (on_stretch f t) s.rules))) (length-set s.units j u)

  module _ (z : Potential) (f : Feasible (top s) (limit s) z)
      (g : (a b : ℕ) → a ≤ top s → b ≤ a → Gains old u a b → z b ≤ℤ (z a +ℤ added_arc s a b)) where
    module _ (a b : ℕ) (ha : a ≤ top s) (h : b < a) where
      fall : ℕ
      fall = up (z a +ℤ neg_ℤ (z b))

      least_fall : at_least s (suc b) a ≤ fall
      unfolding fall
      least_fall = omega (
        ints,
        f a b ha (omega arith),
        limit_back s a b h,
        sum (z a) (limit s a b),
        neg (pos (at_least s (suc b) a)),
        sum (z a) (neg_ℤ (z b)),
        neg (z b),
      )

      fall_is : up (z a) + dn (z b) ≡ fall + up (z b) + dn (z a)
      unfolding fall
      fall_is =
          let p : pos 0 ≤ℤ (z a +ℤ neg_ℤ (z b)) = omega (
            ints,
            f a b ha (omega arith),
            limit_back s a b h,
            sum (z a) (limit s a b),
            neg (pos (at_least s (suc b) a)),
            sum (z a) (neg_ℤ (z b)),
            neg (z b),
          ) in
          omega (ints, sum (z a) (neg_ℤ (z b)), neg (z b), nonneg p)

      windows_fall : how_many (inside_of (suc b) a) (set s.units j u) ≤ fall
      windows_fall =
          let here = inside_of (suc b) a u in
          let there = inside_of (suc b) a old in
          let n = how_many_set (inside_of (suc b) a) no_window u s.units j hj in
          let m = at_least_windows s (suc b) a in
          let stays : one_if here ≤ one_if there → how_many (inside_of (suc b) a) (set s.units j u) ≤ fall = (λ e. omega (arith, least_fall)) in
          let gains : Gains old u a b → how_many (inside_of (suc b) a) (set s.units j u) ≤ fall = (λ q.
          let k = suc (how_many (inside_of (suc b) a) s.units) in
          omega (ints, gained a b q, g a b ha (omega arith) q, fall_is, sum (z a) (neg_ℤ (pos k)), neg (pos k))) in
          elim (dec_le (suc b) u.first) [
            | no p ↦ stays (omega (arith, one_no here (λ t. p ((inside_iff (suc b) a u).0 t).0)))
            | yes p ↦ elim (dec_le u.last a) [
              | no q ↦ stays (omega (arith, one_no here (λ t. q ((inside_iff (suc b) a u).0 t).1)))
              | yes q ↦ elim (dec_le (suc b) old.first) [
                | no p' ↦ gains (p, q, λ x y. p' x)
                | yes p' ↦ elim (dec_le old.last a) [
                  | no q' ↦ gains (p, q, λ x y. q' y)
                  | yes q' ↦ stays (omega (arith, one_yes here ((inside_iff (suc b) a u).1 (p, q)), one_yes there ((inside_iff (suc b) a old).1 (p', q'))))
                ]
              ]
            ]
          ]

      least_cut_fall : at_least (cut_to s j u) (suc b) a ≤ fall
      least_cut_fall = at_least_le (cut_to s j u) (suc b) a fall windows_fall (λ r m e e'.
          let low = at_least_rule s r m in
          omega (arith, low, least_fall, ap (λ (i : ℕ). at_least s i r.to) e, ap (λ (i : ℕ). at_least s (suc b) i) e'))

    pub gains_feasible : Feasible (top s) (limit (cut_to s j u)) z
    gains_feasible a b ha hb =
        let c = cut_to s j u in
        elim (dec_le b a) [
          | no n ↦ omega (
            ints,
            f a b ha hb,
            limit_fwd s a b (omega arith),
            limit_fwd c a b (omega arith),
            same_most (suc a) b,
            sum (z a) (limit s a b),
            sum (z a) (limit c a b),
          )
          | yes h ↦ ⊎_elim
              (λ (e : b ≡ a). omega (ints, sum (z a) (limit c a b), ap (λ (i : ℕ). limit c a i) e ∙ limit_same c a, ap z e))
              (λ (l : b < a). omega (
                ints,
                limit_back c a b l,
                fall_is a b ha l,
                least_cut_fall a b ha l,
                sum (z a) (limit c a b),
                neg (pos (at_least c (suc b) a)),
              ))
              (eq-or-lt_of_le h)
        ]
