-- What potentials and walks say of each other.
-- Key idea: along a walk a feasible potential rises by at most the weights of the steps, so around a closed walk these add up to at least 0. A negative
-- cycle therefore leaves no feasible potential. And the smaller of two feasible potentials, one of them shifted, is feasible again. A list without a boundary
-- twice has at most as many entries as there are boundaries.
use Rattle.std.specs.Prelude.{◌≡◌, refl, Bool, true, false, not, ◌&&◌, List, [], ◌∷◌, ◌++◌, ℕ, suc, ◌≤◌, T, leb, eqb, length, ℤ, pos, ◌+ℤ◌, ◌≤ℤ◌, ◌<ℤ◌}
use Rattle.std.proofs.Common.{sym, ap, ap₂, ◌∙◌, ⊎_elim, append-nil, arith, leb→le, le→leb, eqb→eq}
use mathlib.Core.List.Memᴰ
use Rattle.std.proofs.Math.Dec.{eqb_refl, not_T}
use Rattle.std.proofs.Math.IntN.{+ℤ_comm}
use Rattle.std.specs.Int.Signed.{lt_z}
use Rattle.integers.specs.Parts.{ints, sum, min_ℤ, min_cases, min≤l, min≤r}
use Rattle.lists.specs.Lists.{every, member}
use Rattle.lists.specs.Members.{In, both, left, right, in_every, every_in, member_in, in_member}
use Rattle.lists.specs.Counts.{count, count_lt, count_most}
use Rattle.network.specs.Cycles.{Upto, Distinct, Cycle}
use Rattle.network.specs.Network.{Weights, Potential, Feasible, via, around, distinct, lowest_first, is_negative_cycle}

-- ---- the lattice of feasible potentials
pub lesser_feasible : (top : ℕ) (d : Weights) (y z : Potential) (k : ℤ) → Feasible top d y → Feasible top d z
    → Feasible top d (λ v. min_ℤ (y v) (k +ℤ z v))
lesser_feasible top d y z k f g a b ha hb =
    let l = min≤l (y b) (k +ℤ z b) in
    let r = min≤r (y b) (k +ℤ z b) in
    min_cases (y a) (k +ℤ z a) (λ x. min_ℤ (y b) (k +ℤ z b) ≤ℤ (x +ℤ d a b))
    (λ _. omega (ints, f a b ha hb, sum (y a) (d a b)))
    (λ _. omega (ints, g a b ha hb, sum (z a) (d a b), sum k (z a), sum k (z b), sum (k +ℤ z a) (d a b)))

-- ---- boundaries of a list
pub upto_of_every : (top : ℕ) (c : List ℕ) → T (every (λ b. leb b top) c) → Upto top c
upto_of_every top [] h = tt
upto_of_every top (b ∷ bs) h =
    (leb→le b top (left (leb b top) (every (λ b. leb b top) bs) h), upto_of_every top bs (right (leb b top) (every (λ b. leb b top) bs) h))

pub every_of_upto : (top : ℕ) (c : List ℕ) → Upto top c → T (every (λ b. leb b top) c)
every_of_upto top [] h = tt
every_of_upto top (b ∷ bs) h = both (leb b top) (every (λ b. leb b top) bs) (le→leb b top h.0) (every_of_upto top bs h.1)

pub upto_append : (top : ℕ) (us vs : List ℕ) → Upto top us → Upto top vs → Upto top (us ++ vs)
upto_append top [] vs h k = k
upto_append top (u ∷ us) vs h k = (h.0, upto_append top us vs h.1 k)

pub upto_left : (top : ℕ) (us vs : List ℕ) → Upto top (us ++ vs) → Upto top us
upto_left top [] vs h = tt
upto_left top (u ∷ us) vs h = (h.0, upto_left top us vs h.1)

pub upto_right : (top : ℕ) (us vs : List ℕ) → Upto top (us ++ vs) → Upto top vs
upto_right top [] vs h = h
upto_right top (u ∷ us) vs h = upto_right top us vs h.1

-- ---- no boundary twice
pub distinct_left : (us vs : List ℕ) → Distinct (us ++ vs) → Distinct us
distinct_left [] vs g = tt
distinct_left (u ∷ us) vs g = ((λ m. g.0 (Memᴰ.append_left vs m)), distinct_left us vs g.1)

pub distinct_right : (us vs : List ℕ) → Distinct (us ++ vs) → Distinct vs
distinct_right [] vs g = g
distinct_right (u ∷ us) vs g = distinct_right us vs g.1

pub distinct_apart : (us vs : List ℕ) → Distinct (us ++ vs) → (x : ℕ) → In x us → In x vs → ⊥
distinct_apart [] vs g x p q = Memᴰ.not-nil p
distinct_apart (u ∷ us) vs g x p q =
    ⊎_elim (λ e. g.0 (Memᴰ.append_right us (Memᴰ.cast (sym e) q))) (λ r. distinct_apart us vs g.1 x r q) (Memᴰ.cases_cons p)

pub distinct_join : (us vs : List ℕ) → Distinct us → Distinct vs → ((x : ℕ) → In x us → In x vs → ⊥) → Distinct (us ++ vs)
distinct_join [] vs g h f = h
distinct_join (u ∷ us) vs g h f =
    ((λ m. ⊎_elim g.0 (λ q. f u (Memᴰ.head refl) q) (Memᴰ.append_cases us m)), distinct_join us vs g.1 h (λ x p. f x (Memᴰ.tail p)))

-- the test asks just this
pub distinct_test : (c : List ℕ) → Distinct c → T (distinct c)
distinct_test [] g = tt
distinct_test (a ∷ bs) g = both (every (λ b. not (eqb a b)) bs) (distinct bs)
    (in_every (λ (b : ℕ). not (eqb a b)) bs (λ b m. not_T (eqb a b) (λ t. g.0 (Memᴰ.cast (eqb→eq a b t) m)))) (distinct_test bs g.1)

pub distinct_read : (c : List ℕ) → T (distinct c) → Distinct c
distinct_read [] h = tt
distinct_read (a ∷ bs) h =
    let apart = left (every (λ b. not (eqb a b)) bs) (distinct bs) h in
    (λ m. clash (eqb a a) (eqb_refl a) (every_in (λ b. not (eqb a b)) a bs m apart), distinct_read bs (right (every (λ b. not (eqb a b)) bs) (distinct bs) h))
  where
    clash : (b : Bool) → T b → T (not b) → ⊥
    clash true p q = q
    clash false p q = p

-- each is at most top, so there are at most top + 1 of them: each is counted at a place of its own
length_count : (top : ℕ) (c : List ℕ) → Upto top c → Distinct c → length c ≤ count (suc top) (λ v. member v c)
length_count top [] u g = omega arith
length_count top (a ∷ bs) u g = omega (
  arith,
  length_count top bs u.1 g.1,
  count_lt (suc top) (λ v. member v bs) (λ v. member v (a ∷ bs)) a (omega arith) (in_member a (a ∷ bs) (Memᴰ.head refl))
      (λ t. g.0 (member_in a bs t)) (λ v h t. in_member v (a ∷ bs) (Memᴰ.tail (member_in v bs t))),
)

pub distinct_length : (top : ℕ) (c : List ℕ) → Upto top c → Distinct c → length c ≤ suc top
distinct_length top c u g = omega (arith, length_count top c u g, count_most (suc top) (λ v. member v c))

-- ---- a negative cycle, wherever it starts
-- the test asks this, and that the lowest boundary comes first
pub cycle_read : (top : ℕ) (d : Weights) (c : List ℕ) → T (is_negative_cycle top d c) → Cycle top d c
unfolding is_negative_cycle
cycle_read top d c h =
    let e = every (λ b. leb b top) c in
    let n = lt_z (around d c) (pos 0) in
    let h₁ = right (leb 2 (length c)) (e && (distinct c && (lowest_first c && n))) h in
    let h₂ = right e (distinct c && (lowest_first c && n)) h₁ in
    record {
      long = leb→le 2 (length c) (left (leb 2 (length c)) (e && (distinct c && (lowest_first c && n))) h);
      upto = upto_of_every top c (left e (distinct c && (lowest_first c && n)) h₁);
      apart = distinct_read c (left (distinct c) (lowest_first c && n) h₂);
      negative = record { lt = right (lowest_first c) n (right (distinct c) (lowest_first c && n) h₂) };
    }

-- ---- two weights that agree up to the top boundary
module _ (top : ℕ) (d e : Weights) (same : (a b : ℕ) → a ≤ top → b ≤ top → d a b ≡ e a b) where
  pub via_same : (a : ℕ) (bs : List ℕ) (z : ℕ) → a ≤ top → Upto top bs → z ≤ top → via d a bs z ≡ via e a bs z
  via_same a [] z ha h hz = same a z ha hz
  via_same a (b ∷ bs) z ha h hz = ap₂ ◌+ℤ◌ (same a b ha h.0) (via_same b bs z h.0 h.1 hz)

  pub around_same : (c : List ℕ) → Upto top c → around d c ≡ around e c
  around_same [] h = refl
  around_same (a ∷ bs) h = via_same a bs a h.0 h.1 h.0

-- ---- walks
module _ (d : Weights) where
  via_append : (a : ℕ) (us : List ℕ) (m : ℕ) (vs : List ℕ) (e : ℕ) → via d a (us ++ m ∷ vs) e ≡ via d a us m +ℤ via d m vs e
  via_append a [] m vs e = refl
  via_append a (u ∷ us) m vs e = omega (
    ints,
    via_append u us m vs e,
    sum (d a u) (via d u (us ++ m ∷ vs) e),
    sum (via d u us m) (via d m vs e),
    sum (d a u) (via d u us m),
    sum (d a u +ℤ via d u us m) (via d m vs e),
  )

  -- a cycle may be given from any of its boundaries on
  pub around_turned : (us : List ℕ) (m : ℕ) (vs : List ℕ) → around d (us ++ m ∷ vs) ≡ around d (m ∷ (vs ++ us))
  around_turned [] m vs = ap (λ (l : List ℕ). via d m l m) (sym (append-nil vs))
  around_turned (a ∷ us) m vs = via_append a us m vs a ∙ +ℤ_comm (via d a us m) (via d m vs a) ∙ sym (via_append m vs a us m)

  module _ (top : ℕ) (z : Potential) (f : Feasible top d z) where
    walk_bounds_rise : (a : ℕ) (bs : List ℕ) (e : ℕ) → a ≤ top → Upto top bs → e ≤ top → z e ≤ℤ (z a +ℤ via d a bs e)
    walk_bounds_rise a [] e ha h he = f a e ha he
    walk_bounds_rise a (b ∷ bs) e ha h he = omega (
      ints,
      f a b ha h.0,
      walk_bounds_rise b bs e h.0 h.1 he,
      sum (z a) (d a b),
      sum (z b) (via d b bs e),
      sum (z a) (d a b +ℤ via d b bs e),
      sum (d a b) (via d b bs e),
    )

    closed_walk_nonneg : (c : List ℕ) → Upto top c → pos 0 ≤ℤ around d c
    closed_walk_nonneg [] h = omega ints
    closed_walk_nonneg (a ∷ bs) h = omega (ints, walk_bounds_rise a bs a h.0 h.1 h.0, sum (z a) (via d a bs a))

    -- a negative cycle leaves no feasible potential
    pub cycle_infeasible : (c : List ℕ) → T (is_negative_cycle top d c) → ⊥
    cycle_infeasible c h = let r = cycle_read top d c h in omega (ints, closed_walk_nonneg c r.upto, r.negative)
