-- From a sheet and its finished table to a network with arcs, and from least cuts to earliest and latest slots.
-- Key idea: entries of a finished table are counts, so they are within the number of units of 0; the arcs are the windows inside, one more counted.
use mathlib.Core.Path.{◌≡◌, sym, ap, ◌∙◌, subst}
use mathlib.Core.Logic.{⊎_elim}
use mathlib.Core.List.{List, ◌++◌}
use Prim.Native.Nat.{ℕ, suc, ◌+◌, ◌-◌, ◌*◌, ◌≤◌, ◌<◌}
use native.Mathlib.Omega.{arith}
use native.Mathlib.Nat.{eq-or-lt_of_le}
use native.Mathlib.Decide.{dec_le}
use lib.ListN.{length, get_or, take, drop, length-take}
use lib.Seq.{get_or-take}
use lib.IntN.{ℤ, pos, negsuc, neg_ℤ, ◌+ℤ◌}
use lib.Signed.{◌≤ℤ◌}
use Rattle.integers.specs.Parts.{up, dn, Within, ints, sum, neg, apart}
use Rattle.lists.specs.Lists.{how_many}
use Rattle.lists.specs.Values.{list_of, Filled, list_of_same}
use Rattle.network.specs.Network.{Weights}
use Rattle.network.proofs.ClosureLaws.{there_and_back}
use Rattle.network.specs.Table.{entry}
use Rattle.network.specs.Bounds.{max_weight}
use Rattle.sheet.specs.Sizes.{max_units}
use Rattle.sheet.specs.Sheet.{Window, Sheet, no_window, top, inside_of, limit, at_least, earliest, latest, earliest_slots, latest_slots}
use Rattle.sheet.proofs.PlanLaws.{lawful_iff}
use Rattle.sheet.proofs.LimitLaws.{limit_fwd, limit_back, limit_same, at_most_n}
use Rattle.lists.specs.Counts.{how_many_most}
use Rattle.limit_windows.specs.Inside.{WindowsFit, inside_weights}
use Rattle.sheet.specs.Questions.{windows_of}
use Rattle.sheet.proofs.QuestionLaws.{windows_of_length, windows_of_at}
use Rattle.plan_arcs.specs.Arcs.{one_less, HasEntries}
use Rattle.plan_arcs.proofs.ArcLaws.{less_arc, less_other, inside_within}
use Rattle.plan_windows.specs.CutSheet.{added_arc}
use Rattle.network_cuts.specs.Sink.{Closed}
use Rattle.network_cuts.specs.Decider.{into, CutNetwork}
use Rattle.plan_marks.specs.declared.Side.TheVariants.{Front}
use Rattle.plan_marks.specs.Marks.{Units}
use Rattle.plan_windows.specs.Windows.{Admitted, LeastCuts, AdmittedLate, GreatestCuts}
use Rattle.plan_windows.specs.Narrowing.{Narrowable, earliest_room, latest_room}
use Rattle.plan_windows.proofs.ExtremeLaws.{plan_admits, earliest_is, plan_admits_late, latest_is}

-- one less than the windows inside counts one window more
inside_less : (ws : List Window) (a b : ℕ) → inside_weights ws a b +ℤ negsuc 0 ≡ neg_ℤ (pos (suc (how_many (inside_of (suc b) a) ws)))
unfolding inside_weights
inside_less ws a b =
    let k = how_many (inside_of (suc b) a) ws in
    omega (ints, sum (neg_ℤ (pos k)) (negsuc 0), neg (pos k), neg (pos (suc k)))

module _ {s : Sheet} {first last plan : List ℕ} {table : List ℤ} {w : ℕ} (h : Narrowable s first last plan table w) where
  abbrev n : ℕ
  n = length first

  count : length s.units ≡ n
  count = ap length h.units ∙ windows_of_length first last h.paired

  -- a list with these values in front of an old list
  room_is : (g v : ℕ → ℕ) (xs ys : List ℕ) → Filled v n xs ys → ((j : ℕ) → j < n → v j ≡ g j)
      → ys ≡ list_of (length s.units) g ++ drop (length s.units) xs
  room_is g v xs ys f e =
      f ∙ ap (λ (front : List ℕ). front ++ drop n xs) (list_of_same n v g e) ∙ ap (λ (k : ℕ). list_of k g ++ drop k xs) (sym count)

  window : (j : ℕ) → j < n → get_or s.units j no_window ≡ record { first = get_or first j 0; last = get_or last j 0 }
  window j l = ap (λ (ws : List Window). get_or ws j no_window) h.units ∙ windows_of_at first last h.paired j l

  windows : (j : ℕ) → j < n → (1 ≤ get_or first j 0) × (get_or first j 0 ≤ get_or last j 0) × (get_or last j 0 < w)
  windows j l =
      let v = h.solved.valid.windows j (omega (arith, count)) in
      let u = subst (λ (x : Window). (1 ≤ x.first) × (x.first ≤ x.last) × (x.last ≤ top s)) (window j l) v in
      omega (arith, u, h.boundaries)

  few : length (windows_of first last) ≤ max_units
  few = omega (arith, windows_of_length first last h.paired, h.few)

  pub windows_fit_lem : WindowsFit w first last
  windows_fit_lem = record { paired = h.paired; few = h.few; each = windows }

  size : length (take n plan) ≡ n
  size = ((lawful_iff s (take n plan)).0 h.lawfully).seated.size ∙ count

  slot_at : (j : ℕ) → j < n → get_or (take n plan) j 0 ≡ get_or plan j 0
  slot_at j l = get_or-take n plan j 0 l

  seated : (j : ℕ) → j < n → (get_or first j 0 ≤ get_or plan j 0) × (get_or plan j 0 ≤ get_or last j 0)
  seated j l =
      let i = ((lawful_iff s (take n plan)).0 h.lawfully).seated.inside j (omega (arith, count)) in
      let u = subst (λ (x : Window). (x.first ≤ get_or (take n plan) j 0) × (get_or (take n plan) j 0 ≤ x.last)) (window j l) i in
      omega (arith, u, slot_at j l)

  pub units_of_lem : Units Front w first last plan
  units_of_lem = record {
    paired = h.paired;
    seats = omega (arith, size, length-take n plan);
    inside = λ j l. omega (arith, windows j l, seated j l);
  }

  -- ---- the finished table
  D : Weights
  D = entry w table

  most : (a b : ℕ) → a ≤ top s → b ≤ top s → D a b ≤ℤ pos n
  unfolding D
  most a b ha hb =
      let f = h.solved.finished.below a b ha hb in
      elim (dec_le b a) [
        | no g ↦ omega (ints, f, limit_fwd s a b (omega arith), at_most_n s (suc a) b, count)
        | yes g ↦ ⊎_elim (λ (e : b ≡ a). omega (ints, f, ap (λ (i : ℕ). limit s a i) e ∙ limit_same s a))
            (λ (l : b < a). omega (ints, f, limit_back s a b l, neg (pos (at_least s (suc b) a)))) (eq-or-lt_of_le g)
      ]

  small : (a b : ℕ) → a ≤ top s → b ≤ top s → Within max_weight (D a b)
  unfolding D
  small a b ha hb =
      let p = most a b ha hb in
      let q = most b a hb ha in
      let r = there_and_back (top s) (limit s) (entry w table) h.solved.finished a b ha hb in
      ⊎_elim (λ (e : up (entry w table a b) ≡ 0). omega (ints, p, q, r, neg (entry w table b a), h.few))
      (λ (e : dn (entry w table a b) ≡ 0). omega (ints, p, h.few)) (apart (entry w table a b))

  tops : top s ≡ w - 1
  tops = omega (arith, h.boundaries)

  -- ---- the arcs
  module _ (m : List ℤ) (long : w * w ≤ length m) (e : HasEntries w (one_less (inside_weights (windows_of first last))) m) where
    arcs_of : (a b : ℕ) → b < a → a ≤ top s → into w m a b ≡ added_arc s a b
    arcs_of a b hb ha =
        let ws = windows_of first last in
        e b a (omega (arith, h.boundaries)) (omega (arith, h.boundaries)) ∙ less_arc (inside_weights ws) b a hb ∙ inside_less ws a b
        ∙ ap (λ (us : List Window). neg_ℤ (pos (suc (how_many (inside_of (suc b) a) us)))) (sym h.units)

    arcs_small : (a b : ℕ) → a < w → b < w → Within (max_weight + 1) (entry w m a b)
    arcs_small a b ha hb =
        let ws = windows_of first last in
        subst (Within (max_weight + 1)) (sym (e a b ha hb)) (elim (dec_le b a) [
          | yes l ↦ rw (less_other (inside_weights ws) a b l) (omega (arith, inside_within ws a b few))
          | no g ↦
              let k = suc (how_many (inside_of (suc a) b) ws) in
              rw (less_arc (inside_weights ws) a b (omega arith), inside_less ws b a) (omega (arith, neg (pos k), how_many_most (inside_of (suc a) b) ws, few))
        ])

    pub network_of : CutNetwork w table m
    unfolding D
    network_of = record {
      some = omega (arith, h.boundaries);
      most = h.most;
      size = h.size;
      size_arcs = long;
      closed = subst (λ (t : ℕ). Closed t (entry w table)) tops (record {
        closed = h.solved.finished.closed;
        diagonal = h.solved.finished.diagonal;
        small = small;
      });
      small = arcs_small;
    }

    -- ---- earliest slots
    pub admitted_of : Admitted Front w table m first last plan
    admitted_of j l = rw (window j l, tops) at (plan_admits s (entry w table) (into w m) h.solved arcs_of j (omega (arith, count)) (take n plan)
        h.lawfully (get_or plan j 0) (omega (arith, slot_at j l)) (rw (window j l) (seated j l).1))

    earliest_at : (out out' : List ℕ) (c : LeastCuts Front w table m first last out out') (j : ℕ) → j < n → c.value j ≡ earliest s j
    earliest_at out out' c j l =
        sym (earliest_is s (entry w table) (into w m) h.solved arcs_of j (omega (arith, count)) (take n plan) h.lawfully (c.value j)
        (rw (window j l, tops) (c.each j l)))

    -- ---- latest slots
    pub admitted_late_of : AdmittedLate w table m first last plan
    admitted_late_of j l = rw (window j l, sym h.boundaries, tops) at (plan_admits_late s (entry w table) (into w m) h.solved arcs_of j
        (omega (arith, count)) (take n plan) h.lawfully (get_or plan j 0) (rw (window j l) (seated j l).0) (omega (arith, slot_at j l)))

    latest_at : (out out' : List ℕ) (c : GreatestCuts w table m first last out out') (j : ℕ) → j < n → c.value j ≡ latest s j
    latest_at out out' c j l =
        let e = latest_is s (entry w table) (into w m) h.solved arcs_of j (omega (arith, count)) (take n plan) h.lawfully (w - c.value j)
        (rw (window j l, sym h.boundaries, tops) (c.each j l)) in
        omega (arith, e, (c.each j l).inside, windows j l, h.boundaries)

    -- ---- the rooms
    pub earliest_room_lem : (out out' : List ℕ) → LeastCuts Front w table m first last out out' → out' ≡ earliest_room s out
    unfolding earliest_slots
    earliest_room_lem out out' c = room_is (earliest s) c.value out out' c.filled (earliest_at out out' c)

    pub latest_room_lem : (out out' : List ℕ) → GreatestCuts w table m first last out out' → out' ≡ latest_room s out
    unfolding latest_slots
    latest_room_lem out out' c = room_is (latest s) c.value out out' c.filled (latest_at out out' c)
