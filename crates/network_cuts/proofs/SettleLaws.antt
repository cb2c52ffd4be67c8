-- Settling one boundary, as the code does it on parts of lists.
-- Key idea: the least sum of z and the arcs into b is what the arcs force z down to at b; carrying it through row b is the step of SinkLaws.
use mathlib.Core.Path.{◌≡◌, refl, sym, ap, ◌∙◌, subst}
use mathlib.Core.Logic.{⊎_elim}
use mathlib.Core.Bool.{true, false}
use mathlib.Core.List.{List}
use Prim.Native.Nat.{ℕ, ◌+◌, ◌-◌, ◌*◌, ◌≤◌, ◌<◌}
use native.Mathlib.Omega.{arith}
use lib.ListN.{length, take, drop}
use lib.IntN.{ℤ, pos, ◌+ℤ◌}
use lib.Signed.{◌≤ℤ◌, lt_z}
use Rattle.integers.specs.Parts.{up, dn, Within, ints, sum, apart, min_ℤ}
use Rattle.lists.specs.Slices.{part_length as length-of-part, part_at as place-of-part}
use Rattle.lists.specs.Values.{length_list_of, list_of_at}
use Rattle.network.specs.Table.{entry}
use Rattle.network.proofs.TableLaws.{row_inside}
use Rattle.network.specs.RowStep.{relaxed_at, relaxed, SumsFit}
use Rattle.network.specs.Bounds.{max_weight}
use Rattle.network_cuts.specs.Decider.{value_at, into, Modest, LeastSum, CutNetwork, Cuts, Sinking, AdmitsAt, Settling}
use Rattle.network_cuts.specs.declared.Settled.TheVariants.{Still, Lower, Lost}
use Rattle.network_cuts.proofs.SumLaws.{sum_fits}
use Rattle.network_cuts.proofs.SinkLaws.{sunk_small, carried_lost, carried_sunk, carried_falls}

-- the part of a list from s to e
abbrev pub part : ℕ → ℕ → List ℤ → List ℤ
part s e xs = take (e - s) (drop s xs)

part_length : (s e : ℕ) (xs : List ℤ) → s ≤ e → e ≤ length xs → length (part s e xs) ≡ e - s
part_length s e xs h k = length-of-part s (e - s) xs (omega arith)

part_at : (s e : ℕ) (xs : List ℤ) (i : ℕ) → i < e - s → value_at (part s e xs) i ≡ value_at xs (s + i)
part_at s e xs i h = place-of-part s (e - s) xs (pos 0) i h

-- a part is modest where its places are
part_modest : (s e : ℕ) (xs : List ℤ) → s ≤ e → e ≤ length xs → ((i : ℕ) → i < e - s → Within 1000 (value_at xs (s + i))) → Modest (part s e xs)
part_modest s e xs h k f i l =
    let n = part_length s e xs h k in
    subst (Within 1000) (sym (part_at s e xs i (omega arith))) (f i (omega arith))

module _ {w : ℕ} {d m : List ℤ} {f v l : ℕ} {z : List ℤ} (q : Sinking w d m f v l z) where
  net : CutNetwork w d m
  net = q.net

  cuts : Cuts w f v l
  cuts = q.cuts

  small : (c : ℕ) → c ≤ w - 1 → Within max_weight (value_at z c)
  small = sunk_small net.closed (omega (arith, cuts)) (omega (arith, cuts)) q.sunk

  pub still_admits : (z' : List ℤ) → Settling w d m f v l 0 f z z' Still → AdmitsAt w d m f v l
  still_admits z' n = record { potential = value_at z; feasible = q.sunk.feasible; keeps = λ a b hb hv hl. n.1 a b (omega arith) hb hv hl }

  module _ (b : ℕ) (hb : b < f) where
    abbrev zs : List ℤ
    zs = part v l z

    abbrev arcs : List ℤ
    arcs = part (b * w + v) (b * w + l) m

    abbrev row : List ℤ
    row = part (b * w) (b * w + w) d

    inside : b * w + w ≤ w * w
    inside = row_inside b w (omega (arith, cuts))

    zs_length : length zs ≡ l - v
    zs_length = part_length v l z (omega (arith, cuts)) (omega (arith, cuts, q.long))

    pub least_asks : (0 < length zs) × (length zs ≤ length arcs) × Modest zs × Modest arcs
    least_asks =
        let n = part_length (b * w + v) (b * w + l) m (omega (arith, cuts)) (omega (arith, cuts, inside, net.size_arcs)) in (
          omega (arith, cuts, zs_length),
          omega (arith, zs_length),
          part_modest v l z (omega (arith, cuts)) (omega (arith, cuts, q.long)) (λ i h. let r = small (v + i) (omega (arith, cuts)) in omega arith),
          part_modest (b * w + v) (b * w + l) m (omega (arith, cuts)) (omega (arith, cuts, inside, net.size_arcs)) (λ i h.
              let r = net.small b (v + i) (omega (arith, cuts)) (omega (arith, cuts)) in
              let e : b * w + (v + i) ≡ b * w + v + i = omega arith in
              subst (λ (n : ℕ). Within 1000 (value_at m n)) e (omega arith)),
        )

    module _ {k : ℤ} (least : LeastSum (length zs) zs arcs k) where
      -- the sum at place i is that of the arc from v + i
      sum_at : (i : ℕ) → i < l - v → value_at zs i +ℤ value_at arcs i ≡ value_at z (v + i) +ℤ into w m (v + i) b
      sum_at i h =
          let e : b * w + v + i ≡ b * w + (v + i) = omega arith in
          rw (part_at v l z i h, part_at (b * w + v) (b * w + l) m i (omega arith)) (ap (λ (n : ℕ). value_at z (v + i) +ℤ value_at m n) e)

      from : ℕ
      from = v + least.place

      from_inside : (v ≤ from) × (from < l)
      unfolding from
      from_inside = omega (arith, least.inside, zs_length, cuts)

      forced : k ≡ value_at z from +ℤ into w m from b
      unfolding from
      forced = least.attained ∙ sum_at least.place (omega (arith, least.inside, zs_length))

      forced_modest : Within 1000 k
      forced_modest =
          let i = from_inside in
          let r = small from (omega (arith, cuts)) in
          let t = net.small b from (omega (arith, cuts)) (omega (arith, cuts)) in
          ⊎_elim (λ (e : up k ≡ 0). omega (ints, forced, sum (value_at z from) (into w m from b)))
          (λ (e : dn k ≡ 0). omega (ints, forced, sum (value_at z from) (into w m from b))) (apart k)

      row_length : length row ≡ w
      row_length = part_length (b * w) (b * w + w) d (omega arith) (omega (arith, inside, net.size)) ∙ (omega arith)

      pub relax_asks : (length z ≤ length row) × SumsFit k row
      relax_asks = (
        omega (arith, row_length, q.long),
        λ i h.
            let p = net.closed.small b i (omega (arith, cuts)) (omega (arith, row_length)) in
            let e = part_at (b * w) (b * w + w) d i (omega (arith, row_length)) in
            sum_fits k (value_at row i) forced_modest (subst (Within 1000) (sym e) (omega arith)),
      )

      pub settled_still : lt_z k (value_at z b) ≡ false → Settling w d m f v l b (b + 1) z z Still
      settled_still h = (
        refl,
        λ a b' hl hr ha hb'.
            let e : b ≡ b' = omega arith in
            let n : v + (a - v) ≡ a = omega arith in
            let p = least.bound (a - v) (omega (arith, zs_length)) in
            let r = sum_at (a - v) (omega arith) ∙ ap (λ (i : ℕ). value_at z i +ℤ into w m i b) n in
            subst (λ (i : ℕ). value_at z i ≤ℤ (value_at z a +ℤ into w m a i)) e (omega ints),
      )

      module _ {z' : List ℤ} (r : z' ≡ relaxed k row z) where
        carried_at : (c : ℕ) → c ≤ w - 1 → value_at z' c ≡ min_ℤ (value_at z c) (k +ℤ entry w d b c)
        carried_at c hc =
            ap (λ (x : List ℤ). value_at x c) r ∙ list_of_at (relaxed_at k row z) (length z) c (pos 0) (omega (arith, net.some, q.long))
            ∙ ap (λ (x : ℤ). min_ℤ (value_at z c) (k +ℤ x)) (part_at (b * w) (b * w + w) d c (omega (arith, net.some)))

        pub settled_lost : lt_z (value_at z' (f - 1)) (pos 0) ≡ true → Settling w d m f v l b (b + 1) z z' Lost
        settled_lost h = carried_lost net.closed (omega (arith, cuts)) (omega (arith, cuts)) q.sunk from b k (value_at z')
            from_inside (omega (arith, cuts)) hb forced carried_at (omega ints)

        pub settled_lower : lt_z k (value_at z b) ≡ true → lt_z (value_at z' (f - 1)) (pos 0) ≡ false → Settling w d m f v l b (b + 1) z z' Lower
        settled_lower h g = (
          record {
            net = net;
            cuts = cuts;
            long = ap length r ∙ length_list_of (relaxed_at k row z) (length z) ∙ q.long;
            sunk = carried_sunk net.closed (omega (arith, cuts)) (omega (arith, cuts)) q.sunk from b k (value_at z')
                from_inside (omega (arith, cuts)) hb forced carried_at (omega ints);
          },
          carried_falls net.closed (omega (arith, cuts)) (omega (arith, cuts)) q.sunk from b k (value_at z')
              from_inside (omega (arith, cuts)) hb forced carried_at (omega ints) (omega ints),
        )
