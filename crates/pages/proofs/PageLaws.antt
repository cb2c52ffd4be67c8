-- Laws of the pages: which of their parts depend on what, the counts of a plan's slots, and the lines of a ring step by step.
-- Key idea: an index that walks a ring has behind it what is written, or added up, and before it the steps from its place on and back to the first boundary.
use Rattle.std.specs.Prelude.{◌≡◌, map, ℕ, zero, suc, ◌+◌, ◌-◌, ◌*◌, ◌%◌, ◌≤◌, ◌<◌, drop, get_or, ltb, ℤ, pos, neg_ℤ, ◌+ℤ◌}
use Rattle.std.proofs.Math.Path.{refl, ap, ap₂}
use Rattle.std.proofs.Common.{sym, ◌∙◌, ⊎_elim, arith, add-one, length-append, drop_of_length-le, lt-ltb, le-ltb, le-leb}
use Rattle.std.proofs.Math.Bool.{cond}
use mathlib.Core.List.{List, [], ◌∷◌}
use Rattle.std.proofs.Math.ListN.{length}
use Rattle.std.proofs.Math.Seq.{drop-cons}
use Rattle.std.proofs.Math.IntN.{+ℤ_idr}
use Rattle.std.proofs.Math.Nat.{mod-eq_of_lt, mod_self}
use Rattle.std.proofs.lemmas.Bool.{lt-leb}
use Rattle.integers.specs.Parts.{up, dn, sum, neg, apart}
use Rattle.lists.specs.Lists.{joined, run}
use Rattle.lists.specs.Values.{values_same, length_list_of, list_of_at}
use Rattle.network.specs.Network.{Weights, via, around}
use Rattle.network.proofs.NetworkLaws.{via_same}
use Rattle.network.specs.Table.{max_boundaries}
use Rattle.sheet.specs.Sizes.{max_slots}
use Rattle.limit_places.specs.LentTableLaws.{place_inside}
use Rattle.print_bytes.specs.Writing.{plan_head, unit_line, carried_line, fits_head, none_head, at_most_line, at_least_line, shortfall_line}
use Rattle.pages.specs.Page.{units_at, slot_counts, placed_line, unit_lines, slot_line_at, slot_lines, plan_page, range_line_at, range_lines, fits_page}
use Rattle.pages.specs.Page.{step_line, step_lines, ring_lines, shortfall_of, none_page, RingFits}
use Rattle.network.specs.Cycles.{Upto}

-- a page is three parts
pub three_length : (a b c : List ℕ) → length (joined (a ∷ b ∷ c ∷ [])) ≡ length a + (length b + length c)
three_length a b c = simp length-append (omega arith)

-- ---- lines that agree slot by slot
pub record SameSlots (span : ℕ) (f g : ℕ → ℕ) : Type 0 where
  pub each : (t : ℕ) → 1 ≤ t → t ≤ span → f t ≡ g t

pub slot_lines_same : (span : ℕ) {count count' least least' greatest greatest' : ℕ → ℕ} → SameSlots span count count' → SameSlots span least least'
    → SameSlots span greatest greatest' → slot_lines span count least greatest ≡ slot_lines span count' least' greatest'
unfolding slot_lines slot_line_at
slot_lines_same span {count} {count'} {least} {least'} {greatest} {greatest'} c l g =
    ap joined
    (values_same (slot_line_at count least greatest) (slot_line_at count' least' greatest') 1 (suc span - 1)
    (λ t h k. let m : t ≤ span = omega arith in rw (c.each t h m, l.each t h m, g.each t h m)))

-- a plan's page depends on the least and greatest counts of its slots alone
pub plan_page_same : (span : ℕ) (loaders slots earliest latest : List ℕ) {least least' greatest greatest' : ℕ → ℕ} → SameSlots span least least'
    → SameSlots span greatest greatest'
    → plan_page span loaders slots earliest latest least greatest ≡ plan_page span loaders slots earliest latest least' greatest'
unfolding plan_page
plan_page_same span loaders slots earliest latest l g =
    ap (λ ls. joined (plan_head (length slots) ∷ unit_lines span loaders slots earliest latest ∷ ls ∷ []))
    (slot_lines_same span (record { each = λ t h k. refl }) l g)

-- and so does the page of a sheet that fits
pub fits_page_same : (span units : ℕ) {least least' greatest greatest' : ℕ → ℕ} → SameSlots span least least' → SameSlots span greatest greatest'
    → fits_page span units least greatest ≡ fits_page span units least' greatest'
unfolding fits_page range_lines range_line_at
fits_page_same span units {least} {least'} {greatest} {greatest'} l g =
    ap (λ ls. joined (fits_head units ∷ joined ls ∷ []))
    (values_same (range_line_at least greatest) (range_line_at least' greatest') 1 (suc span - 1)
    (λ t h k. let m : t ≤ span = omega arith in rw (l.each t h m, g.each t h m)))

-- ---- a unit's line, by where its slot lies
module _ (span k x e l : ℕ) where
  pub placed_inside : x ≤ span → placed_line span k x e l ≡ unit_line k x e l
  unfolding placed_line
  placed_inside h = rw (le-leb x span h)

  pub placed_past : span < x → placed_line span k x e l ≡ carried_line k e l
  unfolding placed_line
  placed_past h = rw (lt-leb x span h)

-- ---- each slot's count, read from the list of counts
pub counts_at : (plan : List ℕ) (t : ℕ) → t < max_boundaries → get_or (slot_counts plan) t 0 ≡ units_at plan t
unfolding slot_counts
counts_at plan t h = list_of_at (units_at plan) max_boundaries t 0 h

pub counts_length : (plan : List ℕ) → length (slot_counts plan) ≡ max_boundaries
unfolding slot_counts
counts_length plan = length_list_of (units_at plan) max_boundaries

-- the page of a plan, with each slot's count read from the list of counts
pub page_counted : (span : ℕ) (loaders plan earliest latest counts : List ℕ) (least greatest : ℕ → ℕ) → span ≤ max_slots → counts ≡ slot_counts plan
    → plan_page span loaders plan earliest latest least greatest
    ≡ joined (plan_head (length plan) ∷ unit_lines span loaders plan earliest latest ∷ slot_lines span (λ t. get_or counts t 0) least greatest ∷ [])
unfolding plan_page
page_counted span loaders plan earliest latest counts least greatest h e =
    ap (λ ls. joined (plan_head (length plan) ∷ unit_lines span loaders plan earliest latest ∷ ls ∷ []))
    (slot_lines_same span counted (record { each = λ t k m. refl }) (record { each = λ t k m. refl }))
  where
    counted : SameSlots span (units_at plan) (λ t. get_or counts t 0)
    counted = record { each = λ t k m. let small : t < max_boundaries = omega arith in sym (ap (λ c. get_or c t 0) e ∙ counts_at plan t small) }

-- ---- the steps of a ring

-- the entry of a step lies in the table
pub step_inside : {w : ℕ} {limits : List ℤ} {ring : List ℕ} → RingFits w limits ring → (i j : ℕ) → i < length ring → j < length ring
    → get_or ring i 0 * w + get_or ring j 0 < length limits
step_inside {w} {limits} {ring} f i j hi hj =
    omega (arith, place_inside w (get_or ring i 0) (get_or ring j 0) (f.inside i hi) (f.inside j hj), f.entries)

module _ (d : Weights) (a b : ℕ) where
  pub step_forward : a < b → step_line d a b ≡ at_most_line (up (d a b)) (suc a) b
  unfolding step_line
  step_forward h = rw (lt-ltb a b h)

  pub step_backward : b ≤ a → step_line d a b ≡ at_least_line (dn (d a b)) (suc b) a
  unfolding step_line
  step_backward h = rw (le-ltb a b h) (ap (λ k. at_least_line k (suc b) a) (neg (d a b)).0)

-- the place behind place i of a ring of n: behind the last one the first
abbrev pub place_after : ℕ → ℕ → ℕ
place_after n i = (i + 1) % n

after_inside : (n i : ℕ) → i + 1 < n → place_after n i ≡ suc i
after_inside n i h = mod-eq_of_lt h ∙ add-one i

after_last : (n i : ℕ) → i + 1 ≡ n → place_after n i ≡ 0
after_last n i e = ap (λ k. k % n) e ∙ mod_self n

module _ (d : Weights) (ring : List ℕ) where
  -- the line of the step from place i on
  abbrev pub step_at : ℕ → List ℕ
  step_at i = step_line d (get_or ring i 0) (get_or ring (place_after (length ring) i) 0)

  -- the limit of that step
  abbrev pub limit_at : ℕ → ℤ
  limit_at i = d (get_or ring i 0) (get_or ring (place_after (length ring) i) 0)

  -- the lines of the k + 1 last steps
  steps_from : (k i : ℕ) → i + suc k ≡ length ring
      → step_lines d (get_or ring i 0) (drop (suc i) ring) (get_or ring 0 0) ≡ map step_at (run i (suc k))
  unfolding step_lines
  steps_from zero i e =
      let h : length ring ≤ suc i = omega arith in
      rw (drop_of_length-le ring h, after_last (length ring) i e) refl
  steps_from (suc k) i e =
      let h : suc i < length ring = omega arith in
      rw (drop-cons ring (suc i) 0 h, after_inside (length ring) i (omega arith))
      (ap (λ r. step_line d (get_or ring i 0) (get_or ring (suc i) 0) ∷ r) (steps_from k (suc i) (omega arith)))

  -- the sum of the limits of k steps from place i on
  abbrev limits_from : ℕ → ℕ → ℤ
  limits_from zero i = pos 0
  limits_from (suc k) i = limit_at i +ℤ limits_from k (suc i)

  sum_from : (k i : ℕ) → i + suc k ≡ length ring → via d (get_or ring i 0) (drop (suc i) ring) (get_or ring 0 0) ≡ limits_from (suc k) i
  sum_from zero i e =
      let h : length ring ≤ suc i = omega arith in
      rw (drop_of_length-le ring h, after_last (length ring) i e) (sym (+ℤ_idr (d (get_or ring i 0) (get_or ring 0 0))))
  sum_from (suc k) i e =
      let h : suc i < length ring = omega arith in
      rw (drop-cons ring (suc i) 0 h, after_inside (length ring) i (omega arith))
      (ap (λ r. d (get_or ring i 0) (get_or ring (suc i) 0) +ℤ r) (sum_from k (suc i) (omega arith)))

module _ (d : Weights) where
  -- all lines, step by step
  pub ring_steps : (ring : List ℕ) → 1 ≤ length ring → ring_lines d ring ≡ map (step_at d ring) (run 0 (length ring))
  unfolding ring_lines
  ring_steps [] h = absurd (omega arith)
  ring_steps (a ∷ bs) h = steps_from d (a ∷ bs) (length bs) 0 (omega arith)

  -- the ring's sum, step by step
  ring_sum : (ring : List ℕ) → 1 ≤ length ring → around d ring ≡ limits_from d ring (length ring) 0
  ring_sum [] h = absurd (omega arith)
  ring_sum (a ∷ bs) h = sum_from d (a ∷ bs) (length bs) 0 (omega arith)

  module _ (ring : List ℕ) where
    -- what the first i steps rise and fall by, and what the others add up to, make up the ring's sum
    pub record Walked (i rise fall : ℕ) : Type 0 where
      pub rest : let others = limits_from d ring (length ring - i) i in rise + up others + dn (around d ring) ≡ up (around d ring) + fall + dn others

    pub walked_none : 1 ≤ length ring → Walked 0 0 0
    walked_none h =
        let n : length ring - 0 ≡ length ring = omega arith in
        let e : around d ring ≡ limits_from d ring (length ring - 0) 0 = ring_sum ring h ∙ ap (λ k. limits_from d ring k 0) (sym n) in
        record { rest = omega (arith, ap up e, ap dn e) }

    pub walked_next : (i rise fall : ℕ) → i < length ring → Walked i rise fall
        → Walked (i + 1) (rise + up (limit_at d ring i)) (fall + dn (limit_at d ring i))
    walked_next i rise fall h w =
        let n : length ring - i ≡ suc (length ring - (i + 1)) = omega arith in
        let e : limits_from d ring (length ring - i) i ≡ limit_at d ring i +ℤ limits_from d ring (length ring - (i + 1)) (i + 1) =
        ap (λ k. limits_from d ring k i) n ∙ ap (λ m. limit_at d ring i +ℤ limits_from d ring (length ring - (i + 1)) m) (sym (add-one i)) in
        record { rest = omega (arith, w.rest, ap up e, ap dn e, sum (limit_at d ring i) (limits_from d ring (length ring - (i + 1)) (i + 1))) }

    -- with the last step the ring is closed
    pub walked_all : (i rise fall : ℕ) → length ring ≤ i → Walked i rise fall → fall - rise ≡ shortfall_of d ring
    walked_all i rise fall h w =
        let n : length ring - i ≡ 0 = omega arith in
        let e : limits_from d ring (length ring - i) i ≡ pos 0 = ap (λ k. limits_from d ring k i) n in
        ⊎_elim
        (λ z. omega (arith, w.rest, ap up e, ap dn e, neg (around d ring)))
        (λ z. omega (arith, w.rest, ap up e, ap dn e, neg (around d ring)))
        (apart (around d ring))

-- ---- the page of a ring depends on the limits of its own steps alone
module _ (top : ℕ) (d e : Weights) (same : (a b : ℕ) → a ≤ top → b ≤ top → d a b ≡ e a b) where
  step_line_same : (a b : ℕ) → a ≤ top → b ≤ top → step_line d a b ≡ step_line e a b
  unfolding step_line
  step_line_same a b ha hb =
      ap (λ v. cond (ltb a b) (at_most_line (up v) (suc a) b) (at_least_line (up (neg_ℤ v)) (suc b) a)) (same a b ha hb)

  step_lines_same : (a : ℕ) (bs : List ℕ) (z : ℕ) → a ≤ top → Upto top bs → z ≤ top → step_lines d a bs z ≡ step_lines e a bs z
  unfolding step_lines
  step_lines_same a [] z ha h hz = ap (λ l. l ∷ []) (step_line_same a z ha hz)
  step_lines_same a (b ∷ bs) z ha h hz = ap₂ (λ l ls. l ∷ ls) (step_line_same a b ha h.0) (step_lines_same b bs z h.0 h.1 hz)

  pub none_page_same : (ring : List ℕ) → Upto top ring → none_page d ring ≡ none_page e ring
  unfolding none_page ring_lines
  none_page_same [] h = refl
  none_page_same (a ∷ bs) h =
      ap₂ (λ ls k. joined (none_head ∷ joined ls ∷ shortfall_line (up (neg_ℤ k)) ∷ []))
      (step_lines_same a bs a h.0 h.1 h.0) (via_same top d e same a bs a h.0 h.1 h.0)
