-- Marks of windows, one unit at a time.
-- Key idea: a place of the table is one pair of slots, so a store changes the mark of one window only.
use Rattle.std.specs.Prelude.{◌≡◌, refl, List, ℕ, zero, suc, ◌+◌, ◌*◌, ◌≤◌, ◌<◌, length, get_or, set, replicate}
use Rattle.std.proofs.Common.{sym, ap, inl, inr, arith, mul-le-mul_right, get_or-set_same, get_or-set_other}
use Rattle.std.proofs.Math.Logic.{⊎_map}
use Rattle.std.proofs.Math.Decide.{ℕ_discrete}
use Rattle.network.specs.Table.{max_boundaries}
use Rattle.network.proofs.TableLaws.{row_inside}
use Rattle.sheet.specs.Sizes.{max_cells}
use Rattle.limit_places.specs.LentTableLaws.{place_row, place_column}
use Rattle.plan_marks.specs.declared.Side.{Side}
use Rattle.plan_marks.specs.declared.Side.TheVariants.{Front, End}
use Rattle.plan_marks.specs.Marks.{seen, seen_at, Units, Marked}

-- a table of boundaries has room in the largest
pub square_most : (w : ℕ) → w ≤ max_boundaries → w * w ≤ max_cells
square_most w h = let p : w * w ≤ max_boundaries * w = mul-le-mul_right w h in omega arith

-- no window is marked in a list of zeros
pub zeros : (n i : ℕ) → ◌≡◌ {A = ℕ} (get_or (replicate n 0) i 0) 0
zeros zero i = refl
zeros (suc n) zero = refl
zeros (suc n) (suc i) = zeros n i

-- ---- slots seen from the end
pub seen_twice : (side : Side) (w x : ℕ) → x ≤ w → seen side w (seen side w x) ≡ x
seen_twice Front w x h = refl
seen_twice End w x h = omega arith

seen_below : (side : Side) (w x : ℕ) → 1 ≤ seen side w x → seen side w x < w → x ≤ w
seen_below Front w x h k = omega arith
seen_below End w x h k = omega arith

-- a slot within the boundaries, seen from either end, is one
pub seen_most : (side : Side) (w x : ℕ) → x ≤ w → seen side w x ≤ w
seen_most Front w x h = h
seen_most End w x h = omega arith

module _ {side : Side} {w : ℕ} {opens closes plan : List ℕ} (units : Units side w opens closes plan) where
  abbrev first : ℕ → ℕ
  first = seen_at side w opens

  abbrev last : ℕ → ℕ
  last = seen_at side w closes

  abbrev seat : ℕ → ℕ
  seat = seen_at side w plan

  pub slots_below : (j : ℕ) → j < length opens → (get_or opens j 0 ≤ w) × (get_or closes j 0 ≤ w) × (get_or plan j 0 ≤ w)
  slots_below j h =
      let u = units.inside j h in (
        seen_below side w (get_or opens j 0) (omega arith) (omega arith),
        seen_below side w (get_or closes j 0) (omega arith) (omega arith),
        seen_below side w (get_or plan j 0) (omega arith) (omega arith),
      )

  pub place_inside : (j : ℕ) → j < length opens → first j * w + last j < w * w
  place_inside j h = let u = units.inside j h in omega (arith, row_inside (first j) w (omega arith))

  pub marked_none : (marks : List ℕ) → ((i : ℕ) → get_or marks i 0 ≡ 0) → Marked 0 w first last seat marks
  marked_none marks z = record { found = λ j h. absurd (omega arith); from = λ f l hf hl. inl (z (f * w + l)) }

  pub marked_more : (j : ℕ) (marks : List ℕ) → j < length opens → w * w ≤ length marks → Marked j w first last seat marks
      → Marked (j + 1) w first last seat (set marks (first j * w + last j) (seat j))
  marked_more j marks h room m =
      let u = units.inside j h in
      let p = first j * w + last j in
      let here = get_or-set_same marks p (seat j) 0 (omega (arith, place_inside j h)) in
      record {
        found = λ i hi. elim (ℕ_discrete (first i * w + last i) p) [
          | yes e ↦ rw (e, here) (omega arith)
          | no ne ↦ rw (get_or-set_other marks p (first i * w + last i) (seat j) 0 ne) (m.found i (elim (ℕ_discrete i j) [
            | yes q ↦ absurd (ne (ap (λ (x : ℕ). first x * w + last x) q))
            | no nq ↦ omega arith
          ]))
        ];
        from = λ f l hf hl. elim (ℕ_discrete (f * w + l) p) [
          | yes e ↦ inr (
            j,
            omega arith,
            sym (place_row w (first j) (last j) f l (omega arith) hl e),
            sym (place_column w (first j) (last j) f l (omega arith) hl e),
            rw (e, here),
          )
          | no ne ↦ rw (get_or-set_other marks p (f * w + l) (seat j) 0 ne)
              (⊎_map (λ x. x) (λ x. (x.0, omega (arith, x.1), x.2, x.3, x.4)) (m.from f l hf hl))
        ];
      }
