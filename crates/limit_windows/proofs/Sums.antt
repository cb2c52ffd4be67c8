-- The sums of `windows_inside`, swept over the exact windows.
-- Key idea: right of the diagonal both tables are 0, so a row starts at its diagonal; one entry more of a row is the row's sum so far, plus the entry
-- above it.
use mathlib.Core.Path.{◌≡◌, sym, ap, ◌∙◌, subst}
use mathlib.Core.List.{List}
use Prim.Native.Nat.{ℕ, zero, suc, ◌+◌, ◌-◌, ◌*◌, ◌≤◌, ◌<◌}
use native.Mathlib.Omega.{arith}
use lib.ListN.{length, get_or, set}
use lib.IntN.{ℤ, pos, neg_ℤ, ◌+ℤ◌}
use mir.Syntax.{w16}
use mir.Val.{SFits}
use Rattle.integers.specs.Parts.{ints, neg, sum, fits_within}
use Rattle.lists.specs.Lists.{how_many}
use Rattle.sheet.specs.Sizes.{max_units}
use Rattle.sheet.specs.Sheet.{Window, inside_of}
use Rattle.limit_windows.specs.Inside.{exactly, exact_weights, inside_weights}
use Rattle.lists.specs.Counts.{how_many_most}
use Rattle.limit_windows.specs.InsideLaws.{WindowsOrdered, ends_in, row_step, column_step, inside_none, exact_none}
use Rattle.limit_places.specs.LentTableLaws.{TableFilled, place_inside, rows_apart}
use Rattle.limit_places.specs.Sweep.{Swept, swept_first, swept_row, swept_set}

-- from exact windows to windows inside
abbrev pub Summed : ℕ → List Window → List ℤ → ℕ → ℕ → List ℤ → Type 0
Summed w ws = Swept w (exact_weights ws) (inside_weights ws)

module _ (w : ℕ) (ws : List Window) (ok : WindowsOrdered ws) (t₀ t : List ℤ) where
  -- right of the diagonal both are 0
  same_right : (x y : ℕ) → x ≤ y → exact_weights ws x y ≡ inside_weights ws x y
  unfolding exact_weights inside_weights
  same_right x y h = ap (λ (n : ℕ). neg_ℤ (pos n)) (exact_none ws ok x y h ∙ sym (inside_none ws ok x y h))

  pub first_row : TableFilled w (exact_weights ws) t₀ t → Summed w ws t₀ 1 1 t
  first_row f = swept_first w (exact_weights ws) (inside_weights ws) t₀ t 1 1 f (λ x y h. same_right x y (omega arith)) (λ y h _. same_right 1 y h)

  pub next_row : (a : ℕ) → Summed w ws t₀ a 0 t → Summed w ws t₀ (a + 1) (a + 1) t
  next_row a s = swept_row w (exact_weights ws) (inside_weights ws) t₀ t a 0 (a + 1) s (λ y h. absurd (omega arith)) (λ y h _. same_right (a + 1) y h)

-- what one turn of the inner loop asks and leaves
pub record Turn (w : ℕ) (ws : List Window) (t₀ t : List ℤ) (a b at : ℕ) (z : ℤ) : Type 0 where
  pub inside : at < length t
  pub under : w ≤ at
  pub sum_fits : SFits w16 (z +ℤ get_or t at (pos 0))
  pub sum_is : z +ℤ get_or t at (pos 0) ≡ neg_ℤ (pos (how_many (ends_in (b - 1) a) ws))
  pub fits : SFits w16 ((z +ℤ get_or t at (pos 0)) +ℤ get_or t (at - w) (pos 0))
  pub next : Summed w ws t₀ a (b - 1) (set t at ((z +ℤ get_or t at (pos 0)) +ℤ get_or t (at - w) (pos 0)))

small : (z : ℤ) (n : ℕ) → z ≡ neg_ℤ (pos n) → n ≤ max_units → SFits w16 z
small z n e h = let m = neg (pos n) in fits_within w16 z max_units tt (omega ints) (omega ints)

turn_at : (w : ℕ) (ws : List Window) (t₀ t : List ℤ) (a b : ℕ) (z : ℤ) → w * w ≤ length t₀ → length ws ≤ max_units → suc a < w → b < w
    → z ≡ neg_ℤ (pos (how_many (ends_in (suc b) (suc a)) ws))
    → Summed w ws t₀ (suc a) (suc b) t → Turn w ws t₀ t (suc a) (suc b) (suc a * w + b) z
unfolding exact_weights inside_weights
turn_at w ws t₀ t a b z room few ha hb ez s =
    let at = suc a * w + b in
    let e = how_many (exactly (suc b) (suc a)) ws in
    let r = how_many (ends_in b (suc a)) ws in
    let i = how_many (inside_of (suc b) a) ws in
    let m = how_many (inside_of (suc b) (suc a)) ws in
    let x = get_or t at (pos 0) in
    let y = get_or t (at - w) (pos 0) in
    let ex : x ≡ neg_ℤ (pos e) = s.left b (omega arith) hb ha in
    let back : at - w ≡ a * w + b = omega arith in
    let ey : y ≡ neg_ℤ (pos i) = ap (λ (k : ℕ). get_or t k (pos 0)) back ∙ s.above a b (omega arith) (omega arith) hb in
    let q = how_many (ends_in (suc b) (suc a)) ws in
    let run : z +ℤ x ≡ neg_ℤ (pos r) = omega (ints, ez, ex, sum z x, neg (pos q), neg (pos e), neg (pos r), row_step (suc a) b ws) in
    let all : (z +ℤ x) +ℤ y ≡ neg_ℤ (pos m) = omega (ints, run, ey, sum (z +ℤ x) y, neg (pos r), neg (pos i), neg (pos m), column_step a b ws) in
    let off : suc b - 1 ≡ b = omega arith in
    record {
      inside = omega (arith, place_inside w (suc a) b ha hb, s.long);
      under = omega (arith, rows_apart w 0 (suc a) (omega arith));
      sum_fits = small (z +ℤ x) r run (omega (arith, how_many_most (ends_in b (suc a)) ws));
      sum_is = run ∙ ap (λ (k : ℕ). neg_ℤ (pos (how_many (ends_in k (suc a)) ws))) (sym off);
      fits = small ((z +ℤ x) +ℤ y) m all (omega (arith, how_many_most (inside_of (suc b) (suc a)) ws));
      next = subst (λ (k : ℕ). Summed w ws t₀ (suc a) k (set t at ((z +ℤ x) +ℤ y))) (sym off)
          (swept_set w (exact_weights ws) (inside_weights ws) t₀ t (suc a) b ((z +ℤ x) +ℤ y) room ha hb all s);
    }

pub turn : (w : ℕ) (ws : List Window) (t₀ t : List ℤ) (a b : ℕ) (z : ℤ) → w * w ≤ length t₀ → length ws ≤ max_units → 0 < a → a < w → 0 < b → b ≤ a
    → z ≡ neg_ℤ (pos (how_many (ends_in b a) ws)) → Summed w ws t₀ a b t → Turn w ws t₀ t a b (a * w + (b - 1)) z
turn w ws t₀ t zero b z room few low high lo hi e s = absurd (omega arith)
turn w ws t₀ t (suc a) zero z room few low high lo hi e s = absurd (omega arith)
turn w ws t₀ t (suc a) (suc b) z room few low high lo hi e s =
    let off : suc b - 1 ≡ b = omega arith in
    subst (λ (k : ℕ). Turn w ws t₀ t (suc a) (suc b) (suc a * w + k) z) (sym off) (turn_at w ws t₀ t a b z room few high (omega arith) e s)
