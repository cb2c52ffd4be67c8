-- The least cuts of all marked windows, row by row.
-- Key idea: a row that comes back changes no other row, and what is barred for the windows that open in one slot is barred for those that open later.
use mathlib.Core.Path.{◌≡◌, refl, sym, ap, ◌∙◌, subst}
use mathlib.Core.List.{List, ◌++◌}
use Prim.Native.Nat.{ℕ, ◌+◌, ◌*◌, ◌≤◌, ◌<◌}
use native.Mathlib.Omega.{arith}
use native.Mathlib.Nat.{mul-le-mul_right}
use native.Mathlib.Decide.{ℕ_discrete}
use lib.ListN.{length, get_or, take, drop, replicate, length-replicate}
use lib.Seq.{get_or-drop}
use lib.IntN.{ℤ}
use Rattle.lists.specs.Slices.{part_at, part_length, back, back_length, back_past, back_before, back_inside}
use Rattle.network.specs.Table.{max_boundaries}
use Rattle.network.proofs.TableLaws.{row_inside}
use Rattle.plan_marks.specs.Marks.{slot}
use Rattle.plan_marks.specs.MarkLaws.{zeros}
use Rattle.plan_cuts.specs.Cuts.{KnownCut, KnownRow, CutRow, Floor, KnownCuts, CutRows}
use Rattle.plan_cuts.proofs.CutRowLaws.{floor_later}

-- a place behind a part that comes back
back_after : (i k : ℕ) (row t : List ℕ) → i + k ≤ length t → length row ≡ k → (n : ℕ) → i + k ≤ n → get_or (back i k row t) n 0 ≡ get_or t n 0
back_after i k row t h e n l =
    let z : n + 0 ≡ n = omega arith in
    let at : (x : List ℕ) → get_or x n 0 ≡ get_or (drop n x) 0 0 = λ x. ap (λ (j : ℕ). get_or x j 0) (sym z) ∙ sym (get_or-drop n x 0 0) in
    at (back i k row t) ∙ ap (λ (x : List ℕ). get_or x 0 0) (back_past i k row t h e n l) ∙ sym (at t)

-- the rows of the windows that open before f are done
pub record CutWindows (w : ℕ) (d m : List ℤ) (marks₀ marks floor : List ℕ) (f : ℕ) : Type 0 where
  pub long : length marks ≡ length marks₀
  pub wide : length floor ≡ max_boundaries
  pub place : (1 ≤ f) × (f ≤ w)
  pub done : CutRows w d m f marks₀ marks
  pub rest : (g l : ℕ) → f ≤ g → g < w → l < w → slot w marks g l ≡ slot w marks₀ g l
  pub floored : Floor w d m f floor

module _ (w : ℕ) (d m : List ℤ) (marks₀ : List ℕ) (known : KnownCuts w d m marks₀) where
  pub windows_none : 1 ≤ w → CutWindows w d m marks₀ marks₀ (replicate max_boundaries 0) 1
  windows_none h = let z = zeros max_boundaries in record {
    long = refl;
    wide = length-replicate {A = ℕ} max_boundaries 0;
    place = (omega arith, h);
    done = λ f l hf hl. (λ e. e, λ p. let o = (known f l (omega arith) hl p).opens in absurd (omega arith));
    rest = λ g l hg hw hl. refl;
    floored = λ l hl hw. (omega (arith, z l), λ u hu h. absurd (omega (arith, z l)));
  }

module _ {w : ℕ} {d m : List ℤ} {marks₀ marks floor : List ℕ} {f k : ℕ} (c : CutWindows w d m marks₀ marks floor f) (size : w * w ≤ length marks₀)
    (known : KnownCuts w d m marks₀) (h : f < w) (hk : k ≡ w) where
  fits : f * w + k ≤ length marks
  fits = omega (arith, row_inside f w h, c.long)

  abbrev row : List ℕ
  row = take k (drop (f * w) marks)

  pub row_length : length row ≡ w
  row_length = part_length (f * w) k marks fits ∙ hk

  row_at : (l : ℕ) → l < w → get_or row l 0 ≡ slot w marks₀ f l
  row_at l hl = part_at (f * w) k marks 0 l (omega arith) ∙ c.rest f l (omega arith) h hl

  pub known_row : KnownRow w d m f row
  known_row l hl p = subst (λ (x : ℕ). KnownCut w d m f l x) (sym (row_at l hl)) (known f l h hl (subst (λ (x : ℕ). 0 < x) (row_at l hl) p))

  pub windows_more : (row' floor' : List ℕ) → length row' ≡ k → length floor' ≡ max_boundaries → CutRow w d m f w row row' → Floor w d m f floor'
      → CutWindows w d m marks₀ (take (f * w) marks ++ (row' ++ drop k (drop (f * w) marks))) floor' (f + 1)
  windows_more row' floor' n n' cut s = record {
    long = back_length (f * w) k row' marks fits n ∙ c.long;
    wide = n';
    place = (omega (arith, c.place), omega arith);
    done = λ g l hg hl. elim (ℕ_discrete g f) [
      | yes e ↦ rw (e, back_inside (f * w) k row' marks fits n l 0 (omega arith)) (
        λ z. (cut l hl).0 (row_at l hl ∙ z),
        λ p. (cut l hl).1 (subst (λ (x : ℕ). 0 < x) (sym (row_at l hl)) p),
      )
      | no ne ↦
          let q : (g + 1) * w ≤ f * w = mul-le-mul_right w (omega arith) in
          rw (back_before (f * w) k row' marks fits n (g * w + l) 0 (omega arith)) (c.done g l (omega arith) hl)
    ];
    rest = λ g l hg hw hl.
        let q : (f + 1) * w ≤ g * w = mul-le-mul_right w hg in
        back_after (f * w) k row' marks fits n (g * w + l) (omega arith) ∙ c.rest g l (omega arith) hw hl;
    floored = floor_later w d m f (f + 1) floor' (omega arith) s;
  }
