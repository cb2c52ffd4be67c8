-- Each buffer has a place more than the longest text that is read, and so many bytes of each input decide.
use mathlib.Core.Path.{◌≡◌, sym, ap, ap₂, subst, ◌∙◌}
use mathlib.Core.List.{List}
use Prim.Native.Nat.{ℕ, suc, ◌≤◌}
use native.Mathlib.Omega.{arith}
use lib.ListN.{length, take}
use lib.Seq.{length-take-le}
use Rattle.sheet.specs.Sizes.{max_bytes}
use Rattle.print_bytes.specs.Writing.{with_bytes}
use Rattle.wave_line_page.specs.LinePage.{line_page, showing}
use Rattle.wave_line_page.specs.LinePageLaws.{first_bytes_decide}
use Rattle.wave_line_page.specs.declared.Shown.{Shown}
use Rattle.wave_inputs.specs.Input.{InputsShown}
use Rattle.wave_inputs.proofs.InputLaws.{shown_inside}
use Rattle.wave_inputs.proofs.line_inputs.Goals as goal

-- what is shown of the fronts, is shown of the inputs
module _ (places : ℕ) (first second : List ℕ) (k : ℕ) (page left : List ℕ) (r : Shown) where
  fronts_show : places ≡ suc max_bytes → r ≡ showing first second k → left ≡ with_bytes page 0 (line_page first second k)
      → InputsShown places first second k page left r
  fronts_show p told written one two e f =
      let a : first ≡ take (suc max_bytes) one = sym (subst (λ n. take n one ≡ first) p e) in
      let b : second ≡ take (suc max_bytes) two = sym (subst (λ n. take n two ≡ second) p f) in
      let same = first_bytes_decide one two k in
      record {
        told = told ∙ ap₂ (λ s t. showing s t k) a b ∙ same.0;
        written = written ∙ ap (with_bytes page 0) (ap₂ (λ s t. line_page s t k) a b ∙ same.1);
      }

-- the part of a buffer that was filled
front_short : (n : ℕ) (text : List ℕ) → n ≤ length text → length text ≡ suc max_bytes → length (take n text) ≤ suc max_bytes
front_short n text h e = omega (arith, length-take-le n text h, h, e)

pub slice_bounds-line_page-end : goal.slice_bounds-line_page-end
slice_bounds-line_page-end c = sym (length-take-le _ _ c.requires.2)

pub slice_bounds-line_page-end-2 : goal.slice_bounds-line_page-end-2
slice_bounds-line_page-end-2 c = sym (length-take-le _ _ c.requires.3)

pub line_page-requires : goal.line_page-requires
line_page-requires c =
    (front_short _ _ c.requires.2 c.requires.0, front_short _ _ c.requires.3 c.requires.1)

pub returns : goal.returns
returns c =
    let r = c.line_page.ensures in record {
      fact = fronts_show _ _ _ _ _ _ c.line_page.result c.requires.0 r.value r.page_after;
      result_in_bounds = shown_inside _ _ _ _ _ c.line_page.result r.value r.page_after;
    }
