-- Each buffer has a place more than the longest text that is read, and so many bytes of each input decide.
use mathlib.Core.Path.{◌≡◌, sym, ap, ap₂, subst, ◌∙◌}
use mathlib.Core.List.{List}
use Prim.Native.Nat.{ℕ, suc}
use lib.ListN.{take}
use lib.Seq.{length-take-le}
use Rattle.sheet.specs.Sizes.{max_bytes}
use Rattle.print_bytes.specs.Writing.{with_bytes}
use Rattle.merge_questions.specs.Merging.{blamed_sheet}
use Rattle.merge_text.specs.MergeText.{reply_of, blame_of, merging_text, merged_text}
use Rattle.merge_text.specs.MergedText.{first_bytes_decide}
use Rattle.merge_text.specs.declared.Merged.{Merged}
use Rattle.wave_inputs.specs.Input.{InputsMerged}
use Rattle.wave_inputs.proofs.InputLaws.{merged_inside}
use Rattle.wave_inputs.proofs.merge_inputs.Goals as goal

-- what the fronts become, the inputs become
module _ (places : ℕ) (first second page left : List ℕ) (r : Merged) where
  fronts_merge : places ≡ suc max_bytes → reply_of r ≡ merging_text first second → blame_of r ≡ blamed_sheet first second
      → left ≡ with_bytes page 0 (merged_text first second) → InputsMerged places first second page left r
  fronts_merge p told blames written one two e f =
      let a : first ≡ take (suc max_bytes) one = sym (subst (λ k. take k one ≡ first) p e) in
      let b : second ≡ take (suc max_bytes) two = sym (subst (λ k. take k two ≡ second) p f) in
      let same = first_bytes_decide one two in
      record {
        told = told ∙ ap₂ merging_text a b ∙ same.0;
        blames = blames ∙ ap₂ blamed_sheet a b ∙ same.2;
        written = written ∙ ap (with_bytes page 0) (ap₂ merged_text a b ∙ same.1);
      }

pub slice_bounds-merge_text-end : goal.slice_bounds-merge_text-end
slice_bounds-merge_text-end c = sym (length-take-le _ _ c.requires.2)

pub slice_bounds-merge_text-end-2 : goal.slice_bounds-merge_text-end-2
slice_bounds-merge_text-end-2 c = sym (length-take-le _ _ c.requires.3)

pub returns : goal.returns
returns c =
    let r = c.merge_text.ensures in record {
      fact = fronts_merge _ _ _ _ _ c.merge_text.result c.requires.0 r.result_value r.result_value_2 r.page_after;
      result_in_bounds = merged_inside _ _ _ _ c.merge_text.result r.result_value r.page_after;
    }
