-- The buffer has a place more than the longest text that is read, and so many bytes decide.
use mathlib.Core.Path.{◌≡◌, sym, ap, subst, ◌∙◌}
use mathlib.Core.List.{List, []}
use Prim.Native.Nat.{ℕ, suc}
use lib.ListN.{take}
use lib.Seq.{length-take-le}
use Rattle.sheet.specs.Sizes.{max_bytes}
use Rattle.forms.specs.declared.House.{House}
use Rattle.print_bytes.specs.Writing.{with_bytes}
use Rattle.convert_lists.specs.Converting.{reply_of, converting, converted}
use Rattle.convert.specs.Conversion.{first_bytes_decide}
use Rattle.convert_lists.specs.declared.Converted.{Converted}
use Rattle.wave_inputs.specs.Input.{InputConverted}
use Rattle.wave_inputs.proofs.InputLaws.{place_inside, line_small}
use Rattle.wave_inputs.proofs.convert_input.Goals as goal

-- what the front is converted to, the input is
module _ (from to : House) (places : ℕ) (front page left : List ℕ) (r : Converted) where
  front_converts : places ≡ suc max_bytes → reply_of r ≡ converting from to front → left ≡ with_bytes page 0 (converted from to front)
      → InputConverted from to places front page left r
  front_converts p told written input e =
      let cut : take (suc max_bytes) input ≡ front = subst (λ k. take k input ≡ front) p e in
      let same = first_bytes_decide from to input in
      record {
        told = told ∙ ap (converting from to) (sym cut) ∙ same.0;
        written = written ∙ ap (with_bytes page 0) (ap (converted from to) (sym cut) ∙ same.1);
      }

pub slice_bounds-convert-end : goal.slice_bounds-convert-end
slice_bounds-convert-end c = sym (length-take-le _ _ c.requires.1)

pub returns : goal.returns
returns c =
    let r = c.convert.ensures in record {
      fact = front_converts _ _ _ _ _ _ c.convert.result c.requires.0 r.0 r.1;
      result_in_bounds = (place_inside _ _ _ _ _ c.convert.result r.0 r.1, line_small _ _ _ [] [] c.convert.result r.0);
    }
