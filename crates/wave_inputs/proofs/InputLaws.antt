-- The place past what was converted, merged or shown, and the line of a refusal.
-- Key idea: the bytes stand on the page whole, and the place is as many as they are, by the verdict that they are written by.
use Rattle.std.specs.Prelude.{Option, Some, None}
use mathlib.Core.Path.{◌≡◌, refl, ap, ◌∙◌}
use mathlib.Core.List.{List}
use Prim.Native.Nat.{ℕ, ◌+◌, ◌≤◌}
use native.Mathlib.Omega.{arith}
use lib.ListN.{length, drop, length-append}
use Rattle.questions.specs.Questions.{Verdict, no, all_yes, first_no}
use Rattle.sheet.specs.Sizes.{max_bytes}
use Rattle.forms.specs.declared.House.{House}
use Rattle.forms.specs.declared.House.TheVariants.{Ours}
use Rattle.read_questions.specs.Reading.{sheet_in}
use Rattle.sheet_texts.specs.SheetText.{sheet_text}
use Rattle.print_bytes.specs.Writing.{with_bytes}
use Rattle.write_fronts.specs.Outcome.{Reply, sheet, refused, bytes_by, reply_by}
use Rattle.convert_lists.specs.Converting.{written, reply_of, refusal, converted, converting}
use Rattle.convert.specs.Conversion.{conversion_refusals}
use Rattle.convert_lists.specs.declared.Converted.{Converted}
use Rattle.questions.specs.declared.Refusal.{Refusal}
use Rattle.merge_questions.specs.Merging.{merge_questions, merged_in}
use Rattle.merge_text.specs.MergeText.{merging_text, merged_text}
use Rattle.merge_text.specs.MergeText as merge
use Rattle.merge_text.specs.declared.Merged.{Merged}
use Rattle.merge_questions.specs.declared.Blamed.{Blamed}
use Rattle.wave_line_page.specs.LinePage.{line_page, showing}
use Rattle.wave_line_page.specs.declared.Shown.{Shown}
use Rattle.wave_inputs.specs.Input.{line_in, line_of}

abbrev place_in : Reply → ℕ
place_in (sheet next) = next
place_in (refused q n next) = next

abbrev line_told : Reply → ℕ
line_told (sheet next) = 0
line_told (refused q n next) = n

same_place : (f : Option Refusal) (next : ℕ) → next ≡ place_in (written f next)
same_place None next = refl
same_place (Some f) next = refl

same_line : (f : Option Refusal) (next : ℕ) → line_in f ≡ line_told (written f next)
same_line None next = refl
same_line (Some f) next = refl

place_by : (v : Verdict) (text : List ℕ) → place_in (reply_by v text) ≡ length (bytes_by v text)
place_by (no q n) text = refl
place_by all_yes text = refl

-- bytes that stand on a page from its first place on
bytes_inside : (bytes page left : List ℕ) (next : ℕ) → next ≡ length bytes → left ≡ with_bytes page 0 bytes → next ≤ length left
unfolding with_bytes
bytes_inside bytes page left next n e = omega (arith, n, ap length e, length-append bytes (drop (0 + length bytes) page))

module _ (from to : House) (input page left : List ℕ) (r : Converted) (told : reply_of r ≡ converting from to input) where
  pub place_inside : left ≡ with_bytes page 0 (converted from to input) → r.place ≤ length left
  place_inside =
      bytes_inside (converted from to input) page left r.place
      (same_place r.refusal r.place ∙ ap place_in told ∙ place_by (refusal from to input) (sheet_text to (sheet_in from input)))

  pub line_small : line_of r ≤ max_bytes
  line_small = go (refusal from to input) refl
    where
      text : List ℕ
      text = sheet_text to (sheet_in from input)

      go : (v : Verdict) → refusal from to input ≡ v → line_of r ≤ max_bytes
      go (no q n) e =
          omega (arith, same_line r.refusal r.place ∙ ap line_told told ∙ ap (λ v. line_told (reply_by v text)) e, (conversion_refusals from to input q n e).line_known)
      go all_yes e = omega (arith, same_line r.refusal r.place ∙ ap line_told told ∙ ap (λ v. line_told (reply_by v text)) e)

-- ---- two texts

merged_same_place : (b : Option Blamed) (next : ℕ) → next ≡ place_in (merge.reply_at next b)
merged_same_place None next = refl
merged_same_place (Some b) next = refl

pub merged_inside : (one two page left : List ℕ) (r : Merged) → merge.reply_of r ≡ merging_text one two → left ≡ with_bytes page 0 (merged_text one two)
    → r.place ≤ length left
merged_inside one two page left r told =
    bytes_inside (merged_text one two) page left r.place
    (merged_same_place r.blamed r.place ∙ ap place_in told ∙ place_by (first_no (merge_questions one two)) (sheet_text Ours (merged_in one two)))

pub shown_inside : (one two : List ℕ) (k : ℕ) (page left : List ℕ) (r : Shown) → r ≡ showing one two k → left ≡ with_bytes page 0 (line_page one two k)
    → r.place ≤ length left
shown_inside one two k page left r told = bytes_inside (line_page one two k) page left r.place (ap (λ (s : Shown). s.place) told)
