-- What is promised of merging two texts into one, beyond its definition: nothing is refused by 12 or 15, what is written is no longer than the page, it is
-- read as the merged sheet, so that merging and planning join, and the first bytes of each text decide.
-- Key idea: what a merge gives, planning accepts; so its text is one of those that reading accepts and reads as the sheet that was written.
use Rattle.std.specs.Prelude.{◌≡◌, refl, ◌↔◌, List, ℕ, ◌≤◌, length}
use Rattle.std.proofs.Common.{sym, ap, ap₂, ◌∙◌, subst, arith}
use Rattle.questions.specs.Questions.{Verdict, no, all_yes, first_no}
use Rattle.forms.specs.declared.House.TheVariants.{Ours}
use Rattle.sheet.specs.Sheet.{WrittenSheet, constraints, loaders}
use Rattle.sheet_texts.specs.SheetText.{sheet_text, max_text}
use Rattle.sheet_texts.proofs.SheetTextLaws.{text_short}
use Rattle.print_bytes.proofs.WritingLaws.{refused_short}
use Rattle.read_questions.specs.Reading.{questions, rooms_for_all, sheet_in}
use Rattle.round_trip.proofs.RoundTrip.{text_accepted, text_read}
use Rattle.merge_questions.specs.Merging.{merge_questions, merged_in, blamed_sheet}
use Rattle.merge_laws.proofs.TextLaws.{front}
use Rattle.merge_laws.proofs.Merged.{merge_accepted, merge_loaders, merge_fits, merge_refusals, refused_small}
use Rattle.merge_laws.proofs.Merged as merge
use Rattle.write_fronts.specs.Outcome.{bytes_by, refused, reply_by}
use Rattle.wave_words.specs.declared.Query.{Query}
use Rattle.answer_conditions.specs.Answer.{ByReading, AnswerToSheet, AnswerTo}
use Rattle.merge_text.specs.MergeText.{merged_text, merging_text}

module _ (one two : List ℕ) where
  abbrev verdict : Verdict
  verdict = first_no (merge_questions one two)

  abbrev text : List ℕ
  text = sheet_text Ours (merged_in one two)

  -- ---- Nothing is refused by 12, and nothing by 15.

  refused_by : (q n place : ℕ) → merging_text one two ≡ refused q n place → verdict ≡ no q n
  refused_by q n place = go verdict
    where
      go : (v : Verdict) → reply_by v text ≡ refused q n place → v ≡ no q n
      go (no p k) e = let a : p ≡ q = cc in let b : k ≡ n = cc in ap₂ no a b
      go all_yes e = let z : ◌≡◌ {A = ℕ} 0 1 = cc in absurd (omega arith)

  pub never_12 : (n place : ℕ) → merging_text one two ≡ refused 12 n place → ⊥
  never_12 n place e = (merge_refusals one two 12 n (refused_by 12 n place e)).number_known

  pub never_15 : (n place : ℕ) → merging_text one two ≡ refused 15 n place → ⊥
  never_15 n place e = (merge_refusals one two 15 n (refused_by 15 n place e)).number_known

  -- ---- What is written is no longer than the page.

  pub merged_short : length (merged_text one two) ≤ max_text
  merged_short = go verdict refl
    where
      go : (v : Verdict) → verdict ≡ v → length (bytes_by v text) ≤ max_text
      go (no q n) e =
          let r = refused_small one two q n e in
          omega (arith, refused_short q n r.0 (omega (arith, r.1)))
      go all_yes e = text_short Ours (merged_in one two) (merge_accepted one two e) (merge_loaders one two e)

  -- ---- Merging and planning join: where nothing is refused, the text passes all of reading's questions and is read as the merged sheet.

  module _ (e : first_no (merge_questions one two) ≡ all_yes) where
    written : merged_text one two ≡ text
    written = ap (λ (v : Verdict). bytes_by v text) e

    pub same_sheet : (first_no (questions Ours (merged_text one two) rooms_for_all) ≡ all_yes) × (sheet_in Ours (merged_text one two) ≡ merged_in one two)
    same_sheet =
        let w = merged_in one two in
        let ok = merge_accepted one two e in
        let new = merge_loaders one two e in (
          ap (λ t. first_no (questions Ours t rooms_for_all)) written ∙ text_accepted Ours w ok new tt rooms_for_all (merge_fits one two e),
          ap (sheet_in Ours) written ∙ text_read Ours w ok new tt,
        )

    -- So the answer to the text is the answer to the merged sheet.
    pub same_answer : (query : Query) (bytes : List ℕ) → AnswerTo Ours query (merged_text one two) bytes
        ↔ AnswerToSheet query (loaders (merged_in one two)) (constraints (merged_in one two)) bytes
    same_answer query bytes =
        let is : AnswerTo Ours query (merged_text one two) bytes ≡ ByReading query all_yes (merged_in one two) bytes =
        ap₂ (λ (v : Verdict) (w : WrittenSheet). ByReading query v w bytes) same_sheet.0 same_sheet.1 in
        (subst (λ (A : Type 0). A) is, subst (λ (A : Type 0). A) (sym is))

  -- ---- As many bytes of each text as question 1 allows and one more decide, so that the rest need not be read.

  pub first_bytes_decide : (merging_text (front one) (front two) ≡ merging_text one two) × (merged_text (front one) (front two) ≡ merged_text one two)
      × (blamed_sheet (front one) (front two) ≡ blamed_sheet one two)
  first_bytes_decide = (
    ap (λ (v : Verdict). reply_by v cut) decided.0 ∙ (go verdict refl).0,
    ap (λ (v : Verdict). bytes_by v cut) decided.0 ∙ (go verdict refl).1,
    decided.1,
  )
    where
      decided : (first_no (merge_questions (front one) (front two)) ≡ verdict) × (blamed_sheet (front one) (front two) ≡ blamed_sheet one two)
      decided = merge.first_bytes_decide one two

      cut : List ℕ
      cut = sheet_text Ours (merged_in (front one) (front two))

      -- the sheet's text counts where nothing is refused, and there it is the same
      go : (v : Verdict) → verdict ≡ v → (reply_by v cut ≡ reply_by v text) × (bytes_by v cut ≡ bytes_by v text)
      go (no q n) e = (refl, refl)
      go all_yes e =
          let same = ap (sheet_text Ours) (merge.first_bytes_sheet one two e) in
          (ap (λ (t : List ℕ). reply_by all_yes t) same, same)
