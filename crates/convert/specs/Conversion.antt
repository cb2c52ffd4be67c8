-- What is promised of converting, beyond its definition: nothing is refused by 12 or 15, what is written is no longer than the page, the first bytes
-- decide, and what goes out to a house comes back from it.
-- Key idea: a refusal is reading's or the house's, each by questions of its own; a text that goes out is accepted by reading as the sheet it was.
use Rattle.std.specs.Prelude.{◌≡◌, refl, ◌⊎◌, Bool, true, false, ℕ, suc, ◌≤◌, ◌<◌, T, leb, length, take}
use Rattle.std.proofs.Common.{sym, ap, ◌∙◌, subst, inl, inr, ⊎_elim, arith, take_all, length-take-le, leb-true, leb-false}
use Rattle.std.proofs.Math.Path.{ap₂}
use mathlib.Core.List.{List, [], ◌∷◌}
use Rattle.lists.specs.Members.{right, within_iff}
use Rattle.questions.specs.Questions.{ask, Verdict, no, all_yes, first_no, AllYes}
use Rattle.questions.proofs.FirstNoLaws.{yes_every, every_yes, yes_front, yes_back, yes_at}
use Rattle.forms.specs.declared.House.{House}
use Rattle.forms.specs.declared.House.TheVariants.{Ours}
use Rattle.sheet.specs.Sizes.{max_bytes}
use Rattle.sheet.specs.Sheet.{WrittenSheet, constraints, loaders}
use Rattle.sheet.specs.Questions.{accepted, loaders_fit}
use Rattle.sheet_texts.specs.SheetText.{sheet_text, max_text}
use Rattle.sheet_texts.proofs.SheetTextLaws.{text_short}
use Rattle.write_ask.specs.HouseQuestions.{house_questions}
use Rattle.print_bytes.specs.Writing.{refused_line}
use Rattle.print_bytes.proofs.WritingLaws.{refused_short}
use Rattle.read_questions.specs.Reading.{pass_questions, questions, lists_fit, rooms_for_all, sheet_in}
use Rattle.read_questions.proofs.AcceptedLaws.{reading_accepts, reading_loaders}
use Rattle.read_questions.proofs.RefusalLaws.{asks_text, reading_refusals}
use Rattle.read_whole.specs.WholeLaws.{two_digits, too_long}
use Rattle.round_trip.proofs.RoundTrip.{text_accepted, text_read}
use Rattle.write_fronts.specs.Outcome.{bytes_by, reply_by}
use Rattle.convert_lists.specs.Converting.{asked, refusal, converted, converting}
use Rattle.convert_lists.proofs.ConvertingLaws.{asks_house, house_refusals, refusal_then}

module _ (from to : House) (input : List ℕ) where
  abbrev read : Verdict
  read = first_no (questions from input rooms_for_all)

  abbrev sheet : WrittenSheet
  sheet = sheet_in from input

  -- ---- who refuses

  -- a question that is asked of every text, or one of the other house's, at a line no later than the longest text's last
  pub record Refusable (q n : ℕ) : Type 0 where
    pub asker : T (asks_text q) ⊎ T (asks_house q)
    pub line_known : n ≤ max_bytes

  pub conversion_refusals : (q n : ℕ) → refusal from to input ≡ no q n → Refusable q n
  conversion_refusals q n e = go read refl
    where
      go : (v : Verdict) → read ≡ v → Refusable q n
      go (no p k) f =
          let same : no p k ≡ no q n = sym (refusal_then from to input (no p k) f) ∙ e in
          let r = reading_refusals from input p k f in
          let a : p ≡ q = cc in
          let b : k ≡ n = cc in
          record { asker = inl (subst (λ i. T (asks_text i)) a r.number_known); line_known = omega (arith, r.line_known, b) }
      go all_yes f =
          let r = house_refusals to (constraints sheet) (reading_accepts from input rooms_for_all f) q n (sym (refusal_then from to input all_yes f) ∙ e) in
          record { asker = inr r.number_known; line_known = r.line_known }

  asked_small : (q : ℕ) → T (asks_text q) ⊎ T (asks_house q) → q < 100
  asked_small q = ⊎_elim (two_digits q) (λ k. omega (arith, ((within_iff 17 18 q).0 k).1))

  -- No text is refused by 12, and none by 15.
  pub never_12 : (n : ℕ) → refusal from to input ≡ no 12 n → ⊥
  never_12 n e = ⊎_elim (λ k. k) (λ k. k) (conversion_refusals 12 n e).asker

  pub never_15 : (n : ℕ) → refusal from to input ≡ no 15 n → ⊥
  never_15 n e = ⊎_elim (λ k. k) (λ k. k) (conversion_refusals 15 n e).asker

  -- where nothing is refused, neither reading nor the house refuses
  module _ (e : refusal from to input ≡ all_yes) where
    read_yes : read ≡ all_yes
    unfolding refusal
    read_yes =
        every_yes (questions from input rooms_for_all)
        (yes_front (questions from input rooms_for_all) (house_questions to (constraints sheet)) (yes_every (asked from to input) e))

    house_yes : AllYes (house_questions to (constraints sheet))
    unfolding refusal
    house_yes = yes_back (questions from input rooms_for_all) (house_questions to (constraints sheet)) (yes_every (asked from to input) e)

    ok : T (accepted (constraints sheet))
    ok = reading_accepts from input rooms_for_all read_yes

    new : T (loaders_fit (loaders sheet))
    new = reading_loaders from input rooms_for_all read_yes

    few : T (lists_fit (length sheet.units) (length sheet.rules) rooms_for_all)
    unfolding questions
    few =
        let last = ask 12 0 (lists_fit (length sheet.units) (length sheet.rules) rooms_for_all) ∷ [] in
        let rest = right (leb (length input) max_bytes) _ (yes_every (questions from input rooms_for_all) read_yes) in
        yes_at last (yes_back (pass_questions from input) last rest) 0 tt

    -- ---- What goes out comes back: the other house's text passes all of reading's questions, and is the same sheet.
    pub same_sheet : (first_no (questions to (converted from to input) rooms_for_all) ≡ all_yes) × (sheet_in to (converted from to input) ≡ sheet_in from input)
    same_sheet =
        let is : converted from to input ≡ sheet_text to sheet = ap (λ (v : Verdict). bytes_by v (sheet_text to sheet)) e in (
          ap (λ t. first_no (questions to t rooms_for_all)) is ∙ text_accepted to sheet ok new house_yes rooms_for_all few,
          ap (sheet_in to) is ∙ text_read to sheet ok new house_yes,
        )

    -- So a sheet of ours that went to the partner and comes back is our text of the same sheet, without its notes.
    pub back_to_ours : converted to Ours (converted from to input) ≡ sheet_text Ours (sheet_in from input)
    unfolding first_no
    back_to_ours =
        let sent = converted from to input in
        let none : refusal to Ours sent ≡ all_yes = refusal_then to Ours sent all_yes same_sheet.0 in
        ap₂ bytes_by none (ap (sheet_text Ours) same_sheet.1)

  -- ---- What is written is no longer than the page.
  pub converted_short : length (converted from to input) ≤ max_text
  converted_short = go (refusal from to input) refl
    where
      go : (v : Verdict) → refusal from to input ≡ v → length (bytes_by v (sheet_text to sheet)) ≤ max_text
      go (no q n) e =
          let r = conversion_refusals q n e in
          omega (arith, refused_short q n (asked_small q r.asker) (omega (arith, r.line_known)))
      go all_yes e = text_short to sheet (ok e) (new e)

-- ---- As many bytes as question 1 allows and one more decide, so that the rest of a text need not be read.
pub first_bytes_decide : (from to : House) (input : List ℕ) → let front = take (suc max_bytes) input in
    (converting from to front ≡ converting from to input) × (converted from to front ≡ converted from to input)
first_bytes_decide from to input = go (leb (length input) max_bytes) refl
  where
    front : List ℕ
    front = take (suc max_bytes) input

    by_1 : (t : List ℕ) → max_bytes < length t → refusal from to t ≡ no 1 0
    by_1 t long = refusal_then from to t (no 1 0) (too_long from t long)

    told : (t : List ℕ) → max_bytes < length t → converting from to t ≡ reply_by (no 1 0) []
    told t long = ap (λ (v : Verdict). reply_by v (sheet_text to (sheet_in from t))) (by_1 t long)

    bytes : (t : List ℕ) → max_bytes < length t → converted from to t ≡ refused_line 1 0
    bytes t long = ap (λ (v : Verdict). bytes_by v (sheet_text to (sheet_in from t))) (by_1 t long)

    go : (b : Bool) → leb (length input) max_bytes ≡ b
        → (converting from to front ≡ converting from to input) × (converted from to front ≡ converted from to input)
    go true e =
        let whole = take_all (suc max_bytes) input (omega (arith, leb-true (length input) max_bytes e)) in
        (ap (converting from to) whole, ap (converted from to) whole)
    go false e =
        let long = leb-false (length input) max_bytes e in
        let cut : max_bytes < length front = omega (arith, length-take-le (suc max_bytes) input (omega (arith, long))) in
        (told front cut ∙ sym (told input long), bytes front cut ∙ sym (bytes input long))
