-- What reading asks of a text, all but question 12: the verdict of all of reading's questions, where the rooms are long enough for every sheet.
-- Key idea: question 12 comes last and reading cannot be refused by it, so leaving it out changes no verdict, and the laws of reading hold.
use Rattle.std.specs.Prelude.{ℕ, suc, ◌≤◌, ◌<◌, ◌≡◌, ◌⊎◌, Bool, List, [], ◌∷◌, ◌++◌, T, leb, length, take}
use Rattle.std.proofs.Math.Path.{refl}
use Rattle.std.proofs.Common.{sym, ◌∙◌, inl, inr, arith, take_all, length-take-le, leb-true, leb-false}
use Rattle.std.proofs.Math.Bool.{true, false, cond}
use Rattle.std.proofs.lemmas.Bool.{lt-leb}
use Rattle.questions.specs.Questions.{Question, ask, Verdict, no, all_yes, first_no, AllYes}
use Rattle.questions.proofs.FirstNoLaws.{no_here, first_then, yes_every, every_yes}
use Rattle.sheet.specs.Sizes.{max_bytes}
use Rattle.sheet.specs.Sheet.{constraints, loaders}
use Rattle.sheet.specs.Questions.{accepted, loaders_fit}
use Rattle.forms.specs.declared.House.{House}
use Rattle.read_questions.specs.Reading.{questions, lists_fit, rooms_for_all, sheet_in}
use Rattle.read_questions.proofs.AcceptedLaws.{reading_accepts, reading_loaders}
use Rattle.read_questions.proofs.RefusalLaws.{Refusable, reading_refusals}
use Rattle.merge_read.specs.Behind.{text_questions}

-- a no of two lists of questions is one of the first, or one of the second where the first has none
pub no_of_two : (qs rs : List Question) (number line : ℕ) → first_no (qs ++ rs) ≡ no number line
    → (first_no qs ≡ no number line) ⊎ (AllYes qs × (first_no rs ≡ no number line))
no_of_two qs rs number line e = go (first_no qs) refl
  where
    go : (v : Verdict) → first_no qs ≡ v → (first_no qs ≡ no number line) ⊎ (AllYes qs × (first_no rs ≡ no number line))
    go (no q n) f = inl (f ∙ sym (first_then qs rs (no q n) f) ∙ e)
    go all_yes f = inr (yes_every qs f, sym (first_then qs rs all_yes f) ∙ e)

module _ (h : House) (text : List ℕ) where
  -- question 12, with rooms for every sheet
  abbrev fits : Bool
  fits = lists_fit (length (sheet_in h text).units) (length (sheet_in h text).rules) rooms_for_all

  abbrev last : List Question
  last = ask 12 0 fits ∷ []

  pub text_refusals : (number line : ℕ) → first_no (text_questions h text) ≡ no number line → Refusable number line
  unfolding questions
  text_refusals number line e = reading_refusals h text number line (first_then (text_questions h text) last (no number line) e)

  module _ (asked : AllYes (text_questions h text)) where
    pub text_whole : first_no (questions h text rooms_for_all) ≡ all_yes
    unfolding questions first_no
    text_whole =
        let e = first_then (text_questions h text) last all_yes (every_yes (text_questions h text) asked) in
        e ∙ go fits (λ f. (reading_refusals h text 12 0 (e ∙ f)).number_known)
      where
        go : (b : Bool) → (cond b all_yes (no 12 0) ≡ no 12 0 → ⊥) → cond b all_yes (no 12 0) ≡ all_yes
        go true f = refl
        go false f = absurd (f refl)

    pub text_accepts : T (accepted (constraints (sheet_in h text)))
    text_accepts = reading_accepts h text rooms_for_all text_whole

    pub text_loaders : T (loaders_fit (loaders (sheet_in h text)))
    text_loaders = reading_loaders h text rooms_for_all text_whole

-- ---- as many bytes as question 1 allows, and one more

abbrev decisive : ℕ
decisive = suc max_bytes

abbrev pub front : List ℕ → List ℕ
front text = take decisive text

pub too_long : (h : House) (text : List ℕ) → max_bytes < length text → first_no (text_questions h text) ≡ no 1 0
too_long h text long = no_here (leb (length text) max_bytes) 1 0 _ (lt-leb (length text) max_bytes long)

pub front_short : (text : List ℕ) → length text ≤ max_bytes → front text ≡ text
front_short text short = take_all decisive text (omega (arith, short))

-- they are all of a text, or as it is too many
pub front_either : (text : List ℕ) → (front text ≡ text) ⊎ ((max_bytes < length (front text)) × (max_bytes < length text))
front_either text = go (leb (length text) max_bytes) refl
  where
    go : (b : Bool) → leb (length text) max_bytes ≡ b → (front text ≡ text) ⊎ ((max_bytes < length (front text)) × (max_bytes < length text))
    go true e = inl (front_short text (leb-true (length text) max_bytes e))
    go false e =
        let long = leb-false (length text) max_bytes e in
        inr (omega (arith, length-take-le decisive text (omega (arith, long))), long)
