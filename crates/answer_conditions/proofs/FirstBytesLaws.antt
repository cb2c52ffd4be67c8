-- As many bytes as question 1 allows and one more decide the answer, so that the rest of a text need not be read.
-- Key idea: a text that passes question 1 is its own front; of a longer one the front fails it too, and it is the first question.
use Rattle.std.specs.Prelude.{◌≡◌, refl, ◌↔◌, Bool, true, false, List, ℕ, suc, ◌<◌, leb, length, take}
use Rattle.std.proofs.Common.{sym, subst, arith, take_all, length-take-le, leb-true, leb-false}
use Rattle.forms.specs.declared.House.{House}
use Rattle.sheet.specs.Sizes.{max_bytes}
use Rattle.read_questions.specs.Reading.{sheet_in}
use Rattle.read_whole.specs.WholeLaws.{too_long}
use Rattle.print_bytes.specs.Writing.{refused_line}
use Rattle.wave_words.specs.declared.Query.{Query}
use Rattle.answer_conditions.specs.Answer.{ByReading, AnswerTo}

refused_by_1 : (h : House) (query : Query) (input bytes : List ℕ) → max_bytes < length input → AnswerTo h query input bytes ↔ (bytes ≡ refused_line 1 0)
refused_by_1 h query input bytes long = (
  subst (λ v. ByReading query v (sheet_in h input) bytes) (too_long h input long),
  subst (λ v. ByReading query v (sheet_in h input) bytes) (sym (too_long h input long)),
)

pub first_bytes_decide : (h : House) (query : Query) (input bytes : List ℕ) → AnswerTo h query (take (suc max_bytes) input) bytes ↔ AnswerTo h query input bytes
first_bytes_decide h query input bytes = go (leb (length input) max_bytes) refl
  where
    front : List ℕ
    front = take (suc max_bytes) input

    go : (b : Bool) → leb (length input) max_bytes ≡ b → AnswerTo h query front bytes ↔ AnswerTo h query input bytes
    go true e =
        let whole = take_all (suc max_bytes) input (omega (arith, leb-true (length input) max_bytes e)) in
        (subst (λ t. AnswerTo h query t bytes) whole, subst (λ t. AnswerTo h query t bytes) (sym whole))
    go false e =
        let long = leb-false (length input) max_bytes e in
        let cut = length-take-le (suc max_bytes) input (omega (arith, long)) in
        let a = refused_by_1 h query front bytes (omega (arith, cut)) in
        let b = refused_by_1 h query input bytes long in
        (λ x. b.1 (a.0 x), λ x. a.1 (b.0 x))
