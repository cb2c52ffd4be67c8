-- The buffer has a place more than the longest text that is read, and so many bytes decide.
use mathlib.Core.Path.{◌≡◌, sym, subst}
use mathlib.Core.List.{List}
use Prim.Native.Nat.{ℕ, suc}
use lib.ListN.{take}
use lib.Seq.{length-take-le}
use Rattle.sheet.specs.Sizes.{max_bytes}
use Rattle.forms.specs.declared.House.{House}
use Rattle.wave_words.specs.declared.Query.{Query}
use Rattle.answer_conditions.specs.Answer.{AnswerTo, Answered}
use Rattle.answer_conditions.proofs.AnswerLaws.{answered_inside}
use Rattle.answer_conditions.proofs.FirstBytesLaws.{first_bytes_decide}
use Rattle.wave_inputs.specs.Input.{InputAnswered}
use Rattle.wave_inputs.proofs.answer_input.Goals as goal

-- an answer to the front is one to the input
module _ (h : House) (query : Query) (places : ℕ) (front page left : List ℕ) (next : ℕ) where
  front_answers : places ≡ suc max_bytes → Answered (AnswerTo h query front) page left next → InputAnswered h query places front page left next
  front_answers p a input e =
      let cut : take (suc max_bytes) input ≡ front = subst (λ k. take k input ≡ front) p e in
      let answers = (first_bytes_decide h query input a.bytes).0 (subst (λ t. AnswerTo h query t a.bytes) (sym cut) a.answers) in
      record { bytes = a.bytes; answers = answers; written = a.written }

pub slice_bounds-answer-end : goal.slice_bounds-answer-end
slice_bounds-answer-end c = sym (length-take-le _ _ c.requires.1)

pub returns : goal.returns
returns c =
    record {
      fact = front_answers _ _ _ _ _ _ _ c.requires.0 c.answer.ensures;
      upper_bound = answered_inside _ _ _ _ c.answer.ensures;
    }
