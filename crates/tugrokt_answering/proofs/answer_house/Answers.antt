-- The answer is the front of an array of the call's own, which no answer outgrows. Where the page holds it, it is written; else nothing is.
use Rattle.std.proofs.Common.{ℕ, ◌≤◌, ◌≡◌, List, length, take, sym, ap, ◌∙◌, arith}
use Rattle.std.proofs.Math.ListN.{length-replicate}
use lib.Seq.{length-take-le}
use Rattle.pages.specs.Page.{max_page}
use Rattle.print_bytes.proofs.WritingLaws.{own_part, own_size, own_long}
use Rattle.answer_conditions.proofs.AnswerConditions.{answer_short}
use Rattle.questions.specs.declared.Refusal.{Refusal}
use Rattle.write.specs.Writing.{refused}
use Rattle.write.proofs.WritingLaws.{room, held, not_held}
use Rattle.tugrokt_replies.specs.Numbers.{writing_of}
use Rattle.tugrokt_answering.proofs.answer_house.Goals.{After-answer-length}
use Rattle.tugrokt_answering.proofs.answer_house.Goals as goal

-- the answer is the front of that array
module _ (c : After-answer-length) where
  abbrev bytes : List ℕ
  bytes = c.answer-length.ensures.bytes

  short : length bytes ≤ max_page
  short = omega (arith, c.answer-length.ensures.written.moved, answer_short _ _ _ _ _ _ c.answer-length.ensures (length-replicate {A = ℕ} max_page 0))

  part : take c.answer-length.result c.answer-length.new.page ≡ bytes
  part = own_part max_page short c.answer-length.ensures.written

  long : c.answer-length.result ≤ length c.answer-length.new.page
  long = own_long max_page short c.answer-length.ensures.written

  size : c.answer-length.result ≡ length bytes
  size = own_size max_page short c.answer-length.ensures.written

pub slice_bounds-bytes-end : goal.slice_bounds-bytes-end
slice_bounds-bytes-end c = long (goal.at.slice_bounds-bytes-end c).After-answer-length

pub slice_bounds-write-end : goal.slice_bounds-write-end
slice_bounds-write-end c = sym (length-take-le _ _ (long (goal.at.slice_bounds-write-end c).After-answer-length))

pub write-next-requires : goal.write-next-requires
write-next-requires c =
    let o = (goal.at.write-next-requires c).After-answer-length in
    let a = c.args in
    rw (part o) (room a.page.now a.place (bytes o) _ (size o) _ c.holds.ensures c.if-holds.true)

pub returns-then-holds : goal.returns-then-holds
returns-then-holds c =
    let o = (goal.at.returns-then-holds c).After-answer-length in
    let a = c.args in
    let h = held a.page.now a.place (bytes o) _ (size o) _ c.holds.ensures c.if-holds.true _ _
    (rw (part o) at c.write-next.ensures) in
    record { bytes = bytes o; answers = c.answer-length.ensures.answers; told = c.numbers_of.ensures ∙ ap (writing_of a.place) h.0; page_left = h.1 }

pub returns-else-holds : goal.returns-else-holds
returns-else-holds c =
    let o = (goal.at.returns-else-holds c).After-answer-length in
    let a = c.args in
    let h = not_held a.page.now a.place (bytes o) _ (size o) _ c.holds.ensures c.if-holds.false in
    record {
      bytes = bytes o;
      answers = c.answer-length.ensures.answers;
      told = c.numbers_of-else-holds.ensures ∙ ap (writing_of a.place) (ap (λ (f : Refusal). refused f.number f.line) c.refused.ensures ∙ h.0);
      page_left = h.1;
    }
