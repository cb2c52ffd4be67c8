-- From what reading leaves to the answer.
-- Key idea: reading's first no decides, or the sheet at the lists' fronts is the text's.
use Rattle.std.specs.Prelude.{◌≡◌, refl, List, ℕ, ◌+◌, ◌≤◌, length, drop}
use Rattle.std.proofs.Common.{sym, ap, ◌∙◌, subst, arith, length-append}
use Rattle.sheet.specs.Sheet.{constraints, loaders}
use Rattle.sheet.specs.declared.Sheet.{Sheet as Read}
use Rattle.read_questions.specs.Reading.{ListRooms, rooms_for_all, refused, read, reading, sheet_in}
use Rattle.read_rooms.specs.Rooms.{sizes_of, rooms_after}
use Rattle.read_whole.specs.Fronts.{fronts}
use Rattle.read_whole.specs.FrontsLaws.{given_back}
use Rattle.read_whole.specs.WholeLaws.{first_no_lem, all_yes_lem, read_lists}
use Rattle.sheet.specs.Lists.{given_by}
use Rattle.forms.specs.declared.House.{House}
use Rattle.print_bytes.specs.Writing.{with_bytes, refused_line}
use Rattle.wave_words.specs.declared.Query.{Query}
use Rattle.answer_conditions.specs.Answer.{AnswerToSheet, ByReading, AnswerTo, Answered}

-- ---- what reading comes to, with rooms for every sheet
module _ (h : House) (input : List ℕ) (m : ListRooms (List ℕ)) (sizes : sizes_of m ≡ rooms_for_all) where
  pub refused_answer : (number line : ℕ) → refused number line ≡ reading h input (sizes_of m) → (query : Query)
      → AnswerTo h query input (refused_line number line)
  refused_answer number line e query =
      subst (λ v. ByReading query v (sheet_in h input) (refused_line number line)) (sym (first_no_lem h input m sizes number line e)) refl

  module _ (t : Read) (e : read t.span t.units t.rules ≡ reading h input (sizes_of m))
      (after : ListRooms (List ℕ)) (lists : after ≡ rooms_after h input m) where
    pub read_answered : (query : Query) (page left : List ℕ) (next : ℕ)
        → Answered (AnswerToSheet query (fronts t after).loader (given_by (fronts t after))) page left next → Answered (AnswerTo h query input) page left next
    read_answered query page left next a =
        let w = sheet_in h input in
        let are = read_lists h input m sizes t e after lists in
        let sheet : given_by (fronts t after) ≡ constraints w = ap given_by are ∙ given_back w in
        let numbers : (fronts t after).loader ≡ loaders w = ap (λ l. l.loader) are in
        let answer : AnswerToSheet query (loaders w) (constraints w) a.bytes =
        subst (λ k. AnswerToSheet query k (constraints w) a.bytes) numbers
        (subst (λ q. AnswerToSheet query (fronts t after).loader q a.bytes) sheet a.answers) in
        let yes = all_yes_lem h input m sizes t e after lists in
        record { bytes = a.bytes; answers = subst (λ v. ByReading query v w a.bytes) (sym yes) answer; written = a.written }

-- ---- the place just past an answer lies within the page
pub answered_inside : (Answer : List ℕ → Type 0) (page left : List ℕ) (next : ℕ) → Answered Answer page left next → next ≤ length left
unfolding with_bytes
answered_inside Answer page left next a =
    let w = a.written in
    omega (arith, w.moved, ap length w.filled, length-append a.bytes (drop (0 + length a.bytes) page))
