-- From what the code does to what converting is to answer and leave.
-- Key idea: reading's refusal is the call's; else the lists hold the text's sheet, and what the other house asks of it decides.
use Rattle.std.specs.Prelude.{◌≡◌, Bool, true, false, ◌&&◌, cond, List, [], ◌∷◌, map, ℕ, suc, ◌+◌, ◌≤◌, ◌<◌, T, leb, eqb, length}
use Rattle.std.proofs.Common.{sym, ap, ap₂, ◌∙◌, arith, leb→le, le→leb}
use Rattle.std.proofs.lemmas.List.{length-map}
use Rattle.lists.specs.Lists.{within, every}
use Rattle.lists.specs.Members.{both, left, right, within_iff}
use Rattle.questions.specs.Questions.{Verdict, no, all_yes, first_no, and_then}
use Rattle.questions.proofs.FirstNoLaws.{first_then, first_passes}
use Rattle.forms.specs.declared.House.{House}
use Rattle.forms.specs.declared.House.TheVariants.{Ours, Partner}
use Rattle.sheet.specs.Sizes.{max_bytes}
use Rattle.sheet.specs.Sheet.{Sheet, constraints}
use Rattle.sheet.specs.declared.Sheet.{Sheet as Read}
use Rattle.sheet.specs.Questions.{accepted}
use Rattle.sheet.proofs.QuestionLaws.{accepted_sized}
use Rattle.sheet.specs.Lists.{WrittenLists, given_by, written_by}
use Rattle.plan_ask.specs.Asking.{Listed}
use Rattle.plan_ask.proofs.AskingLaws.{lists_read}
use Rattle.sheet_texts.specs.SheetText.{sheet_text}
use Rattle.write_ask.specs.HouseQuestions.{fault_from, first_at_fault, end_questions, house_questions}
use Rattle.write_ask.proofs.HouseQuestionsLaws.{asks_lists}
use Rattle.print_bytes.specs.Writing.{refused_line}
use Rattle.read_questions.specs.Reading.{ListRooms, rooms_for_all, questions, refused, read, reading, sheet_in}
use Rattle.read_rooms.specs.Rooms.{sizes_of, rooms_after}
use Rattle.read_whole.specs.Fronts.{fronts}
use Rattle.read_whole.specs.FrontsLaws.{given_back, written_back}
use Rattle.read_whole.specs.WholeLaws.{first_no_lem, all_yes_lem, read_lists}
use Rattle.write_fronts.specs.Outcome.{bytes_by, reply_by}
use Rattle.convert_lists.specs.Converting.{refusal, converted, converting}

-- ---- what a house refuses: 17 or 18, at a place of its list

fault_within : {A : Type 0} (t : A → Bool) (i : ℕ) (xs : List A) → fault_from t (suc i) xs ≤ i + length xs
fault_within t i [] = omega arith
fault_within t i (x ∷ xs) = go (t x) (fault_within t (suc i) xs)
  where
    go : (b : Bool) → fault_from t (suc (suc i)) xs ≤ suc i + length xs → cond b (fault_from t (suc (suc i)) xs) (suc i) ≤ i + suc (length xs)
    go true h = omega arith
    go false h = omega arith

abbrev pub asks_house : ℕ → Bool
asks_house q = within 17 18 q

-- a refusal that a house may come to
pub record HouseRefusal (question line : ℕ) : Type 0 where
  pub number_known : T (asks_house question)
  pub line_known : line ≤ max_bytes

abbrev known : ℕ → ℕ → Bool
known q n = asks_house q && leb n max_bytes

few_places : {A B : Type 0} (t : B → Bool) (f : A → B) (xs : List A) → length xs ≤ max_bytes → T (leb (first_at_fault t (map f xs)) max_bytes)
few_places t f xs few = le→leb (first_at_fault t (map f xs)) max_bytes (omega (arith, fault_within t 0 (map f xs), length-map xs f))

house_known : (h : House) (s : Sheet) → T (accepted s) → T (every (λ q. known q.number q.line) (house_questions h s))
house_known Ours s ok = tt
house_known Partner s ok =
    let sized = accepted_sized s ok in
    let lasts = first_at_fault (λ t. leb t s.span) (map (λ w. w.last) s.units) in
    let lows = first_at_fault (λ k. eqb k 0) (map (λ r. r.low) s.rules) in
    both (leb lasts max_bytes) _ (few_places (λ t. leb t s.span) (λ w. w.last) s.units (omega (arith, sized.units)))
    (both (leb lows max_bytes) true (few_places (λ k. eqb k 0) (λ r. r.low) s.rules (omega (arith, sized.rules))) tt)

pub house_refusals : (h : House) (s : Sheet) → T (accepted s) → (q n : ℕ) → first_no (house_questions h s) ≡ no q n → HouseRefusal q n
house_refusals h s ok q n e =
    let k = first_passes known (house_questions h s) (house_known h s ok) q n e in
    record { number_known = left (asks_house q) (leb n max_bytes) k; line_known = leb→le n max_bytes (right (asks_house q) (leb n max_bytes) k) }

-- ---- a sheet in lists, and what the code was told of the house's questions

module _ (h : House) (l : WrittenLists) (y : Listed l) (told : Verdict)
    (is : told ≡ first_no (end_questions h l.constraints.span l.constraints.last l.constraints.low)) where
  verdict_is : (v : Verdict) → told ≡ v → first_no (house_questions h (given_by l)) ≡ v
  verdict_is v e = ap first_no (asks_lists h l.constraints (lists_read l.constraints y.lists)) ∙ sym is ∙ e

  pub house_small : (q n : ℕ) → told ≡ no q n → (q < 100) × (n ≤ max_bytes)
  house_small q n e =
      let r = house_refusals h (given_by l) y.sheet q n (verdict_is (no q n) e) in
      (omega (arith, ((within_iff 17 18 q).0 r.number_known).1), r.line_known)

  -- what is said of a refusal, or of the text, is said of the sheet
  pub house_told : (v : Verdict) → told ≡ v → (text : List ℕ) → let w = first_no (house_questions h (given_by l)) in
      (reply_by v text ≡ reply_by w text) × (bytes_by v text ≡ bytes_by w text)
  house_told v e text =
      let is-v = sym (verdict_is v e) in
      (ap (λ (x : Verdict). reply_by x text) is-v, ap (λ (x : Verdict). bytes_by x text) is-v)

-- ---- what reading came to, with rooms for every sheet

-- reading's verdict, and then the house's
pub refusal_then : (from to : House) (input : List ℕ) (v : Verdict) → first_no (questions from input rooms_for_all) ≡ v
    → refusal from to input ≡ and_then v (first_no (house_questions to (constraints (sheet_in from input))))
unfolding refusal
refusal_then from to input = first_then (questions from input rooms_for_all) (house_questions to (constraints (sheet_in from input)))

module _ (from to : House) (input : List ℕ) (m : ListRooms (List ℕ)) (sizes : sizes_of m ≡ rooms_for_all) where
  abbrev text : List ℕ
  text = sheet_text to (sheet_in from input)

  pub refused_converted : (q n : ℕ) → refused q n ≡ reading from input (sizes_of m)
      → (reply_by (no q n) [] ≡ converting from to input) × (refused_line q n ≡ converted from to input)
  refused_converted q n e =
      let v = sym (refusal_then from to input (no q n) (first_no_lem from input m sizes q n e)) in
      (ap (λ (x : Verdict). reply_by x text) v, ap (λ (x : Verdict). bytes_by x text) v)

  module _ (t : Read) (e : read t.span t.units t.rules ≡ reading from input (sizes_of m))
      (after : ListRooms (List ℕ)) (lists : after ≡ rooms_after from input m) where
    pub read_converted : let l = fronts t after in let v = first_no (house_questions to (given_by l)) in
        (reply_by v (sheet_text to (written_by l)) ≡ converting from to input) × (bytes_by v (sheet_text to (written_by l)) ≡ converted from to input)
    read_converted =
        let w = sheet_in from input in
        let are = read_lists from input m sizes t e after lists in
        let sheet : given_by (fronts t after) ≡ constraints w = ap given_by are ∙ given_back w in
        let bytes : sheet_text to (written_by (fronts t after)) ≡ text = ap (λ l. sheet_text to (written_by l)) are ∙ ap (sheet_text to) (written_back w) in
        let v : first_no (house_questions to (given_by (fronts t after))) ≡ refusal from to input =
        ap (λ (s : Sheet). first_no (house_questions to s)) sheet ∙ sym (refusal_then from to input all_yes (all_yes_lem from input m sizes t e after lists)) in
        (ap₂ reply_by v bytes, ap₂ bytes_by v bytes)
