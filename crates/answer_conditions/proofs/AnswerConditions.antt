-- The user's three conditions, of the answer to what is asked of a text of either house, in the words of lawful plans and of the page's own lines, all of them.
-- `call` is what the entry `answer` ensures of every call: `Answered (AnswerTo h query input)`, in Answer.antt, and `size` is its page's type. `page` and
-- `left` are the page before and after, `next` the place in the reply; `answer_on left 0 next` are the answer's lines, read back from the page's bytes.
-- Key idea: reading's first no decides, or the pass over the sheet's limits does, and what the page then says is known line by line.
use Rattle.std.specs.Prelude.{◌≡◌, refl, ◌↔◌, true, List, [], ◌∷◌, ℕ, ◌≤◌, T, length}
use Rattle.std.proofs.Common.{sym, ap, ◌∙◌, subst, arith}
use Rattle.std.proofs.lemmas.List.{length-map}
use Rattle.forms.specs.declared.House.{House}
use Rattle.network.specs.Network.{Weights}
use Rattle.network.specs.Table.{entry}
use Rattle.network_pass.specs.Pass.{Passed, finished, stopped}
use Rattle.sheet.specs.Sheet.{Sheet, WrittenSheet, constraints, loaders, lawful, boundaries, printed_plan}
use Rattle.sheet.proofs.QuestionLaws.{accepted_valid}
use Rattle.read_questions.specs.Reading.{questions, rooms_for_all, sheet_in}
use Rattle.questions.specs.Questions.{Verdict, no, all_yes, first_no}
use Rattle.read_questions.proofs.AcceptedLaws.{reading_accepts, reading_loaders}
use Rattle.read_questions.proofs.RefusalLaws.{asks_text, reading_refusals}
use Rattle.plan_ask.specs.Questions.{refusal_by}
use Rattle.plan_ask.proofs.SolvableLaws.{yes_asked}
use Rattle.plan_steps.specs.Closing.{passed}
use Rattle.plan_steps.specs.PassedLaws.{passed_solved}
use Rattle.pages.specs.Page.{max_page}
use Rattle.pages.proofs.PageBounds.{plan_short, fits_short, none_short}
use Rattle.pages.specs.PageLines.{Said, refused, read_lines, answer_on}
use Rattle.pages.proofs.PageLinesLaws.{refused_read, answer_read}
use Rattle.pages.specs.SheetPages.{plan_bytes, fits_bytes, ring_bytes}
use Rattle.pages.specs.Pages.{PlanPage, FitsPage, NonePage}
use Rattle.pages.proofs.PagesLaws.{plan_page_lem, fits_page_lem, none_page_lem}
use Rattle.wave_words.specs.declared.Query.{Query}
use Rattle.wave_words.specs.declared.Query.TheVariants.{Plan, Fits}
use Rattle.answer_conditions.specs.Answer.{page_of, ByPass, ByReading, AnswerTo, Answered, verdict}
use Rattle.print_bytes.proofs.WritingLaws.{refused_short}
use Rattle.read_whole.specs.FrontsLaws.{lists_of, passes_back}
use Rattle.read_whole.specs.WholeLaws.{two_digits}
use Rattle.sheet.specs.Solved.{Solved}

-- What reading accepts, planning accepts: of the lists of a text that is not refused no question is answered no, 16 included, and rooms that are long enough
-- are all that is left to ask.
pub planning_accepts : (h : House) (input : List ℕ) → verdict h input ≡ all_yes → refusal_by (lists_of (sheet_in h input)) true ≡ all_yes
planning_accepts h input e =
    let w = sheet_in h input in
    yes_asked (lists_of w) true (passes_back w (reading_accepts h input rooms_for_all e) (reading_loaders h input rooms_for_all e)) tt

-- ---- no answer is longer than the page that the program lends
bytes_short : (h : House) (query : Query) (input bytes : List ℕ) → AnswerTo h query input bytes → length bytes ≤ max_page
unfolding plan_bytes fits_bytes ring_bytes
bytes_short h query input bytes = by_reading (verdict h input) refl
  where
    w : WrittenSheet
    w = sheet_in h input

    by_query : (q : Query) → verdict h input ≡ all_yes → length (page_of q (loaders w) (constraints w)) ≤ max_page
    by_query Plan e = plan_short (constraints w) (reading_accepts h input rooms_for_all e) (loaders w) (reading_loaders h input rooms_for_all e)
    by_query Fits e = fits_short (constraints w) (reading_accepts h input rooms_for_all e)

    by_pass_lem : (p : Passed) → verdict h input ≡ all_yes → ByPass query p (loaders w) (constraints w) bytes → length bytes ≤ max_page
    by_pass_lem (finished t) e a = omega (arith, ap length a, by_query query e)
    by_pass_lem stopped e a = omega (arith, ap length a.2, none_short (constraints w) (reading_accepts h input rooms_for_all e) a.0 a.1)

    by_reading : (v : Verdict) → verdict h input ≡ v → ByReading query v w bytes → length bytes ≤ max_page
    by_reading (no n l) e a =
        let r = reading_refusals h input n l e in
        omega (arith, ap length a, refused_short n l (two_digits n r.number_known) (omega (arith, r.line_known)))
    by_reading all_yes e a = by_pass_lem (passed (constraints w)) e a

module _ (h : House) (query : Query) (input page left : List ℕ) (next : ℕ) (call : Answered (AnswerTo h query input) page left next)
    (size : length page ≡ max_page) where
  abbrev pub w : WrittenSheet
  w = sheet_in h input

  abbrev pub ks : List ℕ
  ks = loaders w

  abbrev pub s : Sheet
  s = constraints w

  abbrev pub lines : List Said
  lines = answer_on left 0 next

  lines_are : read_lines call.bytes ≡ lines
  lines_are = let short = bytes_short h query input call.bytes call.answers in sym (answer_read (record { fits = omega (arith, size) }) call.written)

  -- ---- 1. Ground. (That a call ends and does nothing undefined is what the checker asks of every function; `answer` has no `requires`.)

  -- A text that reading refuses has the page of that refusal, one line with the first no's number and line.
  pub page_of_a_refusal : (q n : ℕ) → verdict h input ≡ no q n → lines ≡ refused q n ∷ []
  page_of_a_refusal q n e = sym lines_are ∙ ap read_lines (subst (λ v. ByReading query v w call.bytes) e call.answers) ∙ refused_read q n

  -- No answer is longer than the page that the program lends.
  pub answer_short : next ≤ max_page
  answer_short = omega (arith, call.written.moved, bytes_short h query input call.bytes call.answers)

  -- ---- how a text that is not refused is answered: by what was asked of a sheet that fits, or by a ring
  abbrev pub FitPage : Query → Type 0
  FitPage Plan = PlanPage ks s (printed_plan s) lines
  FitPage Fits = FitsPage s lines

  data Way : Type 0 where
    fits : FitPage query → Way
    none : (ring : List ℕ) → NonePage s ring lines → Way

  module _ (all_yes_lem : verdict h input ≡ all_yes) where
    fit_page : (D : Weights) → Solved s D → (q : Query) → read_lines (page_of q ks s) ≡ lines → FitPage q
    fit_page D solved Plan e =
        subst (PlanPage ks s (printed_plan s)) e
        (plan_page_lem ks s D solved
        (reading_loaders h input rooms_for_all all_yes_lem) (length-map w.units (λ u. u.loader) ∙ sym (length-map w.units (λ u. u.window))))
    fit_page D solved Fits e = subst (FitsPage s) e (fits_page_lem s D solved)

    way : Way
    way = go (passed s) refl (subst (λ v. ByReading query v w call.bytes) all_yes_lem call.answers)
      where
        go : (p : Passed) → passed s ≡ p → ByPass query p ks s call.bytes → Way
        go (finished t) f b =
            let solved = passed_solved s (accepted_valid s (reading_accepts h input rooms_for_all all_yes_lem)) t f in
            fits (fit_page (entry (boundaries s) t) solved query (ap read_lines (sym b) ∙ lines_are))
        go stopped f b = none b.0 (subst (NonePage s b.0) (ap read_lines (sym b.2) ∙ lines_are) (none_page_lem s b.0 b.1))

  -- No text is refused by 12, and none by 15: a refusal is by a question that is asked of every text.
  never : (q n : ℕ) → lines ≡ refused q n ∷ [] → (T (asks_text q) → ⊥) → ⊥
  never q n f other = by_reading (verdict h input) refl
    where
      by_query : (k : Query) → FitPage k → ⊥
      by_query Plan p = let e = p.lines in let z : ◌≡◌ {A = ℕ} 0 1 = cc in omega arith
      by_query Fits p = let e = p.lines in let z : ◌≡◌ {A = ℕ} 0 1 = cc in omega arith

      by_way : Way → ⊥
      by_way (fits p) = by_query query p
      by_way (none ring p) = let e = p.lines in let z : ◌≡◌ {A = ℕ} 0 1 = cc in omega arith

      by_reading : (v : Verdict) → verdict h input ≡ v → ⊥
      by_reading (no k l) e =
          let g = page_of_a_refusal k l e in
          let same : k ≡ q = cc in
          other (subst (λ i. T (asks_text i)) same (reading_refusals h input k l e).number_known)
      by_reading all_yes e = by_way (way e)

  pub never_12 : (n : ℕ) → lines ≡ refused 12 n ∷ [] → ⊥
  never_12 n f = never 12 n f (λ t. t)

  pub never_15 : (n : ℕ) → lines ≡ refused 15 n ∷ [] → ⊥
  never_15 n f = never 15 n f (λ t. t)

  -- ---- 2 and 3. A text that is not refused
  module _ (all_yes_lem : verdict h input ≡ all_yes) where
    -- gets what was asked of a sheet that fits where some assignment meets all windows and all rules of the sheet in the text,
    pub page_if_lawful : (x : List ℕ) → T (lawful s x) → FitPage query
    page_if_lawful x l = go (way all_yes_lem)
      where
        go : Way → FitPage query
        go (fits p) = p
        go (none ring p) = absurd (p.unlawful x l)

    -- else the page of a ring of the sheet's own limits, whole.
    pub ring_otherwise : ((x : List ℕ) → T (lawful s x) → ⊥) → (ring : List ℕ) × NonePage s ring lines
    ring_otherwise unlawful = go (way all_yes_lem)
      where
        by_query : (k : Query) → FitPage k → ⊥
        by_query Plan p = unlawful (printed_plan s) p.legal
        by_query Fits p = unlawful p.some.0 p.some.1

        go : Way → (ring : List ℕ) × NonePage s ring lines
        go (fits p) = absurd (by_query query p)
        go (none ring p) = (ring, p)

-- Asked for a plan, it gets the page of one exactly when some assignment meets all windows and all rules of the sheet in the text. What the page says, whole,
-- is `PlanPage`: the plan is lawful, has the seat property, and by the end of each slot, and of the carried place, no lawful plan has more; which units are
-- carried; each narrowed window and each slot's range.
pub plan_exactly_when_lawful : (h : House) (input page left : List ℕ) (next : ℕ) → Answered (AnswerTo h Plan input) page left next → length page ≡ max_page
    → verdict h input ≡ all_yes → let w = sheet_in h input in
    ((x : List ℕ) × PlanPage (loaders w) (constraints w) x (answer_on left 0 next)) ↔ ((x : List ℕ) × T (lawful (constraints w) x))
plan_exactly_when_lawful h input page left next call size all_yes_lem =
    (λ p. (p.0, p.1.legal), λ x. (printed_plan (constraints (sheet_in h input)), page_if_lawful h Plan input page left next call size all_yes_lem x.0 x.1))

-- Asked only whether it fits, it gets the page that says so exactly then. What that page says, whole, is `FitsPage`: the number of the sheet's units and each
-- slot's range.
pub fits_exactly_when_lawful : (h : House) (input page left : List ℕ) (next : ℕ) → Answered (AnswerTo h Fits input) page left next → length page ≡ max_page
    → verdict h input ≡ all_yes → let s = constraints (sheet_in h input) in FitsPage s (answer_on left 0 next) ↔ ((x : List ℕ) × T (lawful s x))
fits_exactly_when_lawful h input page left next call size all_yes_lem =
    (λ p. p.some, λ x. page_if_lawful h Fits input page left next call size all_yes_lem x.0 x.1)
