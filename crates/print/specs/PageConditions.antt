-- The user's three conditions, of printing from lists, in the words of lawful plans, of the rooms and of the page's own lines, all of them.
-- `call` is what the entry `print` ensures of every call: `Printing`, in Printing.antt of print_answer. `reply` is what its answer says (`reply_of`, in
-- Reply.antt there), `before` and `after` are the rooms lent, `page` and `left` the page before and after, `at` the running place, `s` the sheet in the
-- lists and `ks` its loader numbers.
use Rattle.std.proofs.Math.Path.{◌≡◌, refl}
use Rattle.std.proofs.Common.{sym, ap, ◌∙◌, subst, inl, inr, ⊎_elim, arith}
use Rattle.std.specs.Prelude.{◌⊎◌, ◌↔◌, Bool, T, take}
use Rattle.std.proofs.Math.Bool.{true, false}
use mathlib.Core.List.{List}
use Prim.Native.Nat.{ℕ, ◌+◌, ◌≤◌}
use Rattle.std.proofs.Math.ListN.{length}
use borrow.Author.Tests.{leb-true, le-leb}
use Rattle.network.specs.Table.{entry}
use Rattle.questions.specs.Questions.{no, all_yes}
use Rattle.sheet.specs.Sheet.{Sheet, boundaries, lawful, printed_plan}
use Rattle.sheet.specs.Lists.{WrittenLists, given_by}
use Rattle.plan_rooms.specs.Rooms.{Rooms, plan_lent, rooms_fit}
use Rattle.plan_ask.specs.Questions.{refusal}
use Rattle.plan_ask.proofs.ListedLaws.{as_many_units}
use Rattle.plan_ask.specs.Asking.{Listed}
use Rattle.plan_ask.proofs.SolvableLaws.{asked_lists}
use Rattle.plan_answers.specs.Planning.{conclusion, Settled}
use Rattle.plan_answers.specs.Reply as planning
use Rattle.plan_conditions.specs.Statements.{SomeLawful, NoneLawful, AllCounts}
use Rattle.plan_conditions.proofs.Conditions as plans
use Rattle.print_bytes.specs.Writing.{Room, Written}
use Rattle.pages.specs.Page.{max_page}
use Rattle.pages.proofs.PageBounds.{plan_short, none_short}
use Rattle.pages.specs.PageLines.{read_lines, answer_on}
use Rattle.pages.proofs.PageLinesLaws.{answer_read}
use Rattle.pages.specs.SheetPages.{plan_bytes, ring_bytes}
use Rattle.print_answer.specs.Printing.{holds, Asked, Shown, Printing}
use Rattle.pages.specs.Pages.{PlanPage, NonePage}
use Rattle.pages.proofs.PagesLaws.{plan_page_lem, none_page_lem}
use Rattle.print_answer.specs.Reply as says
use Rattle.print_answer.specs.Reply.{refusal_of}

module _ (l : WrittenLists) (before : Rooms) (page : List ℕ) (at : ℕ) (reply : says.Reply) (after : Rooms) (left : List ℕ)
    (call : Printing l before page at reply after left) where
  abbrev pub s : Sheet
  s = given_by l

  abbrev n : ℕ
  n = length s.units

  -- the units' loader numbers
  abbrev ks : List ℕ
  ks = l.loader

  -- ---- how a call ends

  -- the page holds the answer: it stands there from the place on, and the rooms are planning's
  record Held (told : ℕ → says.Reply) (bytes : List ℕ) : Type 0 where
    replied : reply ≡ told (at + length bytes)
    room : Room page at bytes
    written : Written page at bytes left (at + length bytes)
    lent : after ≡ call.planned

  -- refused by planning's questions, a plan, none, or refused by 15
  data Way : Type 0 where
    refused : (q n : ℕ) → call.answer ≡ planning.refused q n → reply ≡ says.refused q n → after ≡ call.planned → left ≡ page → Way
    plan : call.answer ≡ planning.plan → Held says.plan (plan_bytes ks s) → Way
    none : (k : ℕ) → call.answer ≡ planning.none k → Held (says.none k) (ring_bytes s (take k call.planned.ring)) → Way
    full : refusal l before ≡ all_yes → (at + max_page ≤ length page → ⊥) → reply ≡ says.refused 15 0 → after ≡ before → left ≡ page → Way

  first_no_lem : planning.refusal_of call.answer ≡ refusal l before
  first_no_lem = plans.number_is_first_no l before call.answer call.planned call.call

  -- what the lists of a call that planning's questions do not refuse are; they have a unit for each loader number
  passes : refusal l before ≡ all_yes → Listed l
  passes = asked_lists l (rooms_fit s (plan_lent before))

  as_many : refusal l before ≡ all_yes → length ks ≡ n
  as_many y = as_many_units l (passes y)

  way : Way
  unfolding plan_bytes ring_bytes
  way = go call.answer refl call.shown
    where
      asked : (told : ℕ → says.Reply) (bytes : List ℕ) → refusal l before ≡ all_yes → length bytes ≤ max_page → (Held told bytes → Way)
          → (b : Bool) → holds page at bytes ≡ b → Asked b told bytes before call.planned page at reply after left → Way
      asked told bytes e short held true h o = held (record {
        replied = o.replied;
        room = record { fits = leb-true (at + length bytes) (length page) h };
        written = record { filled = o.shown; moved = refl };
        lent = o.lent;
      })
      asked told bytes e short held false h o =
          full e (λ long. let fits = le-leb (at + length bytes) (length page) (omega arith) in let z : ◌≡◌ {A = ℕ} 0 1 = cc in omega arith)
          o.replied o.lent o.shown

      go : (a : planning.Reply) → call.answer ≡ a → Shown a ks s before call.planned page at reply after left → Way
      go (planning.refused q n) e o = refused q n e o.replied o.lent o.shown
      go planning.plan e o =
          let y = sym first_no_lem ∙ ap planning.refusal_of e in
          asked says.plan (plan_bytes ks s) y (plan_short s (passes y).sheet ks (passes y).loaders) (plan e) (holds page at (plan_bytes ks s)) refl o
      go (planning.none k) e o =
          let y = sym first_no_lem ∙ ap planning.refusal_of e in
          let ring = take k call.planned.ring in
          let closed = plans.ring_at l before call.answer call.planned call.call k e in
          asked (says.none k) (ring_bytes s ring) y (none_short s (passes y).sheet ring closed) (none k e) (holds page at (ring_bytes s ring)) refl o

  -- ---- 1. Ground. (That a call ends and does nothing undefined is what the checker asks of every function; `print` has no `requires`.)

  -- the refusal is planning's first no; or it is 15, and then the page is too short for the longest answer
  refused_so : (refusal_of reply ≡ refusal l before) ⊎ ((refusal l before ≡ all_yes) × (reply ≡ says.refused 15 0) × (at + max_page ≤ length page → ⊥))
  refused_so = go way
    where
      planned : (a : planning.Reply) → call.answer ≡ a → refusal_of reply ≡ planning.refusal_of a → refusal_of reply ≡ refusal l before
      planned a e f = f ∙ ap planning.refusal_of (sym e) ∙ first_no_lem

      go : Way → (refusal_of reply ≡ refusal l before) ⊎ ((refusal l before ≡ all_yes) × (reply ≡ says.refused 15 0) × (at + max_page ≤ length page → ⊥))
      go (refused q m a r e p) = inl (planned (planning.refused q m) a (ap refusal_of r))
      go (plan a h) = inl (planned planning.plan a (ap refusal_of h.replied))
      go (none k a h) = inl (planned (planning.none k) a (ap refusal_of h.replied))
      go (full y short r e p) = inr (y, r, short)

  -- The reply's refusal, by number and line, is planning's first no, in the order of docs/RULES.md; where that has none it is 15, or there is none.
  pub number_is_first_no : (refusal_of reply ≡ refusal l before) ⊎ ((refusal l before ≡ all_yes) × (reply ≡ says.refused 15 0))
  number_is_first_no = ⊎_elim inl (λ f. inr (f.0, f.1)) refused_so

  -- A refusal, by planning's questions or by 15, changes no byte of the page and no place lent; it has no place, so the running place stays.
  pub refused_changes_nothing : (q m : ℕ) → reply ≡ says.refused q m → (left ≡ page) × (after ≡ before)
  refused_changes_nothing q m f = go way
    where
      go : Way → (left ≡ page) × (after ≡ before)
      go (refused q' m' a r e p) =
          let first : refusal l before ≡ no q' m' = sym first_no_lem ∙ ap planning.refusal_of a in
          (p, e ∙ plans.refused_changes_nothing l before call.answer call.planned call.call q' m' first)
      go (plan a h) = let r = h.replied in let z : ◌≡◌ {A = ℕ} 0 1 = cc in absurd (omega arith)
      go (none k a h) = let r = h.replied in let z : ◌≡◌ {A = ℕ} 0 1 = cc in absurd (omega arith)
      go (full y short r e p) = (p, e)

  -- A page with maxPage places from its running place on is never refused by 15.
  pub long_page : at + max_page ≤ length page → refusal_of reply ≡ refusal l before
  long_page long = ⊎_elim (λ e. e) (λ f. absurd (f.2 long)) refused_so

  -- ---- What is printed leaves the rooms as planning does, so planning's conditions hold of them.
  pub leaves_as_planning : refusal_of reply ≡ all_yes → Settled (conclusion l before) s before (says.planning_of reply) after
  leaves_as_planning answered = go way
    where
      left_so : (a : planning.Reply) → call.answer ≡ a → a ≡ says.planning_of reply → after ≡ call.planned
          → Settled (conclusion l before) s before (says.planning_of reply) after
      left_so a e f rooms =
          subst (λ r. Settled (conclusion l before) s before (says.planning_of reply) r) (sym rooms)
          (subst (λ r. Settled (conclusion l before) s before r call.planned) (e ∙ f) call.call)

      go : Way → Settled (conclusion l before) s before (says.planning_of reply) after
      go (refused q m a r e p) = let z : ◌≡◌ {A = ℕ} 0 1 = cc in absurd (omega arith)
      go (plan a h) = left_so planning.plan a (ap says.planning_of (sym h.replied)) h.lent
      go (none k a h) = left_so (planning.none k) a (ap says.planning_of (sym h.replied)) h.lent
      go (full y short r e p) = let z : ◌≡◌ {A = ℕ} 0 1 = cc in absurd (omega arith)

  -- ---- 2. Plan or ring, on the page. `answer_on left at next` are the answer's lines, read back from its bytes, from the place at entry to the place in
  -- the reply.

  -- A printed plan: its page, whole. Its slots are the plan in the lent room.
  pub page_of_a_plan : (next : ℕ) → reply ≡ says.plan next → PlanPage ks s (take n after.plan) (answer_on left at next)
  page_of_a_plan next f = go way
    where
      go : Way → PlanPage ks s (take n after.plan) (answer_on left at next)
      go (refused q m a r e p) = let z : ◌≡◌ {A = ℕ} 0 1 = cc in absurd (omega arith)
      go (plan a h) =
          let r : reply ≡ says.plan (at + length (plan_bytes ks s)) = h.replied in
          let place : at + length (plan_bytes ks s) ≡ next = cc in
          let y = sym first_no_lem ∙ ap planning.refusal_of a in
          let P = plans.call_planned l before call.answer call.planned call.call a in
          let slots : printed_plan s ≡ take n after.plan =
          sym (ap (λ (q : Rooms). take n q.plan) h.lent ∙ plans.plan_at l before call.answer call.planned call.call a) in
          let lines : read_lines (plan_bytes ks s) ≡ answer_on left at next = sym (ap (answer_on left at) (sym place) ∙ answer_read h.room h.written) in
          subst (λ x. PlanPage ks s x (answer_on left at next)) slots
          (subst (PlanPage ks s (printed_plan s)) lines (plan_page_lem ks s (entry (boundaries s) P.table) P.solved
          (passes y).loaders (as_many y)))
      go (none k a h) = let r = h.replied in let z : ◌≡◌ {A = ℕ} 0 1 = cc in absurd (omega arith)
      go (full y short r e p) = let z : ◌≡◌ {A = ℕ} 0 1 = cc in absurd (omega arith)

  -- None: the page of the ring that stands in its room, whole.
  pub page_of_a_ring : (k next : ℕ) → reply ≡ says.none k next → NonePage s (take k after.ring) (answer_on left at next)
  page_of_a_ring k next f = go way
    where
      go : Way → NonePage s (take k after.ring) (answer_on left at next)
      go (refused q m a r e p) = let z : ◌≡◌ {A = ℕ} 0 1 = cc in absurd (omega arith)
      go (plan a h) = let r = h.replied in let z : ◌≡◌ {A = ℕ} 0 1 = cc in absurd (omega arith)
      go (none j a h) =
          let found = take j call.planned.ring in
          let r : reply ≡ says.none j (at + length (ring_bytes s found)) = h.replied in
          let place : at + length (ring_bytes s found) ≡ next = cc in
          let steps : j ≡ k = cc in
          let ring : found ≡ take k after.ring = ap (λ i. take i call.planned.ring) steps ∙ sym (ap (λ (q : Rooms). take k q.ring) h.lent) in
          let lines : read_lines (ring_bytes s found) ≡ answer_on left at next = sym (ap (answer_on left at) (sym place) ∙ answer_read h.room h.written) in
          subst (λ c. NonePage s c (answer_on left at next)) ring
          (subst (NonePage s found) lines (none_page_lem s found (plans.ring_at l before call.answer call.planned call.call j a)))
      go (full y short r e p) = let z : ◌≡◌ {A = ℕ} 0 1 = cc in absurd (omega arith)

  -- A sheet that is not refused gets the page of a plan exactly when some assignment meets all windows and all rules;
  pub plan_exactly_when_lawful : refusal_of reply ≡ all_yes
      → ((next : ℕ) × (reply ≡ says.plan next) × PlanPage ks s (take n after.plan) (answer_on left at next)) ↔ SomeLawful s
  plan_exactly_when_lawful answered = (λ p. (take n after.plan, p.2.legal), λ x. go x.0 x.1 way)
    where
      go : (x : List ℕ) → T (lawful s x) → Way → (next : ℕ) × (reply ≡ says.plan next) × PlanPage ks s (take n after.plan) (answer_on left at next)
      go x h (refused q m a r e p) = let z : ◌≡◌ {A = ℕ} 0 1 = cc in absurd (omega arith)
      go x h (plan a w) = (at + length (plan_bytes ks s), w.replied, page_of_a_plan (at + length (plan_bytes ks s)) w.replied)
      go x h (none k a w) = absurd ((page_of_a_ring k _ w.replied).unlawful x h)
      go x h (full y short r e p) = let z : ◌≡◌ {A = ℕ} 0 1 = cc in absurd (omega arith)

  -- else the page of a ring of the sheet's own limits.
  pub ring_otherwise : refusal_of reply ≡ all_yes → NoneLawful s
      → (k next : ℕ) × (reply ≡ says.none k next) × NonePage s (take k after.ring) (answer_on left at next)
  ring_otherwise answered unlawful = go way
    where
      go : Way → (k next : ℕ) × (reply ≡ says.none k next) × NonePage s (take k after.ring) (answer_on left at next)
      go (refused q m a r e p) = let z : ◌≡◌ {A = ℕ} 0 1 = cc in absurd (omega arith)
      go (plan a w) = let p = page_of_a_plan _ w.replied in absurd (unlawful _ p.legal)
      go (none k a w) = (k, _, w.replied, page_of_a_ring k _ w.replied)
      go (full y short r e p) = let z : ◌≡◌ {A = ℕ} 0 1 = cc in absurd (omega arith)

  -- ---- 3. Counts. For every stretch, of slots or up to the carried place, a whole number is the count of some lawful plan exactly when it is from the least
  -- to the greatest, read off the table as printing leaves it. (The slot lines and the printed plan: `page_of_a_plan`.)
  pub counts : (next : ℕ) → reply ≡ says.plan next → AllCounts s after.table
  counts next f =
      plans.counts l before (says.planning_of reply) after (leaves_as_planning (ap refusal_of f)) (ap says.planning_of f)
