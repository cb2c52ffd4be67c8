-- What is promised of the line of a unit: its page is short enough, nothing is refused by 12 or 15, the first bytes of each text decide, and a loader number
-- that was capped is taken for no other.
-- Key idea: where the merge is refused, its verdict alone counts, which the first bytes decide; else both texts are short, so they are their first bytes, and
-- their loader numbers are none past the greatest.
use Rattle.std.specs.Prelude.{◌≡◌, Bool, true, false, ◌&&◌, ◌||◌, cond, List, [], ◌∷◌, ℕ, suc, ◌-◌, ◌≤◌, ◌<◌, leb, length, take, drop, Result, Ok, Err}
use Rattle.std.proofs.Math.Path.{refl, ap, ap₂}
use Rattle.std.proofs.Common.{sym, subst, ◌∙◌, ⊎_elim, arith, leb→le, length-append, length-take, leb-true, leb-false}
use Rattle.std.proofs.Math.Dec.{T, eqb, eqb→eq}
use Rattle.lists.specs.Members.{left, right, member_nowhere}
use Rattle.questions.specs.Questions.{Question, ask, Verdict, no, all_yes, first_no, AllYes}
use Rattle.questions.proofs.FirstNoLaws.{first_then, first_passes}
use Rattle.sheet.specs.Sizes.{max_bytes, max_loader}
use Rattle.sheet.specs.Sheet.{loaders}
use Rattle.sheet.proofs.LoaderLaws.{loader_size}
use Rattle.forms.specs.Words.{line_feed}
use Rattle.forms.specs.declared.House.TheVariants.{Ours}
use Rattle.print_bytes.proofs.WritingLaws.{refused_short}
use Rattle.read_questions.specs.Reading.{sheet_in}
use Rattle.merge_read.specs.Behind.{text_questions}
use Rattle.merge_questions.specs.Merging.{merge_questions, blamed_sheet}
use Rattle.merge_laws.proofs.TextLaws.{no_of_two, front, front_short, text_loaders}
use Rattle.merge_laws.specs.Asks.{asks_merge}
use Rattle.merge_laws.proofs.Merged.{first_asked, second_asked, merge_refusals, refused_small}
use Rattle.merge_laws.proofs.Merged as merge
use Rattle.merge_lines.specs.Lines.{has_loader, questions_of_line, found_line, found_by, place_of}
use Rattle.merge_lines.specs.LinesLaws.{Inside, found_inside}
use Rattle.merge_questions.specs.declared.Blamed.{Blamed}
use Rattle.merge_lines.specs.declared.LinePlace.{LinePlace}
use Rattle.merge_lines.specs.declared.LinePlace.TheVariants.{First, Second}
use Rattle.wave_loader.specs.Named.{capped}
use Rattle.wave_line_page.specs.LinePage.{line_as_is, bytes_of, line_page, shown_by, showing}

or_left : (x y : Bool) → T x → T (x || y)
or_left true y t = t
or_left false y t = absurd t

-- ---- a refusal of the merge is one of the line, whatever the loader number
abbrev blamed_by : List ℕ → List ℕ → ℕ → ℕ → Blamed
blamed_by one two q n = record { refusal = record { number = q; line = n }; sheet = blamed_sheet one two }

refused_line_lem : (one two : List ℕ) (k q n : ℕ) → first_no (merge_questions one two) ≡ no q n
    → found_line one two k ≡ Err (blamed_by one two q n)
unfolding found_line questions_of_line
refused_line_lem one two k q n e =
    let last = ask 27 0 (has_loader one k || has_loader two k) ∷ [] in
    ap (λ v. found_by v (blamed_sheet one two) (place_of one two k)) (first_then (merge_questions one two) last (no q n) e)

-- ---- nothing is refused by 12 or 15

-- one of the merge's questions, or 27
abbrev pub asks_line : ℕ → Bool
asks_line q = asks_merge q || eqb q 27

abbrev pub Known : Result LinePlace Blamed → Type 0
Known (Err b) = T (asks_line b.refusal.number) × (b.refusal.number < 100) × (b.refusal.line ≤ max_bytes)
Known (Ok p) = Unit {0}

module _ (one two : List ℕ) (k : ℕ) where
  abbrev last : List Question
  last = ask 27 0 (has_loader one k || has_loader two k) ∷ []

  pub found_known : Known (found_line one two k)
  unfolding found_line questions_of_line
  found_known = go (first_no (questions_of_line one two k)) refl
    where
      by_last : (q n : ℕ) → first_no last ≡ no q n → T (asks_line q) × (q < 100) × (n ≤ max_bytes)
      by_last q n e =
          let is = first_passes (λ p m. eqb p 27 && eqb m 0) last tt q n e in
          let a = eqb→eq q 27 (left (eqb q 27) (eqb n 0) is) in
          let b = eqb→eq n 0 (right (eqb q 27) (eqb n 0) is) in
          (subst (λ p. T (asks_line p)) (sym a) tt, omega (arith, a), omega (arith, b))

      refusable : (q n : ℕ) → first_no (questions_of_line one two k) ≡ no q n → T (asks_line q) × (q < 100) × (n ≤ max_bytes)
      refusable q n e =
          ⊎_elim (λ f. let r = refused_small one two q n f in (or_left (asks_merge q) (eqb q 27) (merge_refusals one two q n f).number_known, r.0, r.1))
          (λ f. by_last q n f.1) (no_of_two (merge_questions one two) last q n e)

      go : (v : Verdict) → first_no (questions_of_line one two k) ≡ v → Known (found_by v (blamed_sheet one two) (place_of one two k))
      go (no q n) e = refusable q n e
      go all_yes e = tt

  pub never_12 : (n s : ℕ) → found_line one two k ≡ Err (record { refusal = record { number = 12; line = n }; sheet = s }) → ⊥
  never_12 n s e = (subst Known e found_known).0

  pub never_15 : (n s : ℕ) → found_line one two k ≡ Err (record { refusal = record { number = 15; line = n }; sheet = s }) → ⊥
  never_15 n s e = (subst Known e found_known).0

-- ---- What is written is no longer than the page.

pub line_short : (text : List ℕ) (a e : ℕ) → e ≤ length text → length text ≤ suc max_bytes → length (line_as_is text a e) ≤ suc (suc max_bytes)
line_short text a e h short =
    omega (arith, length-append (take (e - a) (drop a text)) (line_feed ∷ []), length-take (e - a) (drop a text))

pub page_short : (one two : List ℕ) (k : ℕ) → length one ≤ suc max_bytes → length two ≤ suc max_bytes → length (line_page one two k) ≤ suc (suc max_bytes)
page_short one two k h₁ h₂ = go (found_line one two k) (found_known one two k) (found_inside one two k)
  where
    go : (r : Result LinePlace Blamed) → Known r → Inside one two k r → length (bytes_of one two r) ≤ suc (suc max_bytes)
    go (Err b) w i = omega (arith, refused_short b.refusal.number b.refusal.line w.1 (omega (arith, w.2)))
    go (Ok (First a e)) w i = line_short one a e i.1 h₁
    go (Ok (Second a e)) w i = line_short two a e i.1 h₂

-- ---- As many bytes of each text as question 1 allows and one more decide, so that the rest need not be read.

whole : (text : List ℕ) → AllYes (text_questions Ours text) → front text ≡ text
whole text asked = front_short text (leb→le (length text) max_bytes (left (leb (length text) max_bytes) _ asked))

pub first_bytes_decide : (one two : List ℕ) (k : ℕ) → (showing (front one) (front two) k ≡ showing one two k)
    × (line_page (front one) (front two) k ≡ line_page one two k)
first_bytes_decide one two k = let r = go (first_no (merge_questions one two)) refl in (ap₂ shown_by r.0 (ap length r.1), r.1)
  where
    go : (v : Verdict) → first_no (merge_questions one two) ≡ v
        → (found_line (front one) (front two) k ≡ found_line one two k) × (line_page (front one) (front two) k ≡ line_page one two k)
    go (no q n) e =
        let same = merge.first_bytes_decide one two in
        let cut = refused_line_lem (front one) (front two) k q n (same.0 ∙ e) in
        let all = refused_line_lem one two k q n e in (
          cut ∙ ap (λ (s : ℕ). Err (record { refusal = record { number = q; line = n }; sheet = s })) same.1 ∙ sym all,
          ap (bytes_of (front one) (front two)) cut ∙ sym (ap (bytes_of one two) all),
        )
    go all_yes e =
        let a = whole one (first_asked one two e) in
        let b = whole two (second_asked one two e) in
        (ap₂ (λ s t. found_line s t k) a b, ap₂ (λ s t. line_page s t k) a b)

-- ---- A loader number that was capped is taken for no other: a number past the greatest is in neither sheet.

none_past : (text : List ℕ) → AllYes (text_questions Ours text) → (k : ℕ) → max_loader < k → has_loader text k ≡ false
none_past text asked k h =
    let ks = loaders (sheet_in Ours text) in
    member_nowhere k ks (λ i l e. omega (arith, e, (loader_size ks (text_loaders Ours text asked) i l).1))

module _ (one two : List ℕ) where
  past_line_lem : (k : ℕ) → max_loader < k → first_no (merge_questions one two) ≡ all_yes
      → found_line one two k ≡ Err (blamed_by one two 27 0)
  unfolding found_line questions_of_line first_no
  past_line_lem k h e =
      let a = none_past one (first_asked one two e) k h in
      let b = none_past two (second_asked one two e) k h in
      ap (λ v. found_by v (blamed_sheet one two) (place_of one two k))
      (first_then (merge_questions one two) (last one two k) all_yes e ∙ ap₂ (λ x y. first_no (ask 27 0 (x || y) ∷ [])) a b)

  pub capped_line : (v : ℕ) → found_line one two (capped v) ≡ found_line one two v
  capped_line v = go (leb v max_loader) refl
    where
      past : (w : Verdict) → first_no (merge_questions one two) ≡ w → max_loader < v → found_line one two (capped v) ≡ found_line one two v
      past (no q n) e h = refused_line_lem one two (capped v) q n e ∙ sym (refused_line_lem one two v q n e)
      past all_yes e h = past_line_lem (capped v) (omega arith) e ∙ sym (past_line_lem v h e)

      go : (b : Bool) → leb v max_loader ≡ b → found_line one two (capped v) ≡ found_line one two v
      go true e = let h = leb-true v max_loader e in let same : capped v ≡ v = omega (arith, h) in ap (found_line one two) same
      go false e = past (first_no (merge_questions one two)) refl (leb-false v max_loader e)
