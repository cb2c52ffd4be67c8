-- The laws of places: the lines of a kind are those that say the sheet's units, or its rules, one by one; and where in the text each stands.
-- Key idea: a line whose questions are all answered yes has its line feed and is what its kind says, so that the lines of a kind, in order, give the units and
-- the rules in theirs (`unit_lines_lem`, `rule_lines`). A line stands behind the lines before it as they are spelt, so its place is their length (`Standing`).
use Rattle.std.specs.Prelude.{ℕ, zero, suc, ◌+◌, ◌-◌, ◌≤◌, ◌<◌, ◌≡◌, Bool, ◌&&◌, T, length, Result, Ok, Err}
use Rattle.std.proofs.Math.Path.{refl, sym, ap, ap₂}
use Rattle.std.proofs.Common.{subst, ◌∙◌, ⊎_elim, arith, add-zero, length-append}
use Rattle.std.proofs.Math.Bool.{true, false, cond}
use mathlib.Core.List.Memᴰ
use mathlib.Core.List.{List, [], ◌∷◌, ◌++◌, map}
use Rattle.std.proofs.Math.Nat.{sub-zero}
use Rattle.std.proofs.Math.Decide.{dec_lt}
use Rattle.std.proofs.Math.ListN.{get_or, length-map, get_or-map, get_or-eq_default}
use Rattle.lists.specs.Lists.{every, cons_if, keep, joined}
use Rattle.lists.specs.Members.{In, is_true, in_keep, in_at, right}
use Rattle.questions.specs.Questions.{AllYes}
use Rattle.questions.proofs.FirstNoLaws.{yes_front, yes_back, yes_at}
use Rattle.sheet.specs.Sheet.{Rule, SheetUnit, head_or, no_rule, no_unit}
use Rattle.forms.specs.Words.{line_feed}
use Rattle.forms.specs.Form.{printable, plain}
use Rattle.forms.specs.Lines.{TextLine, text_line, lines, spelt}
use Rattle.forms.specs.LinesLaws.{lines_joined}
use Rattle.forms.specs.declared.House.{House}
use Rattle.forms.specs.declared.House.TheVariants.{Ours}
use Rattle.read_form.specs.Kinds.{form_of, kind_of}
use Rattle.read_form.specs.Grid.{same_kind}
use Rattle.read_form.specs.declared.Kind.{Kind}
use Rattle.read_line.specs.Content.{Content, form_content, content_of, brackets_match, numbers_in}
use Rattle.read_line.specs.Line.{values_of, said, line_of}
use Rattle.questions.specs.declared.Question.TheVariants.{Printable, PlainNumbers, NoteBrackets}
use Rattle.read_questions.specs.Reading.{contents, is_form, unit_of, units_in, rule_of, rules_in, sheet_in, questions_of, line_questions}
use Rattle.read_questions.proofs.SpanLaws.{joined_append}
use Rattle.read_places.specs.Places.{Placed, placed_at, placed_from, placed, is_of, spots, no_spot, sought_in}
use Rattle.read_places.specs.declared.Spot.{Spot}

-- ---- a line whose questions are all answered yes

pub record LinePasses (h : House) (l : TextLine) : Type 0 where
  pub ended : l.ended ≡ true
  pub printable : printable l.bytes ≡ true
  pub says : line_of h l.bytes true ≡ values_of (content_of h l.bytes)

passes : (h : House) (n : ℕ) (before : List Content) (l : TextLine) → AllYes (questions_of h n before l (content_of h l.bytes)) → LinePasses h l
unfolding line_of said
passes h n before l asked =
    let yes = yes_at (questions_of h n before l x) asked in
    record {
      ended = is_true l.ended (right (is_form x) l.ended (yes 2 tt));
      printable = is_true (printable l.bytes) (yes 0 tt);
      says = go (printable l.bytes) (brackets_match x l.bytes) (every plain (numbers_in x)) (yes 0 tt) (yes 1 tt) (yes 3 tt);
    }
  where
    x : Content
    x = content_of h l.bytes

    go : (p b q : Bool) → T p → T b → T q
        → cond p (cond b (cond q (values_of x) (Err PlainNumbers)) (Err NoteBrackets)) (Err Printable) ≡ values_of x
    go true true true tp tb tq = refl
    go true true false tp tb tq = absurd tq
    go true false q tp tb tq = absurd tb
    go false b q tp tb tq = absurd tp

pub each_passes : (h : House) (n : ℕ) (before : List Content) (ls : List TextLine) → AllYes (line_questions h n before ls)
    → (l : TextLine) → In l ls → LinePasses h l
unfolding line_questions
each_passes h n before [] asked l m = absurd (Memᴰ.not-nil m)
each_passes h n before (k ∷ ls) asked l m =
    let x = content_of h k.bytes in
    let now = questions_of h n before k x in
    let later = line_questions h (suc n) (before ++ (x ∷ [])) ls in
    ⊎_elim (λ e. subst (LinePasses h) (sym e) (passes h n before k (yes_front now later asked)))
    (each_passes h (suc n) (before ++ (x ∷ [])) ls (yes_back now later asked) l) (Memᴰ.cases_cons m)

-- ---- the lines of a kind

-- what a line gives, where it is of a kind
module _ {A : Type 0} (k : Kind) (f : Content → List A) (g : TextLine → A) where
  abbrev pub Gives : TextLine → Type 0
  Gives l = f (content_of Ours l.bytes) ≡ cond (is_of k l) (g l ∷ []) []

  given : (ls : List TextLine) → ((l : TextLine) → In l ls → Gives l) → joined (map f (contents Ours ls)) ≡ map g (keep (is_of k) ls)
  unfolding contents
  given [] each = refl
  given (l ∷ ls) each =
      ap₂ (λ (xs ys : List A). xs ++ ys) (each l (Memᴰ.head refl)) (given ls (λ x m. each x (Memᴰ.tail m))) ∙ go (is_of k l)
    where
      go : (b : Bool) → cond b (g l ∷ []) [] ++ map g (keep (is_of k) ls) ≡ map g (cons_if b l (keep (is_of k) ls))
      go true = refl
      go false = refl

-- the unit and the rule that a line says
abbrev pub unit_on : TextLine → SheetUnit
unit_on l = head_or no_unit (unit_of (content_of Ours l.bytes))

abbrev pub rule_on : TextLine → Rule
rule_on l = head_or no_rule (rule_of (content_of Ours l.bytes))

module _ (l : TextLine) (p : LinePasses Ours l) where
  pub kind_is : (k : Kind) → is_of k l ≡ same_kind (form_of Ours l.bytes) k
  unfolding kind_of
  kind_is k = ap₂ (λ (e q : Bool). e && same_kind (cond q (form_of Ours l.bytes) Kind.Unprintable) k) p.ended p.printable

  unit_given : Gives Kind.Unit unit_of unit_on l
  unfolding content_of
  unit_given = go (form_of Ours l.bytes) ∙ ap (λ (b : Bool). cond b (unit_on l ∷ []) []) (sym (kind_is Kind.Unit))
    where
      go : (q : Kind) → let us = unit_of (form_content Ours q l.bytes) in us ≡ cond (same_kind q Kind.Unit) (head_or no_unit us ∷ []) []
      go Kind.Unprintable = refl
      go Kind.Note = refl
      go Kind.Sheet = refl
      go Kind.Unit = refl
      go Kind.Rule = refl
      go Kind.Other = refl

  rule_given : Gives Kind.Rule rule_of rule_on l
  unfolding content_of
  rule_given = go (form_of Ours l.bytes) ∙ ap (λ (b : Bool). cond b (rule_on l ∷ []) []) (sym (kind_is Kind.Rule))
    where
      go : (q : Kind) → let rs = rule_of (form_content Ours q l.bytes) in rs ≡ cond (same_kind q Kind.Rule) (head_or no_rule rs ∷ []) []
      go Kind.Unprintable = refl
      go Kind.Note = refl
      go Kind.Sheet = refl
      go Kind.Unit = refl
      go Kind.Rule = refl
      go Kind.Other = refl

-- ---- the spots of a kind

lines_placed : (n at : ℕ) (ls : List TextLine) → map (λ p. p.line) (placed_from n at ls) ≡ ls
unfolding placed_from
lines_placed n at [] = refl
lines_placed n at (l ∷ ls) = ap (λ (m : List TextLine). l ∷ m) (lines_placed (suc n) (at + length (spelt l)) ls)

keep_map : {A B : Type 0} (t : B → Bool) (f : A → B) (xs : List A) → map f (keep (λ x. t (f x)) xs) ≡ keep t (map f xs)
keep_map t f [] = refl
keep_map {B = B} t f (x ∷ xs) = go (t (f x)) (keep_map t f xs)
  where
    go : (b : Bool) → map f (keep (λ y. t (f y)) xs) ≡ keep t (map f xs) → map f (cons_if b x (keep (λ y. t (f y)) xs)) ≡ cons_if b (f x) (keep t (map f xs))
    go true e = ap (λ (ys : List B). f x ∷ ys) e
    go false e = e

-- the lines of a kind as they are placed
abbrev kept_of : Kind → List ℕ → List Placed
kept_of k text = keep (λ p. is_of k p.line) (placed text)

kept_lines : (k : Kind) (text : List ℕ) → map (λ p. p.line) (kept_of k text) ≡ keep (is_of k) (lines text)
kept_lines k text = keep_map (is_of k) (λ (p : Placed). p.line) (placed text) ∙ ap (keep (is_of k)) (lines_placed 1 0 (lines text))

pub spots_counted : (k : Kind) (text : List ℕ) → length (spots k text) ≡ length (keep (is_of k) (lines text))
unfolding spots
spots_counted k text =
    length-map (kept_of k text) (λ p. p.spot) ∙ sym (length-map (kept_of k text) (λ p. p.line)) ∙ ap length (kept_lines k text)

-- ---- what is found at a place

pub sought_at : (ss : List Spot) (j : ℕ) → j < length ss → sought_in ss j ≡ Ok (get_or ss j no_spot)
sought_at [] j h = absurd (omega arith)
sought_at (s ∷ ss) zero h = refl
sought_at (s ∷ ss) (suc j) h = sought_at ss j (omega arith)

pub sought_past : (ss : List Spot) (j : ℕ) → length ss ≤ j → sought_in ss j ≡ Err (j - length ss)
sought_past [] j h = ap Err (sym (sub-zero j))
sought_past (s ∷ ss) zero h = absurd (omega arith)
sought_past (s ∷ ss) (suc j) h = let e : j - length ss ≡ suc j - suc (length ss) = omega arith in sought_past ss j (omega arith) ∙ ap Err e

abbrev pub number_in : Result Spot ℕ → ℕ
number_in (Ok s) = s.number
number_in (Err j) = 0

pub sought_number : (ss : List Spot) (j : ℕ) → number_in (sought_in ss j) ≡ (get_or ss j no_spot).number
sought_number [] j = refl
sought_number (s ∷ ss) zero = refl
sought_number (s ∷ ss) (suc j) = sought_number ss j

-- ---- the units and the rules

-- a text whose lines pass all questions
module _ (text : List ℕ) (asked : AllYes (line_questions Ours 1 [] (lines text))) where
  -- the j-th line of the kind says the j-th unit, or the j-th rule
  pub unit_lines_lem : (sheet_in Ours text).units ≡ map unit_on (keep (is_of Kind.Unit) (lines text))
  unfolding sheet_in units_in
  unit_lines_lem = given Kind.Unit unit_of unit_on (lines text) (λ l m. unit_given l (each_passes Ours 1 [] (lines text) asked l m))

  pub rule_lines : (sheet_in Ours text).rules ≡ map rule_on (keep (is_of Kind.Rule) (lines text))
  unfolding sheet_in rules_in
  rule_lines = given Kind.Rule rule_of rule_on (lines text) (λ l m. rule_given l (each_passes Ours 1 [] (lines text) asked l m))

  pub unit_count : length (spots Kind.Unit text) ≡ length (sheet_in Ours text).units
  unit_count = spots_counted Kind.Unit text ∙ sym (ap length unit_lines_lem ∙ length-map (keep (is_of Kind.Unit) (lines text)) unit_on)

  pub rule_count : length (spots Kind.Rule text) ≡ length (sheet_in Ours text).rules
  rule_count = spots_counted Kind.Rule text ∙ sym (ap length rule_lines ∙ length-map (keep (is_of Kind.Rule) (lines text)) rule_on)

-- ---- where a line stands

-- one of these lines, of which the first has the number n and starts at the byte `at`: its place is the length of the lines before it
pub record Standing (n at : ℕ) (ls : List TextLine) (p : Placed) : Type 0 where
  pub before : List TextLine
  pub line : TextLine
  pub after : List TextLine
  pub split : ls ≡ before ++ (line ∷ after)
  pub place : p ≡ placed_at (n + length before) (at + length (joined (map spelt before))) line

stands : (n at : ℕ) (ls : List TextLine) (p : Placed) → In p (placed_from n at ls) → Standing n at ls p
unfolding placed_from
stands n at [] p m = absurd (Memᴰ.not-nil m)
stands n at (l ∷ ls) p m = ⊎_elim first (λ k. later (stands (suc n) (at + length (spelt l)) ls p k)) (Memᴰ.cases_cons m)
  where
    first : p ≡ placed_at n at l → Standing n at (l ∷ ls) p
    first e = record {
      before = [];
      line = l;
      after = ls;
      split = refl;
      place = e ∙ ap₂ (λ (i a : ℕ). placed_at i a l) (sym (add-zero n)) (sym (add-zero at));
    }

    later : Standing (suc n) (at + length (spelt l)) ls p → Standing n at (l ∷ ls) p
    later r =
        let b = joined (map spelt r.before) in
        let i : suc n + length r.before ≡ n + suc (length r.before) = omega arith in
        let a : at + length (spelt l) + length b ≡ at + length (spelt l ++ b) = omega (arith, length-append (spelt l) b) in
        record {
          before = l ∷ r.before;
          line = r.line;
          after = r.after;
          split = ap (λ (m : List TextLine). l ∷ m) r.split;
          place = r.place ∙ ap₂ (λ (i a : ℕ). placed_at i a r.line) i a;
        }

-- the text is the lines before one of its lines, this line and the lines behind it
pub around : (text : List ℕ) (before : List TextLine) (line : TextLine) (after : List TextLine) → lines text ≡ before ++ (line ∷ after)
    → text ≡ joined (map spelt before) ++ (spelt line ++ joined (map spelt after))
around text before line after e = sym (lines_joined text) ∙ ap (λ (ls : List TextLine). joined (map spelt ls)) e ∙ joined_append spelt before (line ∷ after)

-- no line of a text
abbrev pub no_line : TextLine
no_line = text_line [] false

abbrev no_place : Placed
no_place = record { spot = no_spot; line = no_line }

-- at the spot s: the j-th line of the kind k, where it stands
pub record Spotted (k : Kind) (text : List ℕ) (j : ℕ) (s : Spot) : Type 0 where
  pub placed : Placed
  pub spot : s ≡ placed.spot
  pub line : placed.line ≡ get_or (keep (is_of k) (lines text)) j no_line
  pub kind : T (is_of k placed.line)
  pub stands : Standing 1 0 (lines text) placed

module _ (k : Kind) (text : List ℕ) (j : ℕ) where
  pub spot_stands : j < length (spots k text) → Spotted k text j (get_or (spots k text) j no_spot)
  unfolding spots
  spot_stands h =
      let p = get_or (kept_of k text) j no_place in
      let there = in_at no_place (kept_of k text) j (omega (arith, length-map (kept_of k text) (λ p. p.spot))) in
      let kept = in_keep (λ (p : Placed). is_of k p.line) p (placed text) there in
      record {
        placed = p;
        spot = get_or-map (λ (p : Placed). p.spot) (kept_of k text) j no_place;
        line = sym (get_or-map (λ (p : Placed). p.line) (kept_of k text) j no_place) ∙ ap (λ (ls : List TextLine). get_or ls j no_line) (kept_lines k text);
        kind = kept.1;
        stands = stands 1 0 (lines text) p kept.0;
      }

  pub spot_inside : let s = get_or (spots k text) j no_spot in (s.start ≤ s.end) × (s.end ≤ length text)
  spot_inside =
      elim (dec_lt j (length (spots k text))) [
        | yes h ↦ let r = spot_stands h in
            subst (λ (s : Spot). (s.start ≤ s.end) × (s.end ≤ length text)) (sym r.spot) (inside r.placed r.stands)
        | no g ↦
            subst (λ (s : Spot). (s.start ≤ s.end) × (s.end ≤ length text)) (sym (get_or-eq_default (spots k text) no_spot (omega arith))) (omega arith)
      ]
    where
      inside : (p : Placed) → Standing 1 0 (lines text) p → (p.spot.start ≤ p.spot.end) × (p.spot.end ≤ length text)
      inside p r =
          let b = joined (map spelt r.before) in
          let l = r.line in
          let a = joined (map spelt r.after) in
          let long : length text ≡ length b + (length (spelt l) + length a) =
          ap length (around text r.before l r.after r.split) ∙ length-append b (spelt l ++ a)
          ∙ ap (λ (m : ℕ). length b + m) (length-append (spelt l) a) in
          subst (λ (q : Placed). (q.spot.start ≤ q.spot.end) × (q.spot.end ≤ length text)) (sym r.place)
          (omega (arith, length-append l.bytes (cond l.ended (line_feed ∷ []) [])))
