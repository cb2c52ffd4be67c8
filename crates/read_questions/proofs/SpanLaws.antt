-- One line more: what it makes of the span and adds to the units and rules.
-- Key idea: each is an induction on the lines before. The first sheet form gives the span, and every other line leaves it.
use Rattle.std.specs.Prelude.{ℕ, ◌≡◌, refl, Bool, false, ◌||◌, List, [], ◌∷◌, ◌++◌, map}
use Rattle.std.proofs.Common.{sym, ◌∙◌, append-nil, append_assoc}
use Rattle.std.proofs.Math.Path.{ap}
use Rattle.std.proofs.Math.Bool.{or-false, or_assoc}
use Rattle.std.proofs.lemmas.List.{map-append}
use Rattle.lists.specs.Lists.{joined}
use Rattle.lists.specs.Members.{false_not_true}
use Rattle.read_line.specs.Content.{Content, note, sheet, unit, rule, other}
use Rattle.read_questions.specs.Reading.{is_sheet, has_sheet, span_else, span_in, unit_of, units_in, loaders_in, rule_of, rules_in}

-- ---- lists

pub joined_append : {A B : Type 0} (f : A → List B) (xs ys : List A) → joined (map f (xs ++ ys)) ≡ joined (map f xs) ++ joined (map f ys)
joined_append f [] ys = refl
joined_append f (x ∷ xs) ys = rw (joined_append f xs ys) (sym (append_assoc (f x) (joined (map f xs)) (joined (map f ys))))

module _ (xs : List Content) (x : Content) where
  pub units_more : units_in (xs ++ (x ∷ [])) ≡ units_in xs ++ unit_of x
  unfolding units_in
  units_more = joined_append unit_of xs (x ∷ []) ∙ ap (λ l. joined (map unit_of xs) ++ l) (append-nil (unit_of x))

  pub loaders_in_more : loaders_in (xs ++ (x ∷ [])) ≡ loaders_in xs ++ map (λ u. u.loader) (unit_of x)
  loaders_in_more = ap (map (λ u. u.loader)) units_more ∙ map-append (λ u. u.loader) (units_in xs) (unit_of x)

  pub rules_more : rules_in (xs ++ (x ∷ [])) ≡ rules_in xs ++ rule_of x
  unfolding rules_in
  rules_more = joined_append rule_of xs (x ∷ []) ∙ ap (λ l. joined (map rule_of xs) ++ l) (append-nil (rule_of x))

-- ---- the span
pub has_sheet_more : (xs : List Content) (x : Content) → has_sheet (xs ++ (x ∷ [])) ≡ (has_sheet xs || is_sheet x)
unfolding has_sheet
has_sheet_more [] x = or-false (is_sheet x)
has_sheet_more (y ∷ ys) x = ap (λ (b : Bool). is_sheet y || b) (has_sheet_more ys x) ∙ sym (or_assoc (is_sheet y) (has_sheet ys) (is_sheet x))

pub has_sheet_same : (xs : List Content) (x : Content) → is_sheet x ≡ false → has_sheet (xs ++ (x ∷ [])) ≡ has_sheet xs
has_sheet_same xs x e = has_sheet_more xs x ∙ ap (λ (b : Bool). has_sheet xs || b) e ∙ or-false (has_sheet xs)

pub span_in_same : (xs : List Content) (x : Content) → ((p : ℕ) → span_else x p ≡ p) → span_in (xs ++ (x ∷ [])) ≡ span_in xs
unfolding span_in
span_in_same [] x h = h 0
span_in_same (y ∷ ys) x h = ap (span_else y) (span_in_same ys x h)

pub span_in_first : (xs : List Content) (es : List (List ℕ)) (p : ℕ) → has_sheet xs ≡ false → span_in (xs ++ (sheet es p ∷ [])) ≡ p
unfolding span_in has_sheet
span_in_first [] es p h = refl
span_in_first (note ∷ ys) es p h = span_in_first ys es p h
span_in_first (sheet ds q ∷ ys) es p h = false_not_true (sym h)
span_in_first (unit ds k f l ∷ ys) es p h = span_in_first ys es p h
span_in_first (rule ds a b lo hi ∷ ys) es p h = span_in_first ys es p h
span_in_first (other ∷ ys) es p h = span_in_first ys es p h
