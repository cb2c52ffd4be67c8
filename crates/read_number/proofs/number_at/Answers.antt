-- Digit by digit: at each test the digits so far are known (`Upto` of NumberLaws), and each return is one case of what they make.
use Rattle.std.proofs.Common.{◌≡◌, ◌+◌, [], ◌∷◌, true, not, length, get_or, drop, refl, sym, ap, subst, ◌∙◌, arith, ne_eqb, None}
use lib.Dec.{eqb}
use Rattle.forms.specs.Form.{is_digit, leading, value_from}
use Rattle.read_number.specs.Number.{number_with, number_read}
use Rattle.read_number.proofs.NumberLaws.{one_digit, two_digits, three_digits, four_digits, upto_inside, upto_more, upto_all, few_read, zero_read, long_read, digit_bounds}
use Rattle.read_number.proofs.number_at.Goals as goal
use Rattle.read_number.proofs.number_at.Goals.{Else-not-is_ascii_digit, Else-one-eq0, Else-not-is_ascii_digit-2, Else-not-is_ascii_digit-3}

-- where a digit follows, the first one is no zero
no_zero : (c : Else-one-eq0) → not (eqb (get_or c.args.s.now c.args.at 0) 48) ≡ true
no_zero c = ap not (ne_eqb (get_or c.args.s.now c.args.at 0) 48 (λ e. c.if-one-eq0.false (omega (arith, c.digit-one.ensures.0, e))))

pub bounds-s-at-2 : goal.bounds-s-at-2
bounds-s-at-2 c = upto_inside _ _ 1 _ (one_digit c.args.s.now c.args.at c.requires.0 c.requires.1)

pub returns-then-not-is_ascii_digit-clause-value : goal.returns-then-not-is_ascii_digit-clause-value
unfolding value_from
returns-then-not-is_ascii_digit-clause-value c =
    let a = c.args in
    let all = upto_all _ _ 1 _ (one_digit a.s.now a.at c.requires.0 c.requires.1) (sym c.is_ascii_digit.ensures.value ∙ c.if-not-is_ascii_digit.true) in
    c.plain.ensures ∙ few_read _ [] _ a.at (omega arith) refl (omega (arith, c.digit-one.ensures.0)) ∙ ap (λ ds. number_read ds a.at) (sym all)

pub returns-then-not-is_ascii_digit-clause-value_le_max_number : goal.returns-then-not-is_ascii_digit-clause-value_le_max_number
returns-then-not-is_ascii_digit-clause-value_le_max_number c = rw c.plain.ensures (omega (arith, c.digit-one.ensures.1))

two : (c : Else-not-is_ascii_digit) → is_digit (get_or c.args.s.now (c.args.at + 1) 0) ≡ true
two c = sym c.is_ascii_digit.ensures.value ∙ c.if-not-is_ascii_digit.false

three : (c : Else-not-is_ascii_digit-2) → is_digit (get_or c.args.s.now (c.args.at + 2) 0) ≡ true
three c = sym c.is_ascii_digit-2.ensures.value ∙ c.if-not-is_ascii_digit-2.false

four : (c : Else-not-is_ascii_digit-3) → is_digit (get_or c.args.s.now (c.args.at + 3) 0) ≡ true
four c = sym c.is_ascii_digit-3.ensures.value ∙ c.if-not-is_ascii_digit-3.false

pub returns-then-one-eq0-clause-value : goal.returns-then-one-eq0-clause-value
returns-then-one-eq0-clause-value c =
    let p = goal.at.returns-then-one-eq0-clause-value c in
    let a = c.args in
    let z : get_or a.s.now a.at 0 ≡ 48 = omega (arith, c.digit-one.ensures.0, digit_bounds (get_or a.s.now a.at 0) c.requires.1) in
    let ds = (two_digits a.s.now a.at c.requires.0 c.requires.1 (two p.Else-not-is_ascii_digit)).digits in
    let f = ds ∙ ap (λ x. x ∷ get_or a.s.now (a.at + 1) 0 ∷ leading (drop (a.at + 2) a.s.now)) z in
    c.faulty.ensures ∙ subst (λ l. number_with None (a.at + length l) ≡ number_read l a.at) (sym f) (zero_read _ _ a.at)

pub bounds-s-at-3 : goal.bounds-s-at-3
bounds-s-at-3 c =
    let p = goal.at.bounds-s-at-3 c in
    upto_inside _ _ 2 _ (two_digits c.args.s.now c.args.at c.requires.0 c.requires.1 (two p.Else-not-is_ascii_digit))

pub returns-then-not-is_ascii_digit-2-clause-value : goal.returns-then-not-is_ascii_digit-2-clause-value
unfolding value_from
returns-then-not-is_ascii_digit-2-clause-value c =
    let p = goal.at.returns-then-not-is_ascii_digit-2-clause-value c in
    let a = c.args in
    let all = upto_all _ _ 2 _ (two_digits a.s.now a.at c.requires.0 c.requires.1 (two p.Else-not-is_ascii_digit))
    (sym c.is_ascii_digit-2.ensures.value ∙ c.if-not-is_ascii_digit-2.true) in
    c.plain-then-not-is_ascii_digit-2.ensures
    ∙ few_read _ (_ ∷ []) _ a.at (omega arith) (no_zero p.Else-one-eq0) (omega (arith, c.digit-one.ensures.0, c.digit.ensures.0))
    ∙ ap (λ ds. number_read ds a.at) (sym all)

pub returns-then-not-is_ascii_digit-2-clause-value_le_max_number : goal.returns-then-not-is_ascii_digit-2-clause-value_le_max_number
returns-then-not-is_ascii_digit-2-clause-value_le_max_number c =
    rw c.plain-then-not-is_ascii_digit-2.ensures (omega (arith, c.digit-one.ensures.1, c.digit.ensures.1))

pub bounds-s-at-4 : goal.bounds-s-at-4
bounds-s-at-4 c =
    let p = goal.at.bounds-s-at-4 c in
    upto_inside _ _ 3 _ (three_digits c.args.s.now c.args.at c.requires.0 c.requires.1 (two p.Else-not-is_ascii_digit) (three p.Else-not-is_ascii_digit-2))

pub returns-then-not-is_ascii_digit-3-clause-value : goal.returns-then-not-is_ascii_digit-3-clause-value
unfolding value_from
returns-then-not-is_ascii_digit-3-clause-value c =
    let p = goal.at.returns-then-not-is_ascii_digit-3-clause-value c in
    let a = c.args in
    let all = upto_all _ _ 3 _
    (three_digits a.s.now a.at c.requires.0 c.requires.1 (two p.Else-not-is_ascii_digit) (three p.Else-not-is_ascii_digit-2))
    (sym c.is_ascii_digit-3.ensures.value ∙ c.if-not-is_ascii_digit-3.true) in
    c.plain-then-not-is_ascii_digit-3.ensures
    ∙ few_read _ (_ ∷ _ ∷ []) _ a.at (omega arith) (no_zero p.Else-one-eq0)
    (omega (arith, c.digit-one.ensures.0, c.digit.ensures.0, c.digit-2.ensures.0)) ∙ ap (λ ds. number_read ds a.at) (sym all)

pub returns-then-not-is_ascii_digit-3-clause-value_le_max_number : goal.returns-then-not-is_ascii_digit-3-clause-value_le_max_number
returns-then-not-is_ascii_digit-3-clause-value_le_max_number c =
    rw c.plain-then-not-is_ascii_digit-3.ensures (omega (arith, c.digit-one.ensures.1, c.digit.ensures.1, c.digit-2.ensures.1))

pub bounds-s-at-5 : goal.bounds-s-at-5
bounds-s-at-5 c =
    let p = goal.at.bounds-s-at-5 c in
    upto_inside _ _ 4 _ (four_digits c.args.s.now c.args.at c.requires.0 c.requires.1 (two p.Else-not-is_ascii_digit) (three p.Else-not-is_ascii_digit-2)
    (four p.Else-not-is_ascii_digit-3))

pub returns-then-is_ascii_digit-clause-value : goal.returns-then-is_ascii_digit-clause-value
returns-then-is_ascii_digit-clause-value c =
    let p = goal.at.returns-then-is_ascii_digit-clause-value c in
    let a = c.args in
    let known = four_digits a.s.now a.at c.requires.0 c.requires.1 (two p.Else-not-is_ascii_digit) (three p.Else-not-is_ascii_digit-2)
    (four p.Else-not-is_ascii_digit-3) in
    let ds = (upto_more _ _ 4 _ known (sym c.is_ascii_digit-4.ensures.value ∙ c.if-is_ascii_digit.true)).digits in
    c.faulty-then-is_ascii_digit.ensures
    ∙ subst (λ l. number_with None (a.at + length l) ≡ number_read l a.at) (sym ds) (long_read _ _ _ _ _ _ a.at)

pub returns-clause-value : goal.returns-clause-value
unfolding value_from
returns-clause-value c =
    let p = goal.at.returns-clause-value c in
    let a = c.args in
    let known = four_digits a.s.now a.at c.requires.0 c.requires.1 (two p.Else-not-is_ascii_digit) (three p.Else-not-is_ascii_digit-2)
    (four p.Else-not-is_ascii_digit-3) in
    let all = upto_all _ _ 4 _ known (sym c.is_ascii_digit-4.ensures.value ∙ c.if-is_ascii_digit.false) in
    c.plain-2.ensures
    ∙ few_read _ (_ ∷ _ ∷ _ ∷ []) _ a.at (omega arith) (no_zero p.Else-one-eq0)
    (omega (arith, c.digit-one.ensures.0, c.digit.ensures.0, c.digit-2.ensures.0, c.digit-3.ensures.0)) ∙ ap (λ ds. number_read ds a.at) (sym all)

pub returns-clause-value_le_max_number : goal.returns-clause-value_le_max_number
returns-clause-value_le_max_number c =
    rw c.plain-2.ensures (omega (arith, c.digit-one.ensures.1, c.digit.ensures.1, c.digit-2.ensures.1, c.digit-3.ensures.1))
