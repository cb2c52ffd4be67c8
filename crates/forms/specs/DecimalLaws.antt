-- The digits of a number: they are worth the number, they are few where it is small, and a line of a form is no longer than its words and so many digits.
-- Key idea: the last digit is the remainder by ten and the others are the digits of the quotient, so every law is one of a single digit and of a number
-- with one digit more (`digits_rule`).
use Rattle.std.specs.Prelude.{◌≡◌, refl, true, List, [], ◌∷◌, ◌++◌, map, ℕ, zero, suc, ◌+◌, ◌-◌, ◌*◌, ◌/◌, ◌%◌, ◌≤◌, ◌<◌, length}
use Rattle.std.proofs.Common.{sym, ap, ap₂, ◌∙◌, subst, arith, length-append, lt-ltb, le-ltb, le-leb}
use Rattle.std.proofs.Math.Decide.{dec_le}
use Rattle.forms.specs.Words.{zero_digit}
use Rattle.forms.specs.Form.{Piece, word, number, any_bytes, is_digit, some, value, value_from, written}
use Rattle.forms.specs.FormLaws.{Digits, Number, Suits}
use Rattle.forms.specs.Decimal.{digit, digits_within, digits, form_line}

-- ---- the last digit, and the others

module _ (k n : ℕ) where
  within_one : n < 10 → digits_within (suc k) n ≡ digit n ∷ []
  unfolding digits_within
  within_one h = rw (lt-ltb n 10 h)

  within_more : 10 ≤ n → digits_within (suc k) n ≡ digits_within k (n / 10) ++ (digit (n % 10) ∷ [])
  unfolding digits_within
  within_more h = rw (le-ltb n 10 h)

-- more room than enough changes nothing
within_enough : (k m n : ℕ) → n < k → n < m → digits_within k n ≡ digits_within m n
within_enough zero m n h g = absurd (omega arith)
within_enough (suc k) zero n h g = absurd (omega arith)
within_enough (suc k) (suc m) n h g = elim (dec_le 10 n) [
  | yes l ↦ within_more k n l ∙ ap (λ r. r ++ (digit (n % 10) ∷ [])) (within_enough k m (n / 10) (omega arith) (omega arith)) ∙ sym (within_more m n l)
  | no g ↦ within_one k n (omega arith) ∙ sym (within_one m n (omega arith))
]

pub digits_one : (n : ℕ) → n < 10 → digits n ≡ digit n ∷ []
unfolding digits
digits_one n h = within_one n n h

-- the last digit is the remainder by ten
pub digits_last : (n : ℕ) → 10 ≤ n → digits n ≡ digits (n / 10) ++ digits (n % 10)
unfolding digits
digits_last n h =
    within_more n n h
    ∙ ap₂ (λ r s. r ++ s) (within_enough n (suc (n / 10)) (n / 10) (omega arith) (omega arith)) (sym (within_one (n % 10) (n % 10) (omega arith)))

-- what holds of one digit, and of a number with one digit more, holds of every number
digits_rule : (P : ℕ → List ℕ → Type 0) → ((n : ℕ) → n < 10 → P n (digit n ∷ []))
    → ((n : ℕ) → 10 ≤ n → P (n / 10) (digits (n / 10)) → P n (digits (n / 10) ++ (digit (n % 10) ∷ []))) → (k n : ℕ) → n < k → P n (digits n)
digits_rule P one more zero n h = absurd (omega arith)
digits_rule P one more (suc k) n h = elim (dec_le 10 n) [
  | yes l ↦ subst (P n) (sym (digits_last n l ∙ ap (λ r. digits (n / 10) ++ r) (digits_one (n % 10) (omega arith))))
      (more n l (digits_rule P one more k (n / 10) (omega arith)))
  | no g ↦ subst (P n) (sym (digits_one n (omega arith))) (one n (omega arith))
]

-- ---- they are worth the number

value_append : (v : ℕ) (xs : List ℕ) (b : ℕ) → value_from v (xs ++ (b ∷ [])) ≡ value_from v xs * 10 + (b - zero_digit)
unfolding value_from
value_append v [] b = refl
value_append v (x ∷ xs) b = value_append (v * 10 + (x - zero_digit)) xs b

value_digits : (n : ℕ) → value (digits n) ≡ n
unfolding value_from
value_digits n = digits_rule (λ m ds. value ds ≡ m)
    (λ m h. omega arith)
    (λ m h e. value_append 0 (digits (m / 10)) (digit (m % 10)) ∙ omega (arith, e))
    (suc n) n (omega arith)

pub values_digits : (ns : List ℕ) → map value (map digits ns) ≡ ns
values_digits [] = refl
values_digits (n ∷ ns) = ap₂ (λ m ms. m ∷ ms) (value_digits n) (values_digits ns)

-- ---- they are a number, as a form wants one

is_digit_lem : (d : ℕ) → d < 10 → is_digit (digit d) ≡ true
is_digit_lem d h = rw (le-leb 48 (48 + d) (omega arith), le-leb (48 + d) 57 (omega arith))

digits_append : (xs : List ℕ) (b : ℕ) → Digits xs → is_digit b ≡ true → Digits (xs ++ (b ∷ []))
digits_append [] b h e = (e, tt)
digits_append (x ∷ xs) b h e = (h.0, digits_append xs b h.1 e)

some_append : (xs : List ℕ) (b : ℕ) → some (xs ++ (b ∷ [])) ≡ true
some_append [] b = refl
some_append (x ∷ xs) b = refl

number_digits : (n : ℕ) → Number (digits n)
number_digits n = digits_rule (λ m ds. Number ds)
    (λ m h. record { digits = (is_digit_lem m h, tt); not_empty = refl })
    (λ m h e. record {
      digits = digits_append (digits (m / 10)) (digit (m % 10)) e.digits (is_digit_lem (m % 10) (omega arith));
      not_empty = some_append (digits (m / 10)) (digit (m % 10));
    })
    (suc n) n (omega arith)

-- how many numbers a form has
abbrev pub numbers_in : List Piece → ℕ
numbers_in [] = 0
numbers_in (word w ∷ f) = numbers_in f
numbers_in (number ∷ f) = suc (numbers_in f)
numbers_in (any_bytes ∷ f) = numbers_in f

pub suits_digits : (f : List Piece) (ns : List ℕ) → length ns ≡ numbers_in f → Suits f (map digits ns)
suits_digits [] [] h = tt
suits_digits [] (n ∷ ns) h = absurd (omega arith)
suits_digits (word w ∷ f) ns h = suits_digits f ns h
suits_digits (number ∷ f) [] h = absurd (omega arith)
suits_digits (number ∷ f) (n ∷ ns) h = (number_digits n, suits_digits f ns (omega arith))
suits_digits (any_bytes ∷ f) ns h = suits_digits f ns h

-- ---- how long they are

abbrev pub tens : ℕ → ℕ
tens zero = 1
tens (suc k) = 10 * tens k

digits_few : (k n : ℕ) → n < tens (suc k) → length (digits n) ≤ suc k
digits_few zero n h = omega (arith, ap length (digits_one n (omega arith)))
digits_few (suc k) n h = elim (dec_le 10 n) [
  | yes l ↦ omega (
    arith,
    ap length (digits_last n l),
    length-append (digits (n / 10)) (digits (n % 10)),
    ap length (digits_one (n % 10) (omega arith)),
    digits_few k (n / 10) (omega arith),
  )
  | no g ↦ omega (arith, ap length (digits_one n (omega arith)))
]

-- numbers below powers of ten, one for each
abbrev pub Below : List ℕ → List ℕ → Type 0
Below [] [] = Unit {0}
Below [] (k ∷ ks) = ⊥
Below (n ∷ ns) [] = ⊥
Below (n ∷ ns) (zero ∷ ks) = ⊥
Below (n ∷ ns) (suc k ∷ ks) = (n < tens (suc k)) × Below ns ks

-- a form's words, so many digits for its numbers, and the line feed
abbrev pub longest : List Piece → List ℕ → ℕ
longest [] ks = 1
longest (word w ∷ f) ks = length w + longest f ks
longest (number ∷ f) [] = 1
longest (number ∷ f) (k ∷ ks) = k + longest f ks
longest (any_bytes ∷ f) ks = longest f ks

pub line_short : (f : List Piece) (ns ks : List ℕ) → Below ns ks → length (form_line f ns) ≤ longest f ks
unfolding written
line_short [] ns ks h = omega arith
line_short (word w ∷ f) ns ks h =
    let l = line_short f ns ks h in
    simp length-append (omega (arith, simp length-append at l))
line_short (number ∷ f) [] [] h = omega arith
line_short (number ∷ f) (n ∷ ns) (suc k ∷ ks) h =
    let l = line_short f ns ks h.1 in
    simp length-append (omega (arith, simp length-append at l, digits_few k n h.0))
line_short (number ∷ f) [] (k ∷ ks) h = absurd h
line_short (number ∷ f) (n ∷ ns) [] h = absurd h
line_short (number ∷ f) (n ∷ ns) (zero ∷ ks) h = absurd h
line_short (any_bytes ∷ f) ns ks h = line_short f ns ks h
