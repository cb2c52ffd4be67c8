-- How many digits a number has, and the digits stored from the last one back.
-- Key idea: the number's last digit is stored, and what is left are the digits of the number without it: stored in front they give the whole.
use Rattle.std.specs.Prelude.{◌≡◌, refl, List, [], ◌∷◌, ◌++◌, ℕ, zero, suc, ◌+◌, ◌-◌, ◌/◌, ◌%◌, ◌^◌, ◌≤◌, ◌<◌, length, set}
use Rattle.std.proofs.Common.{sym, ap, subst, ◌∙◌, arith, add-zero, length-append}
use Rattle.std.proofs.Math.Decide.{dec_le}
use Rattle.std.proofs.lemmas.List.{set_comm}
use Rattle.std.proofs.lemmas.List.Edits.{sets}
use Rattle.forms.specs.Decimal.{digit, digits}
use Rattle.forms.specs.DecimalLaws.{digits_one, digits_last}
use Rattle.print_bytes.specs.Writing.{Room, Written}
use Rattle.print_bytes.proofs.WritingLaws.{bytes_set}

-- ---- how many there are

pub one_digit : (n : ℕ) → n < 10 → length (digits n) ≡ 1
one_digit n h = ap length (digits_one n h)

one_more : (n : ℕ) → 10 ≤ n → length (digits n) ≡ suc (length (digits (n / 10)))
one_more n h =
    omega (arith, ap length (digits_last n h), length-append (digits (n / 10)) (digits (n % 10)), one_digit (n % 10) (omega arith))

pub so_many_digits : (k n : ℕ) → 10 ^ k ≤ n → n < 10 ^ suc k → length (digits n) ≡ suc k
so_many_digits zero n h g = one_digit n g
so_many_digits (suc k) n h g = one_more n (omega arith) ∙ ap suc (so_many_digits k (n / 10) (omega arith) (omega arith))

some_digits : (n : ℕ) → 1 ≤ length (digits n)
some_digits n = elim (dec_le 10 n) [ yes l ↦ omega (arith, one_more n l) | no g ↦ omega (arith, one_digit n (omega arith)) ]

-- ---- the last one

-- the first i digits of what is left of a number that has so many
abbrev pub front : ℕ → ℕ → List ℕ
front zero n = []
front (suc i) n = digits n

last_digit : (i n : ℕ) → length (digits n) ≡ suc i → digits n ≡ front i (n / 10) ++ (digit (n % 10) ∷ [])
last_digit zero n e = elim (dec_le 10 n) [
  | yes l ↦ absurd (omega (arith, one_more n l, some_digits (n / 10)))
  | no g ↦ digits_one n (omega arith) ∙ ap (λ d. digit d ∷ []) (omega arith)
]
last_digit (suc i) n e = elim (dec_le 10 n) [
  | yes l ↦ digits_last n l ∙ ap (λ r. digits (n / 10) ++ r) (digits_one (n % 10) (omega arith))
  | no g ↦ absurd (omega (arith, one_digit n (omega arith)))
]

-- a byte is stored behind the place where others will stand
sets_last : (xs page : List ℕ) (at b : ℕ) → sets (set page (at + length xs) b) at xs ≡ sets page at (xs ++ (b ∷ []))
sets_last [] page at b = ap (λ k. set page k b) (add-zero at)
sets_last (x ∷ xs) page at b =
    let e : at + suc (length xs) ≡ suc at + length xs = omega arith in
    ap (λ p. sets p (suc at) xs) (set_comm page (at + suc (length xs)) at b x (omega arith) ∙ ap (λ k. set (set page at x) k b) e)
    ∙ sets_last xs (set page at x) (suc at) b

-- ---- a number's digits, stored from the last one back

-- the i digits of the rest are left: stored in front, they give the whole
pub record Left (page₀ : List ℕ) (at : ℕ) (whole page : List ℕ) (i rest : ℕ) : Type 0 where
  pub same : sets page at (front i rest) ≡ sets page₀ at whole
  pub long : length (front i rest) ≡ i

whole_front : (i n : ℕ) → length (digits n) ≡ i → front i n ≡ digits n
whole_front zero n e = absurd (omega (arith, some_digits n))
whole_front (suc i) n e = refl

pub all_left : (page : List ℕ) (at n i : ℕ) → length (digits n) ≡ i → Left page at (digits n) page i n
all_left page at n i e = let f = whole_front i n e in record { same = ap (sets page at) f; long = ap length f ∙ e }

module _ {page₀ : List ℕ} {at : ℕ} {whole page : List ℕ} {rest : ℕ} where
  stored : {i : ℕ} → Left page₀ at whole page (suc i) rest → Left page₀ at whole (set page (at + i) (digit (rest % 10))) i (rest / 10)
  stored {i} l =
      let e = last_digit i rest l.long in
      let f = front i (rest / 10) in
      let n : length f ≡ i = omega (arith, l.long, ap length e, length-append f (digit (rest % 10) ∷ [])) in
      record {
        same = ap (λ k. sets (set page (at + k) (digit (rest % 10))) at f) (sym n)
            ∙ sets_last f page at (digit (rest % 10)) ∙ ap (sets page at) (sym e) ∙ l.same;
        long = n;
      }

  -- the last of them is stored
  pub one_left : {i : ℕ} → 0 < i → Left page₀ at whole page i rest → Left page₀ at whole (set page (at + (i - 1)) (digit (rest % 10))) (i - 1) (rest / 10)
  one_left {i} h l = let e : i ≡ suc (i - 1) = omega arith in stored (subst (λ k. Left page₀ at whole page k rest) e l)

  pub none_left : {i : ℕ} → i ≤ 0 → Room page₀ at whole → Left page₀ at whole page i rest → Written page₀ at whole page (at + length whole)
  none_left {i} h room l =
      let e : i ≡ 0 = omega arith in
      record {
        filled = (subst (λ k. Left page₀ at whole page k rest) e l).same ∙ sym (bytes_set page₀ at whole room);
        moved = refl;
      }
