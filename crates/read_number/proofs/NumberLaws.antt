-- Reading a number digit by digit.
-- Key idea: before a line feed every digit has a byte behind it (`more_follows`), so the digits from a place on are known one by one up to the first byte
-- that is none. A number of up to four such digits without a needless zero is plain (`few_read`), and every other is not (`zero_read`, `long_read`).
use Rattle.std.specs.Prelude.{Some, None, take_while}
use Rattle.std.proofs.lemmas.List.Sums.{take_while-cons}
use Prim.Native.Nat.{ℕ, suc, ◌+◌, ◌≤◌, ◌<◌}
use mathlib.Core.Path.{◌≡◌, refl, sym, ap, subst, ◌∙◌}
use mathlib.Core.Bool.{Bool, true, false, ◌&&◌, ◌||◌, not, cond, and-false}
use mathlib.Core.List.{List, [], ◌∷◌, ◌++◌, append-nil, append_assoc}
use native.Mathlib.Omega.{arith}
use native.Mathlib.Decide.{dec_le}
use native.Mathlib.Numerals.{add-one}
use lib.ListN.{length, get_or, drop, drop_of_length-le}
use lib.Seq.{drop-cons}
use lib.Dec.{eqb, leb}
use borrow.Author.Tests.{ne_eqb, le-leb, lt-leb, leb-true}
use Rattle.lists.specs.Members.{and_left, and_right, false_not_true}
use Rattle.forms.specs.Words.{line_feed}
use Rattle.forms.specs.Form.{is_digit, leading, some, plain, value}
use Rattle.forms.specs.Lines.{has_feed}
use Rattle.read_number.specs.Number.{number_with, number_read}

pub digit_bounds : (b : ℕ) → is_digit b ≡ true → (48 ≤ b) × (b ≤ 57)
digit_bounds b h = (leb-true 48 b (and_left (leb 48 b) (leb b 57) h), leb-true b 57 (and_right (leb 48 b) (leb b 57) h))

-- ---- at a place of a text
module _ (s : List ℕ) (i : ℕ) where
  -- a line feed follows, so there is a byte here
  pub some_here : has_feed (drop i s) ≡ true → i < length s
  unfolding has_feed
  some_here h = elim (dec_le (length s) i) [
    | yes l ↦ false_not_true (sym (ap has_feed (drop_of_length-le s l)) ∙ h)
    | no g ↦ omega arith
  ]

  -- and behind a digit it follows still
  pub more_follows : has_feed (drop i s) ≡ true → is_digit (get_or s i 0) ≡ true → has_feed (drop (i + 1) s) ≡ true
  unfolding has_feed
  more_follows h d =
      let e = ne_eqb (get_or s i 0) line_feed (λ f. omega (arith, digit_bounds (get_or s i 0) d)) in
      let k : cond (eqb (get_or s i 0) line_feed) true (has_feed (drop (suc i) s)) ≡ true = sym (ap has_feed (drop-cons s i 0 (some_here h))) ∙ h in
      rw (add-one i) (sym (ap (λ (b : Bool). cond b true (has_feed (drop (suc i) s))) e) ∙ k)

  pub at_other : i < length s → is_digit (get_or s i 0) ≡ false → leading (drop i s) ≡ []
  unfolding leading
  at_other h e = rw (drop-cons s i 0 h) (ap (λ (d : Bool). cond d (get_or s i 0 ∷ leading (drop (suc i) s)) []) e)

  pub at_digit : i < length s → is_digit (get_or s i 0) ≡ true → leading (drop i s) ≡ get_or s i 0 ∷ leading (drop (i + 1) s)
  unfolding leading
  at_digit h e = rw (add-one i) (rw (drop-cons s i 0 h) (ap (λ (d : Bool). cond d (get_or s i 0 ∷ leading (drop (suc i) s)) []) e))

-- the first k digits of a number are these, and a byte stands behind them
pub record Upto (s : List ℕ) (at k : ℕ) (ds : List ℕ) : Type 0 where
  pub feed : has_feed (drop (at + k) s) ≡ true
  pub digits : leading (drop at s) ≡ ds ++ leading (drop (at + k) s)

module _ (s : List ℕ) (at : ℕ) where
  upto_one : has_feed (drop at s) ≡ true → is_digit (get_or s at 0) ≡ true → Upto s at 1 (get_or s at 0 ∷ [])
  upto_one h d = record { feed = more_follows s at h d; digits = at_digit s at (some_here s at h) d }

  module _ (k : ℕ) (ds : List ℕ) (u : Upto s at k ds) where
    pub upto_inside : at + k < length s
    upto_inside = some_here s (at + k) u.feed

    pub upto_more : is_digit (get_or s (at + k) 0) ≡ true → Upto s at (suc k) (ds ++ (get_or s (at + k) 0 ∷ []))
    upto_more d =
        let e : at + k + 1 ≡ at + suc k = omega arith in
        record {
          feed = subst (λ (j : ℕ). has_feed (drop j s) ≡ true) e (more_follows s (at + k) u.feed d);
          digits = u.digits ∙ ap (λ (l : List ℕ). ds ++ l) (at_digit s (at + k) upto_inside d ∙ ap (λ (j : ℕ). get_or s (at + k) 0 ∷ leading (drop j s)) e)
              ∙ sym (append_assoc ds (get_or s (at + k) 0 ∷ []) (leading (drop (at + suc k) s)));
        }

    -- the byte behind them is none
    pub upto_all : is_digit (get_or s (at + k) 0) ≡ false → leading (drop at s) ≡ ds
    upto_all e = u.digits ∙ ap (λ (l : List ℕ). ds ++ l) (at_other s (at + k) upto_inside e) ∙ append-nil ds

-- digit by digit
module _ (s : List ℕ) (at : ℕ) (f : has_feed (drop at s) ≡ true) (d : is_digit (get_or s at 0) ≡ true) where
  pub one_digit : Upto s at 1 (get_or s at 0 ∷ [])
  one_digit = upto_one s at f d

  module _ (e : is_digit (get_or s (at + 1) 0) ≡ true) where
    pub two_digits : Upto s at 2 (get_or s at 0 ∷ get_or s (at + 1) 0 ∷ [])
    two_digits = upto_more s at 1 _ one_digit e

    module _ (g : is_digit (get_or s (at + 2) 0) ≡ true) where
      pub three_digits : Upto s at 3 (get_or s at 0 ∷ get_or s (at + 1) 0 ∷ get_or s (at + 2) 0 ∷ [])
      three_digits = upto_more s at 2 _ two_digits g

      pub four_digits : is_digit (get_or s (at + 3) 0) ≡ true
          → Upto s at 4 (get_or s at 0 ∷ get_or s (at + 1) 0 ∷ get_or s (at + 2) 0 ∷ get_or s (at + 3) 0 ∷ [])
      four_digits h = upto_more s at 3 _ three_digits h

-- ---- what the digits make

-- at most four digits, and no zero in front of others
pub few_read : (a : ℕ) (l : List ℕ) (v at : ℕ) → length l ≤ 3 → (not (some l) || not (eqb a 48)) ≡ true → v ≡ value (a ∷ l)
    → number_with (Some v) (at + suc (length l)) ≡ number_read (a ∷ l) at
unfolding number_read plain
few_read a l v at few zero e = rw (le-leb (suc (length l)) 4 (omega arith), zero) (ap (λ k. number_with (Some k) (at + suc (length l))) e)

faulty_read : (ds : List ℕ) (at : ℕ) → plain ds ≡ false → number_with None (at + length ds) ≡ number_read ds at
unfolding number_read
faulty_read ds at e = rw e refl

-- a zero, and a digit behind it
pub zero_read : (l : List ℕ) (b at : ℕ) → number_with None (at + length (48 ∷ b ∷ l)) ≡ number_read (48 ∷ b ∷ l) at
unfolding plain
zero_read l b at = faulty_read (48 ∷ b ∷ l) at (and-false (leb (length (48 ∷ b ∷ l)) 4))

-- five digits
pub long_read : (a b c d e : ℕ) (l : List ℕ) (at : ℕ) → number_with None (at + length (a ∷ b ∷ c ∷ d ∷ e ∷ l)) ≡ number_read (a ∷ b ∷ c ∷ d ∷ e ∷ l) at
unfolding plain
long_read a b c d e l at =
    faulty_read (a ∷ b ∷ c ∷ d ∷ e ∷ l) at (ap (λ (t : Bool). t && not (eqb a 48)) (lt-leb (length (a ∷ b ∷ c ∷ d ∷ e ∷ l)) 4 (omega arith)))

-- the digits that a text starts with, as std counts them
pub leading_count : (l : List ℕ) → length (take_while is_digit l) ≡ length (leading l)
unfolding leading
leading_count [] = refl
leading_count (b ∷ l) = rw (take_while-cons is_digit b l) (go (is_digit b) (leading_count l))
  where
    go : (d : Bool) → length (take_while is_digit l) ≡ length (leading l) → length (cond d (b ∷ take_while is_digit l) []) ≡ length (cond d (b ∷ leading l) [])
    go true e = ap suc e
    go false e = refl
