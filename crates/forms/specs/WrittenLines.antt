-- A form that is written out with numbers is a line: its bytes are printable, so no line feed stands in it and it is found again in a text, and its
-- numbers are plain, as question 4 asks.
-- Key idea: the words of a form are printable, which is one computed test, and so are digits; the first digit of a number that has two or more is not 0, since
-- it is the first digit of a tenth of it.
use Rattle.std.specs.Prelude.{◌≡◌, refl, Bool, true, false, ◌&&◌, ◌||◌, not, cond, List, [], ◌∷◌, ◌++◌, map, ℕ, zero, suc, ◌/◌, ◌%◌, ◌≤◌, ◌<◌, T, eqb, leb, length}
use Rattle.std.proofs.Common.{sym, ap, ◌∙◌, subst, append_assoc, arith, length-append, le-leb, leb-true, ne_eqb}
use Rattle.std.proofs.Math.Decide.{dec_le}
use Rattle.lists.specs.Lists.{every, joined}
use Rattle.lists.specs.Members.{both, left, right, and_left, and_right, every_both}
use Rattle.forms.specs.Words.{line_feed, zero_digit}
use Rattle.forms.specs.Form.{Piece, word, number, any_bytes, is_printable, is_digit, printable, some, plain, written}
use Rattle.forms.specs.FormLaws.{Digits, Suits}
use Rattle.forms.specs.Decimal.{digit, digits}
use Rattle.forms.specs.DecimalLaws.{digits_one, digits_last, line_short}
use Rattle.forms.specs.Lines.{TextLine, text_line, in_front, lines}

-- ---- printable

pub digit_printable : (b : ℕ) → is_digit b ≡ true → T (is_printable b)
digit_printable b e =
    let low = leb-true 48 b (and_left (leb 48 b) (leb b 57) e) in
    let high = leb-true b 57 (and_right (leb 48 b) (leb b 57) e) in
    rw (le-leb 32 b (omega (arith, low)), le-leb b 126 (omega (arith, high))) tt

digits_printable : (l : List ℕ) → Digits l → T (printable l)
unfolding printable
digits_printable [] h = tt
digits_printable (b ∷ l) h = both (is_printable b) (every is_printable l) (digit_printable b h.0) (digits_printable l h.1)

-- the words of a form
abbrev pub words_printable : List Piece → Bool
words_printable [] = true
words_printable (word w ∷ f) = printable w && words_printable f
words_printable (number ∷ f) = words_printable f
words_printable (any_bytes ∷ f) = words_printable f

pub written_printable : (f : List Piece) (ns : List (List ℕ)) → T (words_printable f) → Suits f ns → T (printable (written f ns))
unfolding written printable
written_printable [] ns h s = tt
written_printable (word w ∷ f) ns h s =
    every_both is_printable w (written f ns) (left (printable w) (words_printable f) h) (written_printable f ns (right (printable w) (words_printable f) h) s)
written_printable (number ∷ f) [] h s = absurd s
written_printable (number ∷ f) (n ∷ ns) h s =
    every_both is_printable n (written f ns) (digits_printable n s.0.digits) (written_printable f ns h s.1)
written_printable (any_bytes ∷ f) ns h s = written_printable f ns h s

-- ---- found again

feed_unprintable : (b : ℕ) → T (is_printable b) → eqb b line_feed ≡ false
feed_unprintable b h = ne_eqb b line_feed (λ e. subst (λ n. T (is_printable n)) e h)

pub next_line : (w t : List ℕ) → T (printable w) → lines (w ++ (line_feed ∷ t)) ≡ text_line w true ∷ lines t
unfolding lines printable
next_line [] t h = refl
next_line (b ∷ w) t h =
    ap (λ (e : Bool). cond e (text_line [] true ∷ lines (w ++ (line_feed ∷ t))) (in_front b (lines (w ++ (line_feed ∷ t)))))
    (feed_unprintable b (left (is_printable b) (every is_printable w) h))
    ∙ ap (in_front b) (next_line w t (right (is_printable b) (every is_printable w) h))

-- the lines of a list's entries, one after another
pub next_lines : {A : Type 0} (f : A → List ℕ) → ((x : A) → T (printable (f x))) → (xs : List A) (t : List ℕ)
    → lines (joined (map (λ x. f x ++ (line_feed ∷ [])) xs) ++ t) ≡ map (λ x. text_line (f x) true) xs ++ lines t
next_lines f h [] t = refl
next_lines f h (x ∷ xs) t =
    let rest = joined (map (λ y. f y ++ (line_feed ∷ [])) xs) in
    ap lines (append_assoc (f x ++ (line_feed ∷ [])) rest t ∙ append_assoc (f x) (line_feed ∷ []) (rest ++ t))
    ∙ next_line (f x) (rest ++ t) (h x) ∙ ap (λ (ls : List TextLine). text_line (f x) true ∷ ls) (next_lines f h xs t)

-- ---- plain

-- the first byte is not the digit 0
abbrev Starts : List ℕ → Type 0
Starts [] = ⊥
Starts (b ∷ l) = eqb b zero_digit ≡ false

starts_append : (xs ys : List ℕ) → Starts xs → Starts (xs ++ ys)
starts_append [] ys h = absurd h
starts_append (x ∷ xs) ys h = h

digits_start : (k n : ℕ) → n < k → 1 ≤ n → Starts (digits n)
digits_start zero n h p = absurd (omega arith)
digits_start (suc k) n h p = elim (dec_le 10 n) [
  | yes l ↦ subst Starts (sym (digits_last n l)) (starts_append (digits (n / 10)) (digits (n % 10)) (digits_start k (n / 10) (omega arith) (omega arith)))
  | no g ↦ subst Starts (sym (digits_one n (omega arith))) (ne_eqb (digit n) zero_digit (λ e. omega arith))
]

digits_short : (n : ℕ) → n < 10000 → length (digits n) ≤ 4
unfolding written
digits_short n h =
    omega (
      arith,
      line_short (number ∷ []) (n ∷ []) (4 ∷ []) (h, tt),
      length-append (digits n ++ []) (line_feed ∷ []),
      length-append (digits n) [],
    )

plain_of : (l : List ℕ) → Starts l → length l ≤ 4 → plain l ≡ true
unfolding plain
plain_of [] s h = absurd s
plain_of (b ∷ l) s h = rw (le-leb (length (b ∷ l)) 4 h) (go (some l) (eqb b zero_digit) s)
  where
    go : (e z : Bool) → z ≡ false → (not e || not z) ≡ true
    go true z f = ap not f
    go false z f = refl

pub digits_plain : (n : ℕ) → n < 10000 → plain (digits n) ≡ true
unfolding plain
digits_plain n h = elim (dec_le 1 n) [
  | yes l ↦ plain_of (digits n) (digits_start (suc n) n (omega arith) l) (digits_short n h)
  | no g ↦ ap plain (digits_one n (omega arith))
]
