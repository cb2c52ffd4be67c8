-- What `matches` and `numbers` mean: a line is of a form just when it is the form written out with some numbers, and these are its numbers.
-- Key idea: form and line are read together from the left. A word is cut off by its length. A number is cut off by its digits, and ends where the
-- next word begins, since in no form a digit follows a number. So a line of one form is read the same by another for as long as the two forms are the same,
-- and where a word of theirs differs, the other stops.
use Rattle.std.specs.Prelude.{ℕ, ◌≡◌, refl, Bool, true, false, ◌&&◌, not, cond, List, [], ◌∷◌, ◌++◌, length, drop, T, eqb}
use Rattle.std.proofs.Common.{ap, ap₂, ◌∙◌, eqb-true, eq-eqb}
use Rattle.std.proofs.Math.Seq.{drop-append_seam}
use Rattle.std.proofs.lemmas.Bool.{not-true}
use Rattle.lists.specs.Lists.{every}
use Rattle.lists.specs.Members.{false_not_true, and_left, and_right}
use Rattle.forms.specs.Words.{text}
use Rattle.forms.specs.Form.{is_digit, some, leading, past, Piece, word, number, any_bytes, starts_with, matches, numbers, written}
use Rattle.forms.specs.Forms.{span_form_of, unit_form_of, rule_form_of}
use Rattle.forms.specs.declared.House.{House}
use Rattle.forms.specs.declared.House.TheVariants.{Ours, Partner}

-- ---- digits

-- every byte is a digit
abbrev pub Digits : List ℕ → Type 0
Digits [] = Unit {0}
Digits (b ∷ l) = (is_digit b ≡ true) × Digits l

pub leading_digits : (l : List ℕ) → Digits (leading l)
unfolding leading
leading_digits [] = tt
leading_digits (b ∷ l) = go (is_digit b) refl (leading_digits l)
  where
    go : (d : Bool) → is_digit b ≡ d → Digits (leading l) → Digits (cond d (b ∷ leading l) [])
    go true e h = (e, h)
    go false e h = tt

leading_past : (l : List ℕ) → leading l ++ past l ≡ l
unfolding leading past
leading_past [] = refl
leading_past (b ∷ l) = go (is_digit b) (leading_past l)
  where
    go : (d : Bool) → leading l ++ past l ≡ l → cond d (b ∷ leading l) [] ++ cond d (past l) (b ∷ l) ≡ b ∷ l
    go true e = ap (λ (m : List ℕ). b ∷ m) e
    go false e = refl

pub past_drop : (l : List ℕ) → past l ≡ drop (length (leading l)) l
unfolding past leading
past_drop [] = refl
past_drop (b ∷ l) = go (is_digit b) (past_drop l)
  where
    go : (d : Bool) → past l ≡ drop (length (leading l)) l → cond d (past l) (b ∷ l) ≡ drop (length (cond d (b ∷ leading l) [])) (b ∷ l)
    go true e = e
    go false e = refl

-- ---- a line of a form is the form written out with its numbers

-- a number is one or more digits
pub record Number (n : List ℕ) : Type 0 where
  pub digits : Digits n
  pub not_empty : some n ≡ true

-- one number for each number of the form
abbrev pub Suits : List Piece → List (List ℕ) → Type 0
Suits [] [] = Unit {0}
Suits [] (n ∷ ns) = ⊥
Suits (word w ∷ f) ns = Suits f ns
Suits (number ∷ f) [] = ⊥
Suits (number ∷ f) (n ∷ ns) = Number n × Suits f ns
Suits (any_bytes ∷ f) ns = Suits f ns

-- a form of words and numbers alone
abbrev pub fixed : List Piece → Bool
fixed [] = true
fixed (word w ∷ f) = fixed f
fixed (number ∷ f) = fixed f
fixed (any_bytes ∷ f) = false

starts : (w l : List ℕ) → starts_with w l ≡ true → w ++ drop (length w) l ≡ l
starts [] l h = refl
starts (x ∷ w) [] h = false_not_true h
starts (x ∷ w) (b ∷ l) h =
    ap₂ (λ (y : ℕ) (m : List ℕ). y ∷ m) (eqb-true x b (and_left (eqb x b) (starts_with w l) h)) (starts w l (and_right (eqb x b) (starts_with w l) h))

pub is_written : (f : List Piece) (l : List ℕ) → fixed f ≡ true → matches f l ≡ true → written f (numbers f l) ≡ l
unfolding matches numbers written
is_written [] [] e h = refl
is_written [] (b ∷ l) e h = false_not_true h
is_written (word w ∷ f) l e h =
    let m = drop (length w) l in
    ap (λ (k : List ℕ). w ++ k) (is_written f m e (and_right (starts_with w l) (matches f m) h))
    ∙ starts w l (and_left (starts_with w l) (matches f m) h)
is_written (number ∷ f) l e h =
    ap (λ (m : List ℕ). leading l ++ m) (is_written f (past l) e (and_right (some (leading l)) (matches f (past l)) h)) ∙ leading_past l
is_written (any_bytes ∷ f) l e h = false_not_true e

pub has_numbers : (f : List Piece) (l : List ℕ) → fixed f ≡ true → matches f l ≡ true → Suits f (numbers f l)
unfolding matches numbers
has_numbers [] l e h = tt
has_numbers (word w ∷ f) l e h = has_numbers f (drop (length w) l) e (and_right (starts_with w l) (matches f (drop (length w) l)) h)
has_numbers (number ∷ f) l e h = (
  record { digits = leading_digits l; not_empty = and_left (some (leading l)) (matches f (past l)) h },
  has_numbers f (past l) e (and_right (some (leading l)) (matches f (past l)) h),
)
has_numbers (any_bytes ∷ f) l e h = false_not_true e

-- ---- a form written out with numbers is a line of the form, with these numbers

-- in a form of words and numbers alone, a number is followed by the end, or by a word that starts with no digit
abbrev pub separated : List Piece → Bool
separated [] = true
separated (word w ∷ f) = separated f
separated (number ∷ []) = true
separated (number ∷ (number ∷ f)) = false
separated (number ∷ (any_bytes ∷ f)) = false
separated (number ∷ (word [] ∷ f)) = false
separated (number ∷ (word (b ∷ w) ∷ f)) = not (is_digit b) && separated f
separated (any_bytes ∷ f) = false

-- a text that starts with no digit
abbrev Stops : List ℕ → Type 0
Stops [] = Unit {0}
Stops (b ∷ l) = is_digit b ≡ false

leading_of : (n m : List ℕ) → Digits n → Stops m → leading (n ++ m) ≡ n
unfolding leading
leading_of [] [] d h = refl
leading_of [] (b ∷ m) d h = ap (λ (e : Bool). cond e (b ∷ leading m) []) h
leading_of (b ∷ n) m d h =
    ap (λ (e : Bool). cond e (b ∷ leading (n ++ m)) []) d.0 ∙ ap (λ (k : List ℕ). b ∷ k) (leading_of n m d.1 h)

past_of : (n m : List ℕ) → Digits n → Stops m → past (n ++ m) ≡ m
unfolding past
past_of [] [] d h = refl
past_of [] (b ∷ m) d h = ap (λ (e : Bool). cond e (past m) (b ∷ m)) h
past_of (b ∷ n) m d h = ap (λ (e : Bool). cond e (past (n ++ m)) (b ∷ (n ++ m))) d.0 ∙ past_of n m d.1 h

stops : (f : List Piece) (ns : List (List ℕ)) → separated (number ∷ f) ≡ true → Stops (written f ns)
unfolding written
stops [] ns h = tt
stops (number ∷ f) ns h = false_not_true h
stops (any_bytes ∷ f) ns h = false_not_true h
stops (word [] ∷ f) ns h = false_not_true h
stops (word (b ∷ w) ∷ f) ns h = not-true (is_digit b) (and_left (not (is_digit b)) (separated f) h)

separated_tail : (f : List Piece) → separated (number ∷ f) ≡ true → separated f ≡ true
separated_tail [] h = refl
separated_tail (number ∷ f) h = false_not_true h
separated_tail (any_bytes ∷ f) h = false_not_true h
separated_tail (word [] ∷ f) h = false_not_true h
separated_tail (word (b ∷ w) ∷ f) h = and_right (not (is_digit b)) (separated f) h

starts_own : (w m : List ℕ) → starts_with w (w ++ m) ≡ true
starts_own [] m = refl
starts_own (x ∷ w) m = rw (eq-eqb x x refl) (starts_own w m)

-- the form's own words and numbers are found again
pub record Read (f : List Piece) (ns : List (List ℕ)) : Type 0 where
  pub matched : matches f (written f ns) ≡ true
  pub found : numbers f (written f ns) ≡ ns

pub written_matches : (f : List Piece) (ns : List (List ℕ)) → separated f ≡ true → Suits f ns → Read f ns
unfolding matches numbers written
written_matches [] [] h s = record { matched = refl; found = refl }
written_matches [] (n ∷ ns) h s = absurd s
written_matches (word w ∷ f) ns h s =
    let r = written_matches f ns h s in
    let d = drop-append_seam w (written f ns) in
    record { matched = rw d (rw (starts_own w (written f ns)) r.matched); found = rw d r.found }
written_matches (any_bytes ∷ f) ns h s = false_not_true h
written_matches (number ∷ f) [] h s = absurd s
written_matches (number ∷ f) (n ∷ ns) h s =
    let w = stops f ns h in
    let a = leading_of n (written f ns) s.0.digits w in
    let b = past_of n (written f ns) s.0.digits w in
    let r = written_matches f ns (separated_tail f h) s.1 in
    record { matched = rw (a, b) (rw s.0.not_empty r.matched); found = rw (a, b) (ap (λ (ms : List (List ℕ)). n ∷ ms) r.found) }

-- so it is of the lines of a sheet
pub sheet_separated : (h : House) → every separated (span_form_of h ∷ unit_form_of h ∷ rule_form_of h ∷ []) ≡ true
unfolding text
sheet_separated Ours = refl
sheet_separated Partner = refl

-- ---- a form written out is no line of another form

-- two words that differ before either ends; or they are the same, and so it is of what stands behind them
abbrev words_apart : List ℕ → List ℕ → Bool → Bool
words_apart [] [] rest = rest
words_apart [] (y ∷ w) rest = false
words_apart (x ∷ v) [] rest = false
words_apart (x ∷ v) (y ∷ w) rest = cond (eqb x y) (words_apart v w rest) true

-- two forms that begin with the same words and numbers, up to a word where they differ
abbrev pub forms_apart : List Piece → List Piece → Bool
forms_apart [] f = false
forms_apart (word v ∷ g) [] = false
forms_apart (word v ∷ g) (word w ∷ f) = words_apart v w (forms_apart g f)
forms_apart (word v ∷ g) (number ∷ f) = false
forms_apart (number ∷ g) [] = false
forms_apart (number ∷ g) (word w ∷ f) = false
forms_apart (number ∷ g) (number ∷ f) = forms_apart g f
forms_apart (any_bytes ∷ g) f = false
forms_apart (word v ∷ g) (any_bytes ∷ f) = false
forms_apart (number ∷ g) (any_bytes ∷ f) = false

-- past two words that are the same the rest is read, by m
past_words : (v w : List ℕ) (rest : Bool) (t : List ℕ) (m : List ℕ → Bool) → T (words_apart v w rest) → (T rest → m t ≡ false)
    → (starts_with v (w ++ t) && m (drop (length v) (w ++ t))) ≡ false
past_words [] [] rest t m h k = k h
past_words [] (y ∷ w) rest t m h k = absurd h
past_words (x ∷ v) [] rest t m h k = absurd h
past_words (x ∷ v) (y ∷ w) rest t m h k = go (eqb x y) h (λ e. past_words v w rest t m e k)
  where
    go : (e : Bool) → T (cond e (words_apart v w rest) true)
        → (T (words_apart v w rest) → (starts_with v (w ++ t) && m (drop (length v) (w ++ t))) ≡ false)
        → ((e && starts_with v (w ++ t)) && m (drop (length v) (w ++ t))) ≡ false
    go true h same = same h
    go false h same = refl

pub apart_unmatched : (g f : List Piece) (ns : List (List ℕ)) → T (forms_apart g f) → separated f ≡ true → Suits f ns → matches g (written f ns) ≡ false
unfolding matches written
apart_unmatched [] f ns h e s = absurd h
apart_unmatched (word v ∷ g) [] ns h e s = absurd h
apart_unmatched (word v ∷ g) (word w ∷ f) ns h e s =
    past_words v w (forms_apart g f) (written f ns) (matches g) h (λ k. apart_unmatched g f ns k e s)
apart_unmatched (word v ∷ g) (number ∷ f) ns h e s = absurd h
apart_unmatched (number ∷ g) [] ns h e s = absurd h
apart_unmatched (number ∷ g) (word w ∷ f) ns h e s = absurd h
apart_unmatched (any_bytes ∷ g) f ns h e s = absurd h
apart_unmatched (word v ∷ g) (any_bytes ∷ f) ns h e s = absurd h
apart_unmatched (number ∷ g) (any_bytes ∷ f) ns h e s = absurd h
apart_unmatched (number ∷ g) (number ∷ f) [] h e s = absurd s
apart_unmatched (number ∷ g) (number ∷ f) (n ∷ ns) h e s =
    let a = leading_of n (written f ns) s.0.digits (stops f ns e) in
    let b = past_of n (written f ns) s.0.digits (stops f ns e) in
    rw (a, b) (rw s.0.not_empty (apart_unmatched g f ns h (separated_tail f e) s.1))
