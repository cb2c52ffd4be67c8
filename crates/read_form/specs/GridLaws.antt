-- The grid reads the forms: `grid_reads`, that the state past a line's feed is the code of what the line is.
-- Key idea: what a line is, is the same read from a state as read past its first byte from the state that follows (`in_line_law`). A byte and the
-- byte that stands for its class lead to the same state (`follows_same`). It is left that every state that follows over such a byte has a number: one
-- test over all states and classes, which is computed for each house (`numbered`).
use Rattle.std.specs.Prelude.{ℕ, zero, suc, ◌-◌, ◌<◌, ◌≤◌, ◌≡◌, Bool, ◌&&◌, ◌||◌, cond, length, drop}
use Rattle.std.proofs.Math.Path.{refl, sym, ap}
use Rattle.std.proofs.Common.{ap₂, subst, ◌∙◌, arith, length-drop, get_or-drop, eqb→eq, ne_eqb}
use Rattle.std.proofs.Math.Bool.{true, false, not, and_assoc}
use mathlib.Core.List.{List, [], ◌∷◌, ◌++◌, map}
use Rattle.std.proofs.Math.ListN.{get_or}
use Rattle.std.proofs.Math.Dec.{T, eqb}
use Rattle.lists.specs.Lists.{every, cons_if}
use Rattle.lists.specs.Members.{left, right, and_left, and_right, every_at}
use Rattle.forms.specs.Words.{line_feed, zero_digit, text}
use Rattle.forms.specs.Form.{is_printable, is_digit, printable, some, leading, past, Piece, word, number, any_bytes, starts_with, matches}
use Rattle.forms.specs.declared.House.{House}
use Rattle.forms.specs.declared.House.TheVariants.{Ours, Partner}
use Rattle.read_form.specs.Kinds.{Shape, shapes_of, first_shape, kind_of}
use Rattle.read_form.specs.Grid.{Sign, byte, digit, more, free, signs, fits, Way, way, first_of, go_on, over, State, ended, unprintable, going}
use Rattle.read_form.specs.Grid.{kind_from, in_line, follows, start_ways, code, kind_of_code, sign_code, same_all, same_kind, same_sign, same_way, same_state}
use Rattle.read_form.specs.Grid.{member_by, place_in, state_count, ends, states, start, place_of, state_at, other_byte, class_count, class_bytes, stand_in}
use Rattle.read_form.specs.Grid.{class_of, grid, next_of, run_of}
use Rattle.read_form.specs.declared.Kind.{Kind}
use Rattle.read_form.specs.declared.Kind.TheVariants.{Unprintable, Note, Sheet, Unit, Rule, Other}

-- ---- forms, sign by sign

word_fits : (w : List ℕ) (t : List Sign) (l : List ℕ) → fits (map byte w ++ t) l ≡ (starts_with w l && fits t (drop (length w) l))
unfolding fits
word_fits [] t l = refl
word_fits (x ∷ w) t [] = refl
word_fits (x ∷ w) t (b ∷ l) =
    ap (λ (v : Bool). eqb x b && v) (word_fits w t l) ∙ sym (and_assoc (eqb x b) (starts_with w l) (fits t (drop (length w) l)))

pub signs_fit : (f : List Piece) (l : List ℕ) → fits (signs f) l ≡ matches f l
unfolding fits matches leading past
signs_fit [] l = refl
signs_fit (word w ∷ f) l = word_fits w (signs f) l ∙ ap (λ (v : Bool). starts_with w l && v) (signs_fit f (drop (length w) l))
signs_fit (number ∷ f) [] = refl
signs_fit (number ∷ f) (b ∷ l) = go (is_digit b) (signs_fit f (past l))
  where
    go : (d : Bool) → fits (signs f) (past l) ≡ matches f (past l)
        → (d && fits (signs f) (past l)) ≡ (some (cond d (b ∷ leading l) []) && matches f (cond d (past l) (b ∷ l)))
    go true e = e
    go false e = refl
signs_fit (any_bytes ∷ f) l = refl

-- ---- what a line is, from a state on

taken : (k : Kind) (t : List Sign) (l : List ℕ) (ws : List Way) (e : Bool) → first_of (cons_if e (way k t) ws) l ≡ cond (e && fits t l) k (first_of ws l)
unfolding first_of
taken k t l ws true = refl
taken k t l ws false = refl

go_on_law : (k : Kind) (t : List Sign) (b : ℕ) (l : List ℕ) (ws : List Way) → first_of (go_on k t b ws) l ≡ cond (fits t (b ∷ l)) k (first_of ws l)
unfolding first_of fits past
go_on_law k [] b l ws = refl
go_on_law k (byte x ∷ t) b l ws = taken k t l ws (eqb x b)
go_on_law k (digit ∷ t) b l ws = taken k t l ws (is_digit b)
go_on_law k (more ∷ t) b l ws = go (is_digit b) (go_on_law k t b l ws)
  where
    go : (d : Bool) → first_of (go_on k t b ws) l ≡ cond (fits t (b ∷ l)) k (first_of ws l)
        → first_of (cond d (way k (more ∷ t) ∷ ws) (go_on k t b ws)) l ≡ cond (fits t (cond d (past l) (b ∷ l))) k (first_of ws l)
    go true e = refl
    go false e = e
go_on_law k (free ∷ t) b l ws = refl

over_law : (ws : List Way) (b : ℕ) (l : List ℕ) → first_of (over ws b) l ≡ first_of ws (b ∷ l)
unfolding first_of over
over_law [] b l = refl
over_law (way k t ∷ ws) b l = go_on_law k t b l (over ws b) ∙ ap (cond (fits t (b ∷ l)) k) (over_law ws b l)

in_line_law : (s : State) (b : ℕ) (l : List ℕ) → kind_from (in_line s b) l ≡ kind_from s (b ∷ l)
unfolding printable
in_line_law (ended k) b l = refl
in_line_law unprintable b l = refl
in_line_law (going ws) b l = go (is_printable b)
  where
    go : (p : Bool) → kind_from (cond p (going (over ws b)) unprintable) l ≡ cond (p && printable l) (first_of ws (b ∷ l)) Unprintable
    go true = ap (λ (k : Kind). cond (printable l) k Unprintable) (over_law ws b l)
    go false = refl

-- ---- a byte and the byte that stands for its class lead to the same state

-- a byte that a form may show: it has a class of its own
abbrev shown : ℕ → Bool
shown x = member_by eqb class_bytes x && (not (is_digit x) && not (eqb x other_byte))

fails : (b : Bool) → T (not b) → b ≡ false
fails true h = absurd h
fails false h = refl

holds : (b : Bool) → T b → not b ≡ false
holds true h = refl
holds false h = absurd h

apart : (f : ℕ → Bool) (x b : ℕ) → f x ≡ false → f b ≡ true → eqb x b ≡ false
apart f x b n y = ne_eqb x b (λ e. subst T (sym (sym n ∙ ap f e ∙ y)) tt)

module _ (b : ℕ) where
  -- printable, and the line feed, as what stands for it
  stands_alike : (is_printable (stand_in b) ≡ is_printable b) × (eqb (stand_in b) line_feed ≡ eqb b line_feed)
  unfolding stand_in
  stands_alike = go (is_printable b) (is_digit b) (member_by eqb class_bytes b) (eqb b line_feed) refl refl refl
    where
      no_feed : is_printable b ≡ true → false ≡ eqb b line_feed
      no_feed p = sym (apart (λ x. not (is_printable x)) b line_feed (ap not p) refl)

      go : (p d m f : Bool) → is_printable b ≡ p → is_digit b ≡ d → eqb b line_feed ≡ f
          → (is_printable (cond p (cond d zero_digit (cond m b other_byte)) (cond f line_feed 0)) ≡ is_printable b)
          × (eqb (cond p (cond d zero_digit (cond m b other_byte)) (cond f line_feed 0)) line_feed ≡ eqb b line_feed)
      go false d m true p e f = (sym p, sym f)
      go false d m false p e f = (sym p, sym f)
      go true true m f p e g = (sym p, no_feed p)
      go true false true f p e g = (refl, refl)
      go true false false f p e g = (sym p, no_feed p)

  -- the same to every sign
  stands_same : is_printable b ≡ true → (is_digit (stand_in b) ≡ is_digit b) × ((x : ℕ) → T (shown x) → eqb x (stand_in b) ≡ eqb x b)
  unfolding stand_in
  stands_same p = rw p (go (is_digit b) (member_by eqb class_bytes b) refl refl)
    where
      no_digit : (x : ℕ) → T (shown x) → is_digit x ≡ false
      no_digit x h = fails (is_digit x) (left (not (is_digit x)) _ (right (member_by eqb class_bytes x) _ h))

      go : (d m : Bool) → is_digit b ≡ d → member_by eqb class_bytes b ≡ m → (is_digit (cond d zero_digit (cond m b other_byte)) ≡ is_digit b)
          × ((x : ℕ) → T (shown x) → eqb x (cond d zero_digit (cond m b other_byte)) ≡ eqb x b)
      go true m e f = (sym e, λ x h. apart is_digit x zero_digit (no_digit x h) refl ∙ sym (apart is_digit x b (no_digit x h) e))
      go false true e f = (refl, λ x h. refl)
      go false false e f = (
        sym e,
        λ x h. fails (eqb x other_byte) (right (not (is_digit x)) _ (right (member_by eqb class_bytes x) _ h))
            ∙ sym (apart (λ y. not (member_by eqb class_bytes y)) x b (holds (member_by eqb class_bytes x) (left (member_by eqb class_bytes x) _ h)) (ap not f)),
      )

-- what a state looks at in a byte: its next sign
abbrev first_shown : List Sign → Bool
first_shown [] = true
first_shown (byte x ∷ t) = shown x
first_shown (digit ∷ t) = true
first_shown (more ∷ t) = first_shown t
first_shown (free ∷ t) = true

abbrev way_shown : Way → Bool
way_shown (way k t) = first_shown t

abbrev state_shown : State → Bool
state_shown (ended k) = true
state_shown unprintable = true
state_shown (going ws) = every way_shown ws

module _ (b : ℕ) (p : is_printable b ≡ true) where
  go_on_same : (k : Kind) (t : List Sign) (ws : List Way) → T (first_shown t) → go_on k t (stand_in b) ws ≡ go_on k t b ws
  go_on_same k [] ws h = refl
  go_on_same k (byte x ∷ t) ws h = ap (λ (e : Bool). cons_if e (way k t) ws) ((stands_same b p).1 x h)
  go_on_same k (digit ∷ t) ws h = ap (λ (e : Bool). cons_if e (way k t) ws) (stands_same b p).0
  go_on_same k (more ∷ t) ws h =
      ap₂ (λ (e : Bool) (us : List Way). cond e (way k (more ∷ t) ∷ ws) us) (stands_same b p).0 (go_on_same k t ws h)
  go_on_same k (free ∷ t) ws h = refl

  over_same : (ws : List Way) → T (every way_shown ws) → over ws (stand_in b) ≡ over ws b
  unfolding over
  over_same [] h = refl
  over_same (way k t ∷ ws) h =
      go_on_same k t (over ws (stand_in b)) (left (first_shown t) (every way_shown ws) h)
      ∙ ap (go_on k t b) (over_same ws (right (first_shown t) (every way_shown ws) h))

in_line_same : (s : State) → T (state_shown s) → (b : ℕ) → in_line s (stand_in b) ≡ in_line s b
in_line_same (ended k) h b = refl
in_line_same unprintable h b = refl
in_line_same (going ws) h b =
    ap (λ (p : Bool). cond p (going (over ws (stand_in b))) unprintable) (stands_alike b).0 ∙ go (is_printable b) refl
  where
    go : (p : Bool) → is_printable b ≡ p → cond p (going (over ws (stand_in b))) unprintable ≡ cond p (going (over ws b)) unprintable
    go true e = ap going (over_same b e ws h)
    go false e = refl

follows_same : (s : State) → T (state_shown s) → (b : ℕ) → follows s (stand_in b) ≡ follows s b
follows_same s h b = ap₂ (λ (f : Bool) (r : State). cond f (ended (kind_from s [])) r) (stands_alike b).1 (in_line_same s h b)

-- ---- what has a place in a list is found there

module _ {A : Type 0} (same : A → A → Bool) (equal : (x y : A) → T (same x y) → x ≡ y) where
  placed : (xs : List A) (x d : A) → T (member_by same xs x) → get_or xs (place_in same xs x) d ≡ x
  placed [] x d m = absurd m
  placed (y ∷ ys) x d m = go (same y x) refl m (placed ys x d)
    where
      go : (e : Bool) → same y x ≡ e → T (e || member_by same ys x) → (T (member_by same ys x) → get_or ys (place_in same ys x) d ≡ x)
          → get_or (y ∷ ys) (cond e zero (suc (place_in same ys x))) d ≡ x
      go true e m h = equal y x (subst T (sym e) tt)
      go false e m h = h m

  place_inside : (xs : List A) (x : A) → T (member_by same xs x) → place_in same xs x < length xs
  place_inside [] x m = absurd m
  place_inside (y ∷ ys) x m = go (same y x) m (place_inside ys x)
    where
      go : (e : Bool) → T (e || member_by same ys x) → (T (member_by same ys x) → place_in same ys x < length ys)
          → cond e zero (suc (place_in same ys x)) < suc (length ys)
      go true m h = omega arith
      go false m h = let k = h m in omega arith

  pub same_all_lem : (xs ys : List A) → T (same_all same xs ys) → xs ≡ ys
  same_all_lem [] [] h = refl
  same_all_lem [] (y ∷ ys) h = absurd h
  same_all_lem (x ∷ xs) [] h = absurd h
  same_all_lem (x ∷ xs) (y ∷ ys) h =
      ap₂ (λ (z : A) (zs : List A). z ∷ zs) (equal x y (left (same x y) (same_all same xs ys) h))
      (same_all_lem xs ys (right (same x y) (same_all same xs ys) h))

stands_in : (b : ℕ) → T (member_by eqb class_bytes (stand_in b))
unfolding stand_in class_bytes text
stands_in b = go (is_printable b) (is_digit b) (member_by eqb class_bytes b) (eqb b line_feed) refl
  where
    go : (p d m f : Bool) → member_by eqb class_bytes b ≡ m
        → T (member_by eqb class_bytes (cond p (cond d zero_digit (cond m b other_byte)) (cond f line_feed 0)))
    go false d m true e = tt
    go false d m false e = tt
    go true true m f e = tt
    go true false true f e = subst T (sym e) tt
    go true false false f e = tt

class_bytes_lem : length class_bytes ≡ class_count
unfolding class_bytes text
class_bytes_lem = refl

pub class_small : (b : ℕ) → class_of b < class_count
unfolding class_of
class_small b = subst (λ n. class_of b < n) class_bytes_lem (place_inside eqb eqb→eq class_bytes (stand_in b) (stands_in b))

class_byte : (b : ℕ) → get_or class_bytes (class_of b) 0 ≡ stand_in b
unfolding class_of
class_byte b = placed eqb eqb→eq class_bytes (stand_in b) 0 (stands_in b)

-- ---- states are compared by computing

coded : {A : Type 0} (toCode : A → ℕ) (of_code : ℕ → A) → ((x : A) → of_code (toCode x) ≡ x) → (x y : A) → T (eqb (toCode x) (toCode y)) → x ≡ y
coded toCode of_code back x y h = sym (back x) ∙ ap of_code (eqb→eq (toCode x) (toCode y) h) ∙ back y

pub kind_back : (k : Kind) → kind_of_code (code k) ≡ k
kind_back Unprintable = refl
kind_back Note = refl
kind_back Sheet = refl
kind_back Unit = refl
kind_back Rule = refl
kind_back Other = refl

code_small : (k : Kind) → code k < ends
code_small Unprintable = omega arith
code_small Note = omega arith
code_small Sheet = omega arith
code_small Unit = omega arith
code_small Rule = omega arith
code_small Other = omega arith

pub same_kind_lem : (j k : Kind) → T (same_kind j k) → j ≡ k
same_kind_lem j k h = coded code kind_of_code kind_back j k h

abbrev sign_of_code : ℕ → Sign
sign_of_code zero = digit
sign_of_code (suc zero) = more
sign_of_code (suc (suc zero)) = free
sign_of_code (suc (suc (suc x))) = byte x

sign_back : (s : Sign) → sign_of_code (sign_code s) ≡ s
sign_back digit = refl
sign_back more = refl
sign_back free = refl
sign_back (byte x) = refl

same_way_lem : (v w : Way) → T (same_way v w) → v ≡ w
same_way_lem (way j t) (way k u) h =
    ap₂ way (same_kind_lem j k (left (same_kind j k) (same_all same_sign t u) h))
    (same_all_lem same_sign (coded sign_code sign_of_code sign_back) t u (right (same_kind j k) (same_all same_sign t u) h))

same_state_lem : (r s : State) → T (same_state r s) → r ≡ s
same_state_lem (ended j) (ended k) h = ap ended (same_kind_lem j k h)
same_state_lem (ended j) unprintable h = absurd h
same_state_lem (ended j) (going ws) h = absurd h
same_state_lem unprintable (ended k) h = absurd h
same_state_lem unprintable unprintable h = refl
same_state_lem unprintable (going ws) h = absurd h
same_state_lem (going vs) (ended k) h = absurd h
same_state_lem (going vs) unprintable h = absurd h
same_state_lem (going vs) (going ws) h = ap going (same_all_lem same_way same_way_lem vs ws h)

-- ---- the grid follows the states

-- what a state looks at has a class of its own, and every state that follows has a number
abbrev tested : House → State → Bool
tested h s = state_shown s && every (λ b. member_by same_state (states h) (follows s b)) class_bytes

numbered : (h : House) → T (every (tested h) (states h))
unfolding states over class_bytes text printable first_of fits past
numbered Ours = tt
numbered Partner = tt

pub states_length : (h : House) → length (states h) ≡ state_count
unfolding states over text
states_length Ours = refl
states_length Partner = refl

at_map : {A B : Type 0} (f : A → B) (xs : List A) (i : ℕ) (d : A) (e : B) → i < length xs → get_or (map f xs) i e ≡ f (get_or xs i d)
at_map f [] i d e h = absurd (omega arith)
at_map f (x ∷ xs) zero d e h = refl
at_map f (x ∷ xs) (suc i) d e h = at_map f xs i d e (omega arith)

-- ---- the states of a line that has not ended

abbrev goes_on : State → Bool
goes_on (ended k) = false
goes_on unprintable = true
goes_on (going ws) = true

-- the first numbers are those of the ended states
open_states : (h : House) → T (every goes_on (drop ends (states h)))
unfolding states over text
open_states Ours = tt
open_states Partner = tt

ended_place : (h : House) (k : Kind) → place_of h (ended k) ≡ code k
unfolding states
ended_place h Unprintable = refl
ended_place h Note = refl
ended_place h Sheet = refl
ended_place h Unit = refl
ended_place h Rule = refl
ended_place h Other = refl

open_place : (h : House) (s : State) → T (goes_on s) → ends ≤ place_of h s
unfolding states
open_place h (ended k) t = absurd t
open_place h unprintable t = omega arith
open_place h (going ws) t = omega arith

open_follows : (s : State) (b : ℕ) → T (goes_on s) → eqb b line_feed ≡ false → T (goes_on (follows s b))
open_follows (ended k) b t e = absurd t
open_follows unprintable b t e = rw e tt
open_follows (going ws) b t e = rw e (go (is_printable b))
  where
    go : (p : Bool) → T (goes_on (cond p (going (over ws b)) unprintable))
    go true = tt
    go false = tt

-- ---- the grid follows the states

module _ (h : House) (q : ℕ) (hq : q < state_count) where
  in_states : q < length (states h)
  in_states = subst (λ n. q < n) (sym (states_length h)) hq

  open_state : ends ≤ q → T (goes_on (state_at h q))
  open_state o =
      subst (λ s. T (goes_on s)) (get_or-drop ends (states h) (q - ends) (going []) ∙ ap (state_at h) (omega arith))
      (every_at goes_on (going []) (drop ends (states h)) (open_states h) (q - ends) (rw (length-drop ends (states h), states_length h) (omega arith)))

  state_tested : T (tested h (state_at h q))
  state_tested = every_at (tested h) (going []) (states h) (numbered h) q in_states

  module _ (b : ℕ) where
    -- the byte of b's class leads to the same state
    class_follows : follows (state_at h q) (get_or class_bytes (class_of b) 0) ≡ follows (state_at h q) b
    class_follows =
        ap (follows (state_at h q)) (class_byte b) ∙ follows_same (state_at h q) (left (state_shown (state_at h q)) _ state_tested) b

    in_classes : class_of b < length class_bytes
    in_classes = subst (λ n. class_of b < n) (sym class_bytes_lem) (class_small b)

    next_is : next_of h q (class_of b) ≡ place_of h (follows (state_at h q) b)
    unfolding grid
    next_is =
        ap (λ (row : List ℕ). get_or row (class_of b) 0)
        (at_map (λ s. map (λ x. place_of h (follows s x)) class_bytes) (states h) q (going []) [] in_states)
        ∙ at_map (λ x. place_of h (follows (state_at h q) x)) class_bytes (class_of b) 0 0 in_classes ∙ ap (place_of h) class_follows

    next_member : T (member_by same_state (states h) (follows (state_at h q) b))
    next_member =
        subst (λ s. T (member_by same_state (states h) s)) class_follows
        (every_at (λ x. member_by same_state (states h) (follows (state_at h q) x)) 0 class_bytes (right (state_shown (state_at h q)) _ state_tested) (class_of b)
        in_classes)

    pub next_inside : next_of h q (class_of b) < state_count
    next_inside =
        subst (λ n. next_of h q (class_of b) < n) (states_length h)
        (rw next_is (place_inside same_state same_state_lem (states h) (follows (state_at h q) b) next_member))

    pub next_state : state_at h (next_of h q (class_of b)) ≡ follows (state_at h q) b
    next_state = rw next_is (placed same_state same_state_lem (states h) (follows (state_at h q) b) (going []) next_member)

    -- a line goes on up to its line feed
    pub next_going : ends ≤ q → eqb b line_feed ≡ false → ends ≤ next_of h q (class_of b)
    next_going o e = rw next_is (open_place h (follows (state_at h q) b) (open_follows (state_at h q) b (open_state o) e))

  pub feed_ends : next_of h q (class_of line_feed) ≡ code (kind_from (state_at h q) [])
  feed_ends = next_is line_feed ∙ ended_place h (kind_from (state_at h q) [])

  -- the line feed ends it
  pub next_ended : next_of h q (class_of line_feed) < ends
  next_ended = rw feed_ends (code_small (kind_from (state_at h q) []))

-- ---- lines

abbrev pub feedless : List ℕ → Bool
feedless l = every (λ b. not (eqb b line_feed)) l

no_feed : (b : ℕ) (l : List ℕ) → feedless (b ∷ l) ≡ true → eqb b line_feed ≡ false
no_feed b l e = fails (eqb b line_feed) (subst T (sym (and_left (not (eqb b line_feed)) (feedless l) e)) tt)

reads : (h : House) (l : List ℕ) (q : ℕ) → q < state_count → feedless l ≡ true → next_of h (run_of h q l) (class_of line_feed) ≡ code (kind_from (state_at h q) l)
unfolding run_of
reads h [] q i e = feed_ends h q i
reads h (b ∷ l) q i e =
    reads h l (next_of h q (class_of b)) (next_inside h q i b) (and_right (not (eqb b line_feed)) (feedless l) e)
    ∙ ap (λ (s : State). code (kind_from s l)) (next_state h q i b)
    ∙ ap (λ (f : Bool). code (kind_from (cond f (ended (kind_from (state_at h q) [])) (in_line (state_at h q) b)) l)) (no_feed b l e)
    ∙ ap code (in_line_law (state_at h q) b l)

shapes_fit : (ss : List Shape) (l : List ℕ) → first_of (start_ways ss) l ≡ first_shape ss l
unfolding first_of
shapes_fit [] l = refl
shapes_fit (s ∷ ss) l = ap₂ (λ (m : Bool) (k : Kind). cond m s.kind k) (signs_fit s.form l) (shapes_fit ss l)

pub start_inside : (ends ≤ start) × (start < state_count)
start_inside = (omega arith, omega arith)

pub start_state : (h : House) → state_at h start ≡ going (start_ways (shapes_of h))
unfolding states over text
start_state Ours = refl
start_state Partner = refl

start_kind : (h : House) (l : List ℕ) → kind_from (state_at h start) l ≡ kind_of h l
unfolding kind_of
start_kind h l = ap (λ s. kind_from s l) (start_state h) ∙ ap (λ (k : Kind). cond (printable l) k Unprintable) (shapes_fit (shapes_of h) l)

-- a line has not ended before its line feed
pub run_going : (h : House) (l : List ℕ) (q : ℕ) → ends ≤ q → q < state_count → feedless l ≡ true → (ends ≤ run_of h q l) × (run_of h q l < state_count)
unfolding run_of
run_going h [] q o i e = (o, i)
run_going h (b ∷ l) q o i e =
    run_going h l (next_of h q (class_of b)) (next_going h q i b o (no_feed b l e)) (next_inside h q i b) (and_right (not (eqb b line_feed)) (feedless l) e)

-- the state past a line's feed is the code of what the line is
pub grid_reads : (h : House) (l : List ℕ) → feedless l ≡ true → next_of h (run_of h start l) (class_of line_feed) ≡ code (kind_of h l)
grid_reads h l e = reads h l start start_inside.1 e ∙ ap code (start_kind h l)
