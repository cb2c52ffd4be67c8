-- The reading states of the form reader and its tables, computed from the forms of a house. A state is the ways in which a line may still go on, and a
-- byte takes it to the ways that go on over that byte; the line feed takes it to what the line is. The code's constants are these tables (class_table,
-- and the crates grid_ours and grid_partner); GridLaws proves what they read.
use Rattle.std.specs.Prelude.{ℕ, zero, suc, ◌-◌, Bool, true, false, ◌&&◌, ◌||◌, not, cond, List, [], ◌∷◌, ◌++◌, map, ◌≡◌, length, get_or, replicate, eqb}
use Rattle.lists.specs.Lists.{cons_if, keep, joined}
use Rattle.lists.specs.Values.{list_of}
use Rattle.forms.specs.Words.{line_feed, zero_digit}
use Rattle.forms.specs.Form.{is_printable, is_digit, printable, some, past, Piece, word, number, any_bytes}
use Rattle.forms.specs.declared.House.{House}
use Rattle.forms.specs.declared.House.TheVariants.{Ours, Partner}
use Rattle.read_form.specs.Kinds.{Shape, shapes_of}
use Rattle.read_form.specs.declared.Kind.{Kind}
use Rattle.read_form.specs.declared.Kind.TheVariants.{Unprintable, Note, Sheet, Unit, Rule, Other}

-- ---- a form, sign by sign

-- a byte, one digit, all the digits that follow, or whatever follows up to the line's end
pub data Sign : Type 0 where
  byte : ℕ → Sign
  digit : Sign
  more : Sign
  free : Sign

abbrev pub signs : List Piece → List Sign
signs [] = []
signs (word w ∷ f) = map byte w ++ signs f
signs (number ∷ f) = digit ∷ more ∷ signs f
signs (any_bytes ∷ f) = free ∷ []

-- whether a line has these signs
unfoldable pub fits : List Sign → List ℕ → Bool
fits [] l = not (some l)
fits (byte x ∷ t) [] = false
fits (byte x ∷ t) (b ∷ l) = eqb x b && fits t l
fits (digit ∷ t) [] = false
fits (digit ∷ t) (b ∷ l) = is_digit b && fits t l
fits (more ∷ t) l = fits t (past l)
fits (free ∷ t) l = true

-- a form's line with 0 for each number and nothing for any bytes
abbrev pub sample : List Piece → List ℕ
sample [] = []
sample (word w ∷ f) = w ++ sample f
sample (number ∷ f) = zero_digit ∷ sample f
sample (any_bytes ∷ f) = []

-- ---- states

-- a way to go on: what the line then is, and the signs that are left
pub data Way : Type 0 where
  way : Kind → List Sign → Way

-- what a line is that goes on with l: what the first way leads to whose signs l has
unfoldable pub first_of : List Way → List ℕ → Kind
first_of [] l = Other
first_of (way k t ∷ ws) l = cond (fits t l) k (first_of ws l)

-- some ways, and in front of them the one that is left of t past a byte, if t goes on over that byte
abbrev pub go_on : Kind → List Sign → ℕ → List Way → List Way
go_on k [] b ws = ws
go_on k (byte x ∷ t) b ws = cons_if (eqb x b) (way k t) ws
go_on k (digit ∷ t) b ws = cons_if (is_digit b) (way k t) ws
go_on k (more ∷ t) b ws = cond (is_digit b) (way k (more ∷ t) ∷ ws) (go_on k t b ws)
go_on k (free ∷ t) b ws = way k (free ∷ t) ∷ ws

unfoldable pub over : List Way → ℕ → List Way
over [] b = []
over (way k t ∷ ws) b = go_on k t b (over ws b)

-- the line has ended and is of a kind; or it has a byte that is not printable and stays so; or it goes on
pub data State : Type 0 where
  ended : Kind → State
  unprintable : State
  going : List Way → State

-- what a line is that goes on with l from a state
abbrev pub kind_from : State → List ℕ → Kind
kind_from (ended k) l = k
kind_from unprintable l = Unprintable
kind_from (going ws) l = cond (printable l) (first_of ws l) Unprintable

-- past a byte of the line
abbrev pub in_line : State → ℕ → State
in_line (ended k) b = ended k
in_line unprintable b = unprintable
in_line (going ws) b = cond (is_printable b) (going (over ws b)) unprintable

-- past any byte: the line feed ends the line
abbrev pub follows : State → ℕ → State
follows s b = cond (eqb b line_feed) (ended (kind_from s [])) (in_line s b)

abbrev pub start_ways : List Shape → List Way
start_ways ss = map (λ s. way s.kind (signs s.form)) ss

-- the states that are met on reading a text
abbrev trail : State → List ℕ → List State
trail s [] = []
trail s (b ∷ l) = follows s b ∷ trail (follows s b) l

-- ---- numbers of states

-- States are compared by computing, kinds and signs by numbers. What a `let` binds is computed only where it is read: a test ends where it is decided.

abbrev pub code : Kind → ℕ
code Unprintable = 0
code Note = 1
code Sheet = 2
code Unit = 3
code Rule = 4
code Other = 5

abbrev pub kind_of_code : ℕ → Kind
kind_of_code n = cond (eqb n 0) Unprintable (cond (eqb n 1) Note (cond (eqb n 2) Sheet (cond (eqb n 3) Unit (cond (eqb n 4) Rule Other))))

abbrev pub sign_code : Sign → ℕ
sign_code digit = 0
sign_code more = 1
sign_code free = 2
sign_code (byte x) = suc (suc (suc x))

abbrev pub same_all : {A : Type 0} → (A → A → Bool) → List A → List A → Bool
same_all same [] [] = true
same_all same [] (y ∷ ys) = false
same_all same (x ∷ xs) [] = false
same_all same (x ∷ xs) (y ∷ ys) = let rest = same_all same xs ys in same x y && rest

abbrev pub same_kind : Kind → Kind → Bool
same_kind j k = eqb (code j) (code k)

abbrev pub same_sign : Sign → Sign → Bool
same_sign s t = eqb (sign_code s) (sign_code t)

abbrev pub same_way : Way → Way → Bool
same_way (way j t) (way k u) = let rest = same_all same_sign t u in same_kind j k && rest

abbrev pub same_state : State → State → Bool
same_state (ended j) (ended k) = same_kind j k
same_state (ended j) unprintable = false
same_state (ended j) (going vs) = false
same_state unprintable (ended k) = false
same_state unprintable unprintable = true
same_state unprintable (going vs) = false
same_state (going ws) (ended k) = false
same_state (going ws) unprintable = false
same_state (going ws) (going vs) = same_all same_way ws vs

-- each entry once, where it stands first
abbrev once : {A : Type 0} → (A → A → Bool) → List A → List A
once same [] = []
once same (x ∷ xs) = x ∷ keep (λ y. not (same x y)) (once same xs)

abbrev pub member_by : {A : Type 0} → (A → A → Bool) → List A → A → Bool
member_by same [] x = false
member_by same (y ∷ ys) x = let rest = member_by same ys x in same y x || rest

abbrev pub place_in : {A : Type 0} → (A → A → Bool) → List A → A → ℕ
place_in same [] x = zero
place_in same (y ∷ ys) x = let rest = suc (place_in same ys x) in cond (same y x) zero rest

-- with copies of x behind it up to a length: the tables of both houses have one size
abbrev padded : {A : Type 0} → ℕ → A → List A → List A
padded n x xs = xs ++ replicate (n - length xs) x

-- whether the digits that follow are all that these signs have in front
abbrev pub in_digits : List Sign → Bool
in_digits [] = false
in_digits (byte x ∷ t) = false
in_digits (digit ∷ t) = false
in_digits (more ∷ t) = true
in_digits (free ∷ t) = false

-- a state in which a number has begun
abbrev pub in_number : State → Bool
in_number (ended k) = false
in_number unprintable = false
in_number (going []) = false
in_number (going (way k t ∷ ws)) = in_digits t

-- how many states there are; those of a line that has ended have the numbers below `ends`, and those in which a number has begun come next, below `stops`
abbrev pub state_count : ℕ
state_count = 82

abbrev pub ends : ℕ
ends = 6

abbrev pub stops : ℕ
stops = 14

-- it stands where a house has fewer numbers than the other, and no line leads to it
abbrev no_number : State
no_number = going (way Other (more ∷ []) ∷ [])

-- A state's number is its place here. First the ended ones, so that their numbers are the codes of the kinds; then those of each form's numbers, in the
-- order of the forms; then where no form goes on, where a byte was not printable, the start and what follows it in each form.
unfoldable pub states : House → List State
states h =
    let shapes = shapes_of h in
    let start = going (start_ways shapes) in
    let reached = once same_state (start ∷ joined (map (λ s. trail start (sample s.form)) shapes)) in
    padded state_count (going [])
    (ended Unprintable ∷ ended Note ∷ ended Sheet ∷ ended Unit ∷ ended Rule ∷ ended Other ∷
    (padded (stops - ends) no_number (keep in_number reached) ++ (going [] ∷ unprintable ∷ keep (λ s. not (in_number s)) reached)))

abbrev pub start : ℕ
start = 16

abbrev pub place_of : House → State → ℕ
place_of h s = place_in same_state (states h) s

abbrev pub state_at : House → ℕ → State
state_at h q = get_or (states h) q (going [])

-- ---- classes of bytes

-- a printable byte that no form shows
abbrev pub other_byte : ℕ
other_byte = 33

-- how many classes there is room for: a row's length is a power of two
abbrev pub class_count : ℕ
class_count = 32

-- A byte of each class, the same for both houses: not printable, the line feed, shown in no form, and then the bytes of the forms, with 0 for all digits.
unfoldable pub class_bytes : List ℕ
class_bytes =
    padded class_count 0 (0 ∷ line_feed ∷ other_byte ∷ once eqb (joined (map (λ s. sample s.form) (shapes_of Ours ++ shapes_of Partner))))

-- the byte that stands for a byte's class
unfoldable pub stand_in : ℕ → ℕ
stand_in b = cond (is_printable b) (cond (is_digit b) zero_digit (cond (member_by eqb class_bytes b) b other_byte)) (cond (eqb b line_feed) line_feed 0)

unfoldable pub class_of : ℕ → ℕ
class_of b = place_in eqb class_bytes (stand_in b)

-- ---- the tables

-- a row for each state, a column for each class: the number of the state that follows
unfoldable pub grid : House → List (List ℕ)
grid h = map (λ s. map (λ b. place_of h (follows s b)) class_bytes) (states h)

unfoldable pub classes : List ℕ
classes = list_of 256 class_of

-- the entry of a grid for a state and a class
abbrev pub entry_of : List (List ℕ) → ℕ → ℕ → ℕ
entry_of g q c = get_or (get_or g q []) c 0

abbrev pub next_of : House → ℕ → ℕ → ℕ
next_of h q c = entry_of (grid h) q c

-- the state after some bytes
unfoldable pub run_of : House → ℕ → List ℕ → ℕ
run_of h q [] = q
run_of h q (b ∷ l) = run_of h (next_of h q (class_of b)) l

-- a grid and classes are the tables of a house
pub record Tables (h : House) (g : List (List ℕ)) (k : List ℕ) : Type 0 where
  pub is_grid : g ≡ grid h
  pub is_classes : k ≡ classes
