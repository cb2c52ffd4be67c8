-- What reading a line byte by byte comes to: where it stops, and the values of the numbers that it meets. Definitions only.
use Rattle.std.specs.Prelude.{ℕ, ◌+◌, ◌-◌, ◌≤◌, ◌<◌, ◌≡◌, Bool, true, false, ◌&&◌, List, [], ◌∷◌, get_or, set, drop}
use Rattle.forms.specs.Words.{line_feed}
use Rattle.forms.specs.Form.{is_digit, leading, plain}
use Rattle.forms.specs.Lines.{first_line, has_feed}
use Rattle.forms.specs.LinesLaws.{line_end}
use Rattle.forms.specs.declared.House.{House}
use Rattle.read_form.specs.Kinds.{kind_of}
use Rattle.read_form.specs.Grid.{ends, state_count, start, class_of, next_of, run_of}
use Rattle.read_form.specs.Met.{Met, is_number, met}
use Rattle.read_form.specs.declared.Kind.{Kind}
use Rattle.read_number.specs.Number.{max_number, read_value}

-- ---- from one stop to the next

-- what is left of a line at a place of a text
abbrev pub line_at : List ℕ → ℕ → List ℕ
line_at t at = first_line (drop at t)

-- a line is read on at a place in a state: its line feed follows, it has not ended, and where a number has begun no further digit follows
pub record Resumes (t : List ℕ) (at q : ℕ) : Type 0 where
  pub feed : has_feed (drop at t) ≡ true
  pub going : ends ≤ q
  pub known : q < state_count
  pub digits_done : is_number q ≡ true → is_digit (get_or t at 0) ≡ false

-- the line feed is reached, at a place and past it in the state r, and no number was met
pub record AtFeed (h : House) (t : List ℕ) (at q place r : ℕ) : Type 0 where
  pub end : place ≡ line_end t at
  pub ended : r ≡ next_of h (run_of h q (line_at t at)) (class_of line_feed)
  pub none : met h q (line_at t at) ≡ []

-- the first digit of a number is reached, at a place and past it in the state r
pub record AtNumber (h : House) (t : List ℕ) (at q place r : ℕ) : Type 0 where
  pub begun : is_number r ≡ true
  pub here : at ≤ place
  pub feed : has_feed (drop place t) ≡ true
  pub first_digit : is_digit (get_or t place 0) ≡ true
  pub end : line_end t place ≡ line_end t at
  pub run : run_of h r (line_at t (place + 1)) ≡ run_of h q (line_at t at)
  pub numbers : met h q (line_at t at) ≡ record { state = r; digits = leading (drop place t) } ∷ met h r (line_at t (place + 1))

-- one of the two, by the state
pub record StopsAt (h : House) (t : List ℕ) (at q place r : ℕ) : Type 0 where
  pub at_feed : r < ends → AtFeed h t at q place r
  pub at_number : ends ≤ r → AtNumber h t at q place r

-- ---- the numbers of a line

-- a value for each state in which a number has begun, and whether all numbers so far are plain
pub record Values : Type 0 where
  pub values : List ℕ
  pub plain : Bool

abbrev pub valued : List ℕ → Bool → Values
valued v p = record { values = v; plain = p }

-- with a number more
abbrev pub with_number : Values → Met → Values
with_number n m = valued (set n.values (m.state - ends) (read_value m.digits)) (n.plain && plain m.digits)

unfoldable pub with_numbers : Values → List Met → Values
with_numbers n [] = n
with_numbers n (m ∷ ms) = with_numbers (with_number n m) ms

-- no value is larger than a number may be
pub record Small (v : List ℕ) : Type 0 where
  pub each : (i : ℕ) → get_or v i 0 ≤ max_number

-- a line from its first byte on: its end, its kind, and its numbers' values with those of before
pub record ScannedAs (h : House) (t : List ℕ) (at end : ℕ) (kind : Kind) (p : Bool) (before after : List ℕ) : Type 0 where
  pub is_end : end ≡ line_end t at
  pub is_kind : kind ≡ kind_of h (line_at t at)
  pub are_values : valued after p ≡ with_numbers (valued before true) (met h start (line_at t at))
