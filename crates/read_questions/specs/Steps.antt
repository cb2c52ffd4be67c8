-- What the reader's code answers for a line, and the numbers that it keeps of the lines so far.
use Rattle.std.specs.Prelude.{ℕ, ◌≤◌, ◌≡◌, List, [], ◌∷◌, map, length, Result, Ok, Err}
use Rattle.std.proofs.lemmas.List.Edits.{sets}
use Rattle.questions.specs.Questions.{first_no}
use Rattle.questions.specs.declared.Question.{Question}
use Rattle.questions.specs.declared.Refusal.{Refusal}
use Rattle.sheet.specs.Sizes.{max_units, max_rules}
use Rattle.sheet.specs.Sheet.{SheetUnit, Rule}
use Rattle.sheet.specs.declared.Sheet.{Sheet}
use Rattle.forms.specs.declared.House.{House}
use Rattle.read_line.specs.declared.Line.{Line}
use Rattle.read_steps.specs.Steps.{sheet_step, rule_step}
use Rattle.read_unit.specs.UnitStep.{unit_step}
use Rattle.read_questions.specs.Reading.{sheet_in, pass_questions, ListRooms, rooms, Reply, concluded}

-- a line after those of a sheet so far, whose units have these loader numbers
unfoldable pub step_of : House → List ℕ → Sheet → Result Line Question → Result Sheet Question
step_of h ks s (Err q) = Err q
step_of h ks s (Ok Line.Note) = Ok s
step_of h ks s (Ok (Line.Sheet p)) = sheet_step s p
step_of h ks s (Ok (Line.Unit k f l)) = unit_step h ks s k f l
step_of h ks s (Ok (Line.Rule a b lo hi)) = rule_step s a b lo hi

-- ---- the numbers of the units and rules so far, an array for each room

-- the arrays have places for so many units and rules
pub record Holds (units rules : ℕ) (m : ListRooms (List ℕ)) : Type 0 where
  pub in_loader : units ≤ length m.loader
  pub in_first : units ≤ length m.first
  pub in_last : units ≤ length m.last
  pub in_from : rules ≤ length m.from
  pub in_to : rules ≤ length m.to
  pub in_low : rules ≤ length m.low
  pub in_high : rules ≤ length m.high

-- the numbers of units and rules, a list for each room
abbrev pub columns : List SheetUnit → List Rule → ListRooms (List ℕ)
columns us rs =
    rooms (map (λ u. u.loader) us) (map (λ u. u.window.first) us) (map (λ u. u.window.last) us)
    (map (λ r. r.from) rs) (map (λ r. r.to) rs) (map (λ r. r.low) rs) (map (λ r. r.high) rs)

-- the arrays with these numbers: those of units from the place u on, those of rules from the place r on
abbrev pub set_at : ListRooms (List ℕ) → ℕ → ℕ → ListRooms (List ℕ) → ListRooms (List ℕ)
set_at m u r xs =
    rooms (sets m.loader u xs.loader) (sets m.first u xs.first) (sets m.last u xs.last)
    (sets m.from r xs.from) (sets m.to r xs.to) (sets m.low r xs.low) (sets m.high r xs.high)

-- the unit, or the rule, that a line adds
abbrev pub line_units : Result Line Question → List SheetUnit
line_units (Err q) = []
line_units (Ok Line.Note) = []
line_units (Ok (Line.Sheet p)) = []
line_units (Ok (Line.Unit k f l)) = record { loader = k; window = record { first = f; last = l } } ∷ []
line_units (Ok (Line.Rule a b lo hi)) = []

abbrev pub line_rules : Result Line Question → List Rule
line_rules (Err q) = []
line_rules (Ok Line.Note) = []
line_rules (Ok (Line.Sheet p)) = []
line_rules (Ok (Line.Unit k f l)) = []
line_rules (Ok (Line.Rule a b lo hi)) = record { from = a; to = b; low = lo; high = hi } ∷ []

-- the arrays after a line that follows a sheet so far; one that is refused adds nothing
abbrev pub kept_by : Result Sheet Question → ListRooms (List ℕ) → Sheet → Result Line Question → ListRooms (List ℕ)
kept_by (Err q) m s line = m
kept_by (Ok more) m s line = set_at m s.units s.rules (columns (line_units line) (line_rules line))

-- ---- the pass over the text: all questions but 1 and 12, and what the arrays then hold

unfoldable pub pass_reply : House → List ℕ → Reply
pass_reply h text = concluded (first_no (pass_questions h text)) (sheet_in h text)

-- of a sheet that was read: its numbers stand at the front of the arrays
pub record KeptNumbers (h : House) (s : Sheet) (text : List ℕ) (m m' : ListRooms (List ℕ)) : Type 0 where
  pub few_units : s.units ≤ max_units
  pub few_rules : s.rules ≤ max_rules
  pub in_arrays : m' ≡ set_at m 0 0 (columns (sheet_in h text).units (sheet_in h text).rules)

abbrev pub Kept : House → Result Sheet Refusal → List ℕ → ListRooms (List ℕ) → ListRooms (List ℕ) → Type 0
Kept h (Err f) text m m' = Unit {0}
Kept h (Ok s) text m m' = KeptNumbers h s text m m'
