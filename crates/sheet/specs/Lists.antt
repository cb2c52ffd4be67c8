-- A sheet in parallel lists, as a call is given it. Definitions only.
use Rattle.std.specs.Prelude.{Bool, ◌&&◌, List, [], ◌∷◌, ℕ, eqb, length}
use Rattle.slots.specs.Slots.{Slot}
use Rattle.sheet.specs.Sheet.{Window, Sheet, SheetUnit, WrittenSheet}
use Rattle.sheet.specs.Questions.{sheet_of, lists_agree}

-- what a plan must keep to: the windows and the rules
pub record Lists : Type 0 where
  pub span : ℕ
  pub first : List Slot
  pub last : List Slot
  pub from : List Slot
  pub to : List Slot
  pub low : List ℕ
  pub high : List ℕ

abbrev pub listed : ℕ → List Slot → List Slot → List Slot → List Slot → List ℕ → List ℕ → Lists
listed p fs ls rs ts lo hi = record { span = p; first = fs; last = ls; from = rs; to = ts; low = lo; high = hi }

abbrev pub given : Lists → Sheet
given l = sheet_of l.span l.first l.last l.from l.to l.low l.high

abbrev pub agree : Lists → Bool
agree l = lists_agree l.first l.last l.from l.to l.low l.high

-- the whole sheet, as it is written: its loader numbers too
pub record WrittenLists : Type 0 where
  pub loader : List ℕ
  pub constraints : Lists

abbrev pub written_lists : ℕ → List ℕ → List Slot → List Slot → List Slot → List Slot → List ℕ → List ℕ → WrittenLists
written_lists p ks fs ls rs ts lo hi = record { loader = ks; constraints = listed p fs ls rs ts lo hi }

-- the sheet that its plans must keep to
abbrev pub given_by : WrittenLists → Sheet
given_by l = given l.constraints

-- the units by their loader numbers and windows
abbrev pub units_of : List ℕ → List Window → List SheetUnit
units_of [] ws = []
units_of (k ∷ ks) [] = []
units_of (k ∷ ks) (w ∷ ws) = record { loader = k; window = w } ∷ units_of ks ws

-- the sheet as it is written
abbrev pub written_by : WrittenLists → WrittenSheet
written_by l = let s = given_by l in record { span = s.span; units = units_of l.loader s.units; rules = s.rules }

-- 13 of all lists
abbrev pub all_agree : WrittenLists → Bool
all_agree l = eqb (length l.loader) (length l.constraints.first) && agree l.constraints
