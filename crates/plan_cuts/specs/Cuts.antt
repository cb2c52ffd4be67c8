-- Rows of marked windows, and their least cuts. Definitions only.
use Rattle.std.specs.Prelude.{◌≡◌, List, ℕ, ◌≤◌, ◌<◌, length, get_or, ℤ}
use Rattle.network_cuts.specs.Decider.{AdmitsAt, Barred, LeastCutAt}
use Rattle.plan_marks.specs.Marks.{slot}

-- r is the last place of the row that is marked
pub record LastMark (row : List ℕ) (r : ℕ) : Type 0 where
  pub inside : r < length row
  pub marked : 0 < get_or row r 0
  pub last : (j : ℕ) → r < j → get_or row j 0 ≡ 0

-- x is an admitted cut of the window f..l
pub record KnownCut (w : ℕ) (d m : List ℤ) (f l x : ℕ) : Type 0 where
  pub opens : 1 ≤ f
  pub inside : (f ≤ x) × (x ≤ l)
  pub admitted : AdmitsAt w d m f x l

-- every mark in the row of the windows that open in f is an admitted cut
abbrev pub KnownRow : ℕ → List ℤ → List ℤ → ℕ → List ℕ → Type 0
KnownRow w d m f row = (l : ℕ) → l < w → 0 < get_or row l 0 → KnownCut w d m f l (get_or row l 0)

-- v is an admitted cut of every marked window of the row that reaches to it
pub record CommonCut (w : ℕ) (d m : List ℤ) (f : ℕ) (row : List ℕ) (v : ℕ) : Type 0 where
  pub above : f ≤ v
  pub admitted : (l : ℕ) → l < w → 0 < get_or row l 0 → v ≤ l → AdmitsAt w d m f v l

-- the windows that open in f and close before k have their least cuts, where they are marked
abbrev pub CutRow : ℕ → List ℤ → List ℤ → ℕ → ℕ → List ℕ → List ℕ → Type 0
CutRow w d m f k row row' =
    (l : ℕ) → l < k → (get_or row l 0 ≡ 0 → get_or row' l 0 ≡ 0) × (0 < get_or row l 0 → LeastCutAt w d m f l (get_or row' l 0))

-- for windows that open in f, or later: no cut below floor(l) is admitted where the window closes in l
abbrev pub Floor : ℕ → List ℤ → List ℤ → ℕ → List ℕ → Type 0
Floor w d m f floor = (l : ℕ) → f ≤ l → l < w → (get_or floor l 0 ≤ l) × Barred w d m f l (get_or floor l 0)

abbrev pub KnownCuts : ℕ → List ℤ → List ℤ → List ℕ → Type 0
KnownCuts w d m marks = (f l : ℕ) → f < w → l < w → 0 < slot w marks f l → KnownCut w d m f l (slot w marks f l)

-- the windows that open before k have their least cuts, where they are marked
abbrev pub CutRows : ℕ → List ℤ → List ℤ → ℕ → List ℕ → List ℕ → Type 0
CutRows w d m k marks marks' =
    (f l : ℕ) → f < k → l < w → (slot w marks f l ≡ 0 → slot w marks' f l ≡ 0) × (0 < slot w marks f l → LeastCutAt w d m f l (slot w marks' f l))
