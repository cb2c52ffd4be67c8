-- Windows inside a stretch, counted by running sums.
-- Key idea: a window that starts after boundary b starts in slot b+1 or after boundary b+1; a window that ends by slot a+1 ends by slot a or in slot
-- a+1. So the windows inside every stretch come of the windows that are exactly a stretch, summed along a row and then down a column.
use Rattle.std.specs.Prelude.{◌≡◌, refl, Bool, true, false, ◌&&◌, List, [], ◌∷◌, ℕ, suc, ◌+◌, ◌≤◌, ◌<◌, T, leb, eqb, length}
use Rattle.std.proofs.Common.{arith, le-leb, eq-eqb, ne_eqb}
use Rattle.std.proofs.Math.Decide.{dec_le}
use Rattle.std.proofs.Math.Dec.{leb→le, eqb→eq}
use Rattle.std.proofs.Math.ListN.{get_or}
use Rattle.std.proofs.lemmas.Bool.{lt-leb}
use Rattle.lists.specs.Lists.{one_if, how_many}
use Rattle.lists.specs.Counts.{how_many_count, count_empty}
use Rattle.lists.specs.Members.{left, right}
use Rattle.sheet.specs.Sheet.{Window, inside_of, no_window}
use Rattle.limit_windows.specs.Inside.{WindowsFit, exactly}
use Rattle.sheet.specs.Questions.{windows_of}
use Rattle.sheet.proofs.QuestionLaws.{windows_of_length, windows_of_at}

-- the window starts after boundary b and ends in slot a
abbrev pub ends_in : ℕ → ℕ → Window → Bool
ends_in b a w = leb (suc b) w.first && eqb w.last a

-- ---- one step of each sum
starts_split : (b f : ℕ) (e : Bool) → one_if (leb (suc b) f && e) ≡ one_if (leb (suc (suc b)) f && e) + one_if (eqb f (suc b) && e)
starts_split b f e = elim (dec_le f b) [
  | yes l ↦ rw (lt-leb (suc b) f (omega arith), lt-leb (suc (suc b)) f (omega arith), ne_eqb f (suc b) (λ q. omega arith)) refl
  | no g ↦ elim (dec_le f (suc b)) [
    | yes l ↦ rw (le-leb (suc b) f (omega arith), lt-leb (suc (suc b)) f (omega arith), eq-eqb f (suc b) (omega arith)) (omega arith)
    | no g ↦ rw (le-leb (suc b) f (omega arith), le-leb (suc (suc b)) f (omega arith), ne_eqb f (suc b) (λ q. omega arith)) (omega arith)
  ]
]

ends_split : (a l : ℕ) (e : Bool) → one_if (e && leb l (suc a)) ≡ one_if (e && leb l a) + one_if (e && eqb l (suc a))
ends_split a l false = refl
ends_split a l true = elim (dec_le l a) [
  | yes h ↦ rw (le-leb l (suc a) (omega arith), le-leb l a h, ne_eqb l (suc a) (λ q. omega arith)) refl
  | no g ↦ elim (dec_le l (suc a)) [
    | yes h ↦ rw (le-leb l (suc a) h, lt-leb l a (omega arith), eq-eqb l (suc a) (omega arith)) refl
    | no k ↦ rw (lt-leb l (suc a) (omega arith), lt-leb l a (omega arith), ne_eqb l (suc a) (λ q. omega arith)) refl
  ]
]

pub row_step : (a b : ℕ) (ws : List Window) → how_many (ends_in b a) ws ≡ how_many (ends_in (suc b) a) ws + how_many (exactly (suc b) a) ws
row_step a b [] = refl
row_step a b (w ∷ ws) = omega (arith, starts_split b w.first (eqb w.last a), row_step a b ws)

pub column_step : (a b : ℕ) (ws : List Window) → how_many (inside_of (suc b) (suc a)) ws ≡ how_many (inside_of (suc b) a) ws + how_many (ends_in b (suc a)) ws
column_step a b [] = refl
column_step a b (w ∷ ws) = omega (arith, ends_split a w.last (leb (suc b) w.first), column_step a b ws)

-- ---- windows that start in slot 1 or later and end no earlier than they start
pub WindowsOrdered : List Window → Type 0
WindowsOrdered ws = (j : ℕ) → j < length ws → (1 ≤ (get_or ws j no_window).first) × ((get_or ws j no_window).first ≤ (get_or ws j no_window).last)

none_pass : (t : Window → Bool) (ws : List Window) → ((j : ℕ) → j < length ws → T (t (get_or ws j no_window)) → ⊥) → how_many t ws ≡ 0
none_pass t ws f = omega (arith, how_many_count t no_window ws, count_empty (length ws) (λ j. t (get_or ws j no_window)) f)

module _ (ws : List Window) (ok : WindowsOrdered ws) (a b : ℕ) (h : a ≤ b) where
  -- none of them lies in a stretch that ends before it starts
  pub inside_none : how_many (inside_of (suc b) a) ws ≡ 0
  unfolding WindowsOrdered
  inside_none = none_pass (inside_of (suc b) a) ws (λ j l t.
      let w = get_or ws j no_window in
      let starts = leb→le (suc b) w.first (left (leb (suc b) w.first) (leb w.last a) t) in
      let ends = leb→le w.last a (right (leb (suc b) w.first) (leb w.last a) t) in
      omega (arith, ok j l))

  pub ends_none : how_many (ends_in b a) ws ≡ 0
  unfolding WindowsOrdered
  ends_none = none_pass (ends_in b a) ws (λ j l t.
      let w = get_or ws j no_window in
      let starts = leb→le (suc b) w.first (left (leb (suc b) w.first) (eqb w.last a) t) in
      let ends = eqb→eq w.last a (right (leb (suc b) w.first) (eqb w.last a) t) in
      omega (arith, ok j l))

  pub exact_none : how_many (exactly (suc b) a) ws ≡ 0
  exact_none = omega (arith, row_step a b ws, ends_none)

pub fit_ordered : (w : ℕ) (first last : List ℕ) → WindowsFit w first last → WindowsOrdered (windows_of first last)
unfolding WindowsOrdered
fit_ordered w first last fit j h =
    let l : j < length first = omega (arith, windows_of_length first last fit.paired) in
    let f = fit.each j l in
    rw (windows_of_at first last fit.paired j l) (omega arith, omega arith)
