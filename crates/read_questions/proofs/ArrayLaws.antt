-- The seven arrays that keep a sheet's numbers: what stands at their fronts, and that they keep their lengths.
-- Key idea: each array is numbers of units, or of rules, set one after the other from its front on; what holds of one such column holds of all seven.
use Rattle.std.specs.Prelude.{ℕ, ◌≤◌, ◌≡◌, refl, List, ◌++◌, map, length, take}
use Rattle.std.proofs.Common.{sym, ap, ◌∙◌, arith, zero-add, take_at}
use Rattle.std.proofs.lemmas.List.{map-append, length-map}
use Rattle.std.proofs.lemmas.List.Edits.{sets, sets-eq}
use Rattle.std.proofs.Math.Seq.{length-sets}
use Rattle.lists.specs.Slices.{sets_append}
use Rattle.sheet.specs.Sheet.{SheetUnit, Rule}
use Rattle.read_questions.specs.Reading.{ListRooms, rooms}
use Rattle.read_questions.specs.Steps.{Holds, columns, set_at}

pub rooms_same : {a a' b b' c c' d d' e e' f f' g g' : List ℕ} → a ≡ a' → b ≡ b' → c ≡ c' → d ≡ d' → e ≡ e' → f ≡ f' → g ≡ g'
    → rooms a b c d e f g ≡ rooms a' b' c' d' e' f' g'
rooms_same p q r s t u v = rw (p, q, r, s, t, u, v) refl

-- ---- one array

-- a number of each of so many at the front
pub column_front : {A : Type 0} (f : A → ℕ) (array : List ℕ) (xs : List A) (n : ℕ) → n ≡ length xs → n ≤ length array
    → take n (sets array 0 (map f xs)) ≡ map f xs
column_front f array xs n e h =
    let l = length-map xs f in
    ap (take n) (sets-eq (map f xs) array 0 (omega arith)) ∙ take_at (map f xs) _ n (l ∙ sym e)

-- a number of each unit or rule at the front of an array, and then those of more past them
column_more : {A : Type 0} (f : A → ℕ) (array : List ℕ) (old new : List A) (at : ℕ) → at ≡ length old
    → sets (sets array 0 (map f old)) at (map f new) ≡ sets array 0 (map f (old ++ new))
column_more f array old new at a =
    ap (λ (j : ℕ). sets (sets array 0 (map f old)) j (map f new)) (a ∙ sym (length-map old f) ∙ sym (zero-add (length (map f old))))
    ∙ sym (sets_append (map f old) (map f new) array 0) ∙ ap (sets array 0) (sym (map-append f old new))

-- ---- all seven

pub columns_more : (m : ListRooms (List ℕ)) (us vs : List SheetUnit) (rs qs : List Rule) (u r : ℕ) → u ≡ length us → r ≡ length rs
    → set_at (set_at m 0 0 (columns us rs)) u r (columns vs qs) ≡ set_at m 0 0 (columns (us ++ vs) (rs ++ qs))
columns_more m us vs rs qs u r a b =
    rooms_same (column_more (λ w. w.loader) m.loader us vs u a) (column_more (λ w. w.window.first) m.first us vs u a)
    (column_more (λ w. w.window.last) m.last us vs u a) (column_more (λ w. w.from) m.from rs qs r b)
    (column_more (λ w. w.to) m.to rs qs r b) (column_more (λ w. w.low) m.low rs qs r b) (column_more (λ w. w.high) m.high rs qs r b)

-- their lengths are the same
pub record SameSizes (m m₀ : ListRooms (List ℕ)) : Type 0 where
  pub loader : length m.loader ≡ length m₀.loader
  pub first : length m.first ≡ length m₀.first
  pub last : length m.last ≡ length m₀.last
  pub from : length m.from ≡ length m₀.from
  pub to : length m.to ≡ length m₀.to
  pub low : length m.low ≡ length m₀.low
  pub high : length m.high ≡ length m₀.high

pub set_sizes : (m : ListRooms (List ℕ)) (u r : ℕ) (xs : ListRooms (List ℕ)) → SameSizes (set_at m u r xs) m
set_sizes m u r xs =
    record {
      loader = length-sets m.loader u xs.loader;
      first = length-sets m.first u xs.first;
      last = length-sets m.last u xs.last;
      from = length-sets m.from r xs.from;
      to = length-sets m.to r xs.to;
      low = length-sets m.low r xs.low;
      high = length-sets m.high r xs.high;
    }

-- so they hold as many
pub still_holds : (u r : ℕ) (m m₀ : ListRooms (List ℕ)) → SameSizes m m₀ → Holds u r m₀ → Holds u r m
still_holds u r m m₀ e k =
    record {
      in_loader = omega (arith, e.loader, k.in_loader);
      in_first = omega (arith, e.first, k.in_first);
      in_last = omega (arith, e.last, k.in_last);
      in_from = omega (arith, e.from, k.in_from);
      in_to = omega (arith, e.to, k.in_to);
      in_low = omega (arith, e.low, k.in_low);
      in_high = omega (arith, e.high, k.in_high);
    }
