-- Searching for the least admitted cut.
-- Key idea: a later cut adds fewer arcs, so cuts turn from not admitted to admitted once; an answer at any place between the two ends moves one of them.
use mathlib.Core.List.{List}
use Prim.Native.Nat.{ℕ, ◌+◌, ◌-◌, ◌*◌, ◌≤◌, ◌<◌}
use native.Mathlib.Omega.{arith}
use native.Mathlib.Decide.{dec_le}
use lib.IntN.{ℤ}
use Rattle.network.specs.Table.{entry}
use Rattle.network_cuts.specs.Decider.{into, AdmitsAt, Barred, LeastCutAt}
use Rattle.network_cuts.specs.CutLaws.{admits_later}

-- what lies between `from` and `to` is open, and `middle` is tried next
pub record Search (w : ℕ) (d m : List ℤ) (f l known from to middle : ℕ) : Type 0 where
  pub order : from ≤ to
  pub start : f ≤ from
  pub end : to ≤ known
  pub after : from ≤ middle
  pub before : 2 * middle ≤ from + to
  pub admitted : AdmitsAt w d m f to l
  pub barred : Barred w d m f l from

-- an admitted cut lies past what is barred
pub search_first : {w : ℕ} {d m : List ℤ} {f l known low : ℕ} → f ≤ low → f ≤ known → AdmitsAt w d m f known l → Barred w d m f l low
    → Search w d m f l known low known low
search_first {known = known} {low = low} h k a b =
    let n : low ≤ known = elim (dec_le low known) [ yes n ↦ n | no n ↦ absurd (b known k (omega arith) a) ] in
    record { order = n; start = h; end = omega arith; after = omega arith; before = omega arith; admitted = a; barred = b }

module _ {w : ℕ} {d m : List ℤ} {f l known from to middle : ℕ} (s : Search w d m f l known from to middle) where
  pub search_yes : {next : ℕ} → from < to → from ≤ next → 2 * next ≤ from + middle → AdmitsAt w d m f middle l → Search w d m f l known from middle next
  search_yes h p q a = record {
    order = s.after;
    start = s.start;
    end = omega (arith, s.end, s.before);
    after = p;
    before = q;
    admitted = a;
    barred = s.barred;
  }

  pub search_no : {next : ℕ} → from < to → middle + 1 ≤ next → 2 * next ≤ middle + 1 + to → (AdmitsAt w d m f middle l → ⊥)
      → Search w d m f l known (middle + 1) to next
  search_no h p q n = record {
    order = omega (arith, s.before);
    start = omega (arith, s.start, s.after);
    end = s.end;
    after = p;
    before = q;
    admitted = s.admitted;
    barred = λ u hu hm a. n (admits_later (w - 1) (entry w d) (into w m) f u middle l (omega arith) a);
  }

  pub search_last : to ≤ from → known ≤ l → LeastCutAt w d m f l to
  search_last h k = record {
    inside = (omega (arith, s.start, s.order), omega (arith, s.end));
    admitted = s.admitted;
    least = λ u hu i. s.barred u hu (omega arith);
  }
