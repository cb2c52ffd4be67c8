-- The least cuts of the windows that open in one slot.
-- Key idea: what is barred for a window is barred for every window that opens and closes no earlier. So the cuts found so far are a floor for the next.
use mathlib.Core.Path.{◌≡◌, refl, sym, ◌∙◌, subst}
use mathlib.Core.List.{List}
use Prim.Native.Nat.{ℕ, ◌+◌, ◌≤◌, ◌<◌, max}
use native.Mathlib.Omega.{arith}
use native.Mathlib.Decide.{ℕ_discrete, dec_le}
use lib.ListN.{length, get_or, set, length-set}
use lib.Seq.{get_or-set_same, get_or-set_other}
use lib.IntN.{ℤ}
use Rattle.network_cuts.specs.Decider.{Barred, LeastCutAt}
use Rattle.plan_cuts.specs.Cuts.{KnownRow, CutRow, Floor}
use Rattle.network_cuts.specs.CutLaws.{barred_later, least_barred}

module _ (w : ℕ) (d m : List ℤ) where
  pub floor_later : (f g : ℕ) (floor : List ℕ) → f ≤ g → Floor w d m f floor → Floor w d m g floor
  floor_later f g floor h s l hl hw =
      let p = s l (omega arith) hw in
      (p.0, barred_later w d m f l g l (get_or floor l 0) h (omega arith) p.1)

  floor_set : (f l x : ℕ) (floor : List ℕ) → l < length floor → x ≤ l → Barred w d m f l x → Floor w d m f floor → Floor w d m f (set floor l x)
  floor_set f l x floor h hx b s k hk hw = elim (ℕ_discrete k l) [
    | yes e ↦ rw (e, get_or-set_same floor l x 0 h) (omega arith, b)
    | no ne ↦ rw (get_or-set_other floor l k x 0 ne) (s k hk hw)
  ]

  module _ (f : ℕ) (row₀ : List ℕ) where
    -- the windows that close before l are done; `low` is a floor for the next
    pub record Cutting (row floor : List ℕ) (low l : ℕ) : Type 0 where
      pub long : length row ≡ w
      pub wide : w ≤ length floor
      pub place : (f ≤ l) × (l ≤ w)
      pub level : (f ≤ low) × (low ≤ l)
      pub barred : Barred w d m f l low
      pub done : CutRow w d m f l row₀ row
      pub rest : (k : ℕ) → l ≤ k → get_or row k 0 ≡ get_or row₀ k 0
      pub floored : Floor w d m f floor

    pub cutting_none : (floor : List ℕ) → length row₀ ≡ w → w ≤ length floor → f < w → KnownRow w d m f row₀ → Floor w d m f floor → Cutting row₀ floor f f
    cutting_none floor n k h known s = record {
      long = n;
      wide = k;
      place = (omega arith, omega arith);
      level = (omega arith, omega arith);
      barred = λ u hu hl. absurd (omega arith);
      done = λ l hl. (λ e. e, λ p. let i = (known l (omega arith) p).inside in absurd (omega arith));
      rest = λ k hk. refl;
      floored = s;
    }

module _ {w : ℕ} {d m : List ℤ} {f : ℕ} {row₀ row floor : List ℕ} {low l : ℕ} (c : Cutting w d m f row₀ row floor low l) (h : l < w) where
  -- the floor at l, with what was known before
  abbrev next : ℕ
  next = max low (get_or floor l 0)

  pub next_level : (f ≤ next) × (next ≤ l)
  next_level = let p = c.floored l c.place.0 h in omega (arith, c.level)

  pub next_barred : Barred w d m f l next
  next_barred u hu hn a = elim (dec_le low u) [
    | yes p ↦ (c.floored l c.place.0 h).1 u hu (omega arith) a
    | no n ↦ c.barred u hu (omega arith) a
  ]

  -- an unmarked window
  pub cutting_skip : get_or row l 0 ≡ 0 → Cutting w d m f row₀ row (set floor l next) next (l + 1)
  cutting_skip z = record {
    long = c.long;
    wide = subst (λ (n : ℕ). w ≤ n) (sym (length-set floor l next)) c.wide;
    place = (omega (arith, c.place), omega arith);
    level = (next_level.0, omega (arith, next_level));
    barred = barred_later w d m f l f (l + 1) next (omega arith) (omega arith) next_barred;
    done = λ k hk. elim (ℕ_discrete k l) [
      | yes e ↦ rw e (λ _. z, λ p. absurd (omega (arith, c.rest l (omega arith))))
      | no ne ↦ c.done k (omega arith)
    ];
    rest = λ k hk. c.rest k (omega arith);
    floored = floor_set w d m f l next floor (omega (arith, c.wide)) next_level.1 next_barred c.floored;
  }

  -- a marked one, with its least cut r
  pub cutting_mark : (r : ℕ) → 0 < get_or row l 0 → LeastCutAt w d m f l r → Cutting w d m f row₀ (set row l r) (set floor l r) r (l + 1)
  cutting_mark r p least = record {
    long = length-set row l r ∙ c.long;
    wide = subst (λ (n : ℕ). w ≤ n) (sym (length-set floor l r)) c.wide;
    place = (omega (arith, c.place), omega arith);
    level = (least.inside.0, omega (arith, least.inside));
    barred = barred_later w d m f l f (l + 1) r (omega arith) (omega arith) (least_barred w d m f l r least);
    done = λ k hk. elim (ℕ_discrete k l) [
      | yes e ↦ rw (e, get_or-set_same row l r 0 (omega (arith, c.long))) (λ z. absurd (omega (arith, c.rest l (omega arith))), λ _. least)
      | no ne ↦ rw (get_or-set_other row l k r 0 ne) (c.done k (omega arith))
    ];
    rest = λ k hk. get_or-set_other row l k r 0 (λ e. omega arith) ∙ c.rest k (omega arith);
    floored = floor_set w d m f l r floor (omega (arith, c.wide)) least.inside.1 (least_barred w d m f l r least) c.floored;
  }
