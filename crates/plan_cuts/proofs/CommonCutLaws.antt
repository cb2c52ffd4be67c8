-- One cut for all windows that open in one slot.
-- Key idea: a window that closes no later has fewer arcs, so what the longest marked window admits, every other that reaches to the cut admits too.
use mathlib.Core.Path.{◌≡◌, subst}
use mathlib.Core.List.{List}
use Rattle.std.proofs.Common.{Option, Some, None, IfSome, unwrap_or}
use Prim.Native.Nat.{ℕ, ◌-◌, ◌≤◌, ◌<◌, min}
use native.Mathlib.Omega.{arith}
use native.Mathlib.Decide.{dec_le}
use lib.ListN.{get_or}
use lib.IntN.{ℤ}
use Rattle.network.specs.Table.{entry}
use Rattle.network_cuts.specs.Decider.{into, AdmitsAt}
use Rattle.network_cuts.specs.CutLaws.{admits_later, admits_earlier}
use Rattle.plan_cuts.specs.Cuts.{LastMark, KnownCut, KnownRow, CommonCut}

-- a marked place is no later than the last
marked_before : (row : List ℕ) (r : ℕ) → LastMark row r → (l : ℕ) → 0 < get_or row l 0 → l ≤ r
marked_before row r m l p = elim (dec_le l r) [ no n ↦ absurd (omega (arith, m.last l (omega arith))) | yes h ↦ h ]

module _ (w : ℕ) (d m : List ℤ) (f : ℕ) (row : List ℕ) where
  pub common_last : (r v : ℕ) → LastMark row r → f ≤ v → AdmitsAt w d m f v r → CommonCut w d m f row v
  common_last r v last h a = record {
    above = h;
    admitted = λ l hl p hv. admits_earlier (w - 1) (entry w d) (into w m) f f v l r (omega arith) (marked_before row r last l p) a;
  }

  pub common_known : (r v : ℕ) → r < w → LastMark row r → KnownRow w d m f row → f ≤ v → get_or row r 0 ≤ v → CommonCut w d m f row v
  common_known r v hr last known h k =
      common_last r v last h (admits_later (w - 1) (entry w d) (into w m) f (get_or row r 0) v r k (known r hr last.marked).admitted)

  -- no window reaches to w
  pub common_or : (o : Option ℕ) → f < w → IfSome o (λ v. CommonCut w d m f row v) → CommonCut w d m f row (unwrap_or o w)
  common_or None h c = record { above = omega arith; admitted = λ l hl p hv. absurd (omega arith) }
  common_or (Some v) h c = c

  -- the smaller of a known cut and the common one is a known cut
  pub common_smaller : (l x v : ℕ) → l < w → 0 < get_or row l 0 → KnownCut w d m f l x → CommonCut w d m f row v → KnownCut w d m f l (min x v)
  common_smaller l x v hl p k c = elim (dec_le x v) [
    | yes h ↦ let e : x ≡ min x v = omega arith in subst (λ (y : ℕ). KnownCut w d m f l y) e k
    | no n ↦
        let e : v ≡ min x v = omega arith in
        let i = k.inside in
        subst (λ (y : ℕ). KnownCut w d m f l y) e
        (record { opens = k.opens; inside = (c.above, omega arith); admitted = c.admitted l hl p (omega arith) })
  ]
