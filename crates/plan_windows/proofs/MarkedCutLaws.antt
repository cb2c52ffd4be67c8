-- What the marks of windows say of the units' cuts.
-- Key idea: the slot that stands for a window is that of some unit with this window, hence an admitted cut, and its least cut is the least cut of every
-- unit with this window.
use mathlib.Core.Path.{sym, subst}
use mathlib.Core.Logic.{⊎_elim}
use mathlib.Core.List.{List}
use Prim.Native.Nat.{ℕ, ◌<◌}
use native.Mathlib.Omega.{arith}
use lib.ListN.{length}
use lib.IntN.{ℤ}
use Rattle.lists.specs.Values.{Filled}
use Rattle.network_cuts.specs.Decider.{LeastCutAt}
use Rattle.plan_marks.specs.declared.Side.{Side}
use Rattle.plan_marks.specs.Marks.{slot, seen, seen_at, Units, Marked, Reads}
use Rattle.plan_marks.specs.MarkLaws.{seen_twice, slots_below}
use Rattle.plan_cuts.specs.Cuts.{KnownCut, KnownCuts, CutRows}
use Rattle.plan_windows.specs.Windows.{Admitted, LeastCuts}

module _ {side : Side} {w : ℕ} {opens closes plan : List ℕ} (units : Units side w opens closes plan) where
  abbrev first : ℕ → ℕ
  first = seen_at side w opens

  abbrev last : ℕ → ℕ
  last = seen_at side w closes

  abbrev seat : ℕ → ℕ
  seat = seen_at side w plan

  module _ (d m : List ℤ) (admitted : Admitted side w d m opens closes plan) {marks : List ℕ}
      (marked : Marked (length opens) w first last seat marks) where
    pub marks_known : KnownCuts w d m marks
    marks_known f l hf hl p = ⊎_elim (λ z. absurd (omega arith)) (λ x.
        let j = x.0 in
        let u = units.inside j x.1 in
        let k : KnownCut w d m (first j) (last j) (seat j) = record { opens = u.0; inside = (u.1, u.2); admitted = admitted j x.1 } in
        subst (λ (y : ℕ). KnownCut w d m f l y) (sym x.4)
        (subst (λ (y : ℕ). KnownCut w d m f y (seat j)) x.3 (subst (λ (y : ℕ). KnownCut w d m y (last j) (seat j)) x.2 k)))
        (marked.from f l hf hl)

    module _ (marks' : List ℕ) (cut : CutRows w d m w marks marks') where
      least : (j : ℕ) → j < length opens → LeastCutAt w d m (first j) (last j) (slot w marks' (first j) (last j))
      least j h = let u = units.inside j h in (cut (first j) (last j) (omega arith) (omega arith)).1 (marked.found j h)

      pub cuts_read : (j : ℕ) → j < length opens → Reads side w opens closes marks' j
      cuts_read j h =
          let u = units.inside j h in
          let b = slots_below units j h in
          let i = (least j h).inside in
          record { raw = (b.0, b.1); window = (omega arith, omega arith); mark = omega arith }

      pub cuts_least : (out out' : List ℕ) → Filled (λ j. seen side w (slot w marks' (first j) (last j))) (length opens) out out'
          → LeastCuts side w d m opens closes out out'
      cuts_least out out' f = record {
        value = λ j. seen side w (slot w marks' (first j) (last j));
        each = λ j h. subst (λ (y : ℕ). LeastCutAt w d m (first j) (last j) y)
            (sym (seen_twice side w (slot w marks' (first j) (last j)) (cuts_read j h).mark)) (least j h);
        filled = f;
      }
