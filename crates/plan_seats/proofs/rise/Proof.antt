-- The counts rise from at least 0, so the difference of two that follow each other is a number of seats.
use mathlib.Core.Path.{◌≡◌, ap₂, subst, ◌∙◌}
use Prim.Native.Nat.{ℕ, suc, ◌-◌}
use native.Mathlib.Omega.{arith}
use lib.ListN.{get_or}
use lib.IntN.{ℤ, pos}
use lib.Signed.{◌≤ℤ◌}
use mir.Syntax.{w16}
use mir.Val.{SFits}
use mir.Facts.{to_z-of_z}
use Rattle.plan_seats.specs.Seats.{count_at}
use Rattle.plan_seats.proofs.SlotLaws.{rise_fits, rise_casts, rise_is}
use borrow.Author.Rules.{rules}
use Rattle.plan_seats.proofs.rise.Statement.{statement}
use Rattle.plan_seats.proofs.rise.Tie as tie

-- where the slot ends, and where it starts
abbrev end : tie.After-result-2-1 → ℕ
end c = c.end-end.result.0

abbrev start : tie.After-result-2-1 → ℕ
start c = c.start-start.result.0

abbrev high : tie.After-result-2-1 → ℤ
high c = get_or c.args.counts.now (end c) (pos 0)

abbrev low : tie.After-result-2-1 → ℤ
low c = get_or c.args.counts.now (start c) (pos 0)

record Known (c : tie.After-result-2-1) : Type 0 where
  nonneg : pos 0 ≤ℤ low c
  rises : low c ≤ℤ high c
  low_fits : SFits w16 (low c)
  high_fits : SFits w16 (high c)

known : (c : tie.After-result-2-1) → Known c
known c =
    let st = c in
    let e : suc (start c) ≡ end c = omega (arith, c.end-end.ensures, c.start-start.ensures) in
    let r = st.requires.2 (start c) (omega (arith, c.end-end.ensures)) in
    record {
      nonneg = r.0;
      rises = subst (λ (k : ℕ). low c ≤ℤ get_or st.args.counts.now k (pos 0)) e r.1;
      low_fits = search rules;
      high_fits = search rules;
    }

sub_result : tie.Need-overflow_sub-result
sub_result c =
    let k = known c in
    rw (to_z-of_z k.high_fits, to_z-of_z k.low_fits) (rise_fits (high c) (low c) k.nonneg k.rises k.high_fits)

cast_result : tie.Need-overflow_cast-result
cast_result c =
    let k = known c in
    rw (to_z-of_z k.high_fits, to_z-of_z k.low_fits, to_z-of_z (rise_fits (high c) (low c) k.nonneg k.rises k.high_fits))
    (rise_casts (high c) (low c) k.nonneg k.rises k.high_fits)

returns : tie.Need-returns
returns c =
    let k = known c in
    let counts = c.args.counts.now in
    rw (to_z-of_z k.high_fits, to_z-of_z k.low_fits, to_z-of_z (rise_fits (high c) (low c) k.nonneg k.rises k.high_fits))
    (rise_is (high c) (low c) k.nonneg k.rises k.high_fits)
    ∙ ap₂ (λ (e b : ℕ). count_at counts e - count_at counts b) c.end-end.ensures c.start-start.ensures

pub rise_spec : {M : Type 1} → statement M
rise_spec = tie.close (tie.spec (λ c κs. tt) (λ c κs. search rules) (λ c. search rules) (λ c. search rules) (λ c. search rules) (λ c. search rules)
    sub_result cast_result returns)
