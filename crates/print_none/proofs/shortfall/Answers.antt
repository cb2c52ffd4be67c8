-- The next step's limit is part of what it rises or of what it falls by. Which two boundaries it lies between is asked of `grind`, whatever names the code
-- gives them: a wrong pair falls there.
use Rattle.std.proofs.Common.{ap, ap₂, ◌∙◌, ◌+◌, ◌%◌, length, get_or, arith}
use Rattle.std.proofs.Math.Nat.{mod-lt}
use Rattle.std.proofs.Common.{w16, to_z-of_z}
use Rattle.integers.specs.Parts.{up, dn}
use Rattle.network.specs.Table.{entry}
use Rattle.pages.proofs.PageLaws.{walked_none, walked_next}
use Rattle.print_none.proofs.shortfall.Goals as goal

pub loop-i-init : goal.loop-i-init
loop-i-init c = record { rises = omega arith; falls = omega arith; walked = walked_none _ _ c.requires.some }

pub loop-i-preserved : goal.loop-i-preserved
loop-i-preserved c =
    let a = c.args in
    let l = c.loop-i in
    let f = c.requires in
    let n = length a.ring.now in
    let d = entry a.w a.limits.now in
    let limit = to_z-of_z {w = w16} (record { sfits = c.entry_at-limit.type_inv }) ∙ c.entry_at-limit.ensures
    ∙ ap₂ d {y = get_or a.ring.now l.i 0} {v = get_or a.ring.now ((l.i + 1) % n) 0} (grind arith) (grind arith) in
    let rise = c.above-rise.ensures ∙ ap up limit in
    let fall = c.below-fall.ensures ∙ ap dn limit in
    let small = f.small _ _ (f.inside l.i c.loop-i-test.true) (f.inside ((l.i + 1) % n) (mod-lt (l.i + 1) f.some)) in
    record {
      rises = omega (arith, rise, small.0, l.invariant.rises);
      falls = omega (arith, fall, small.1, l.invariant.falls);
      walked = rw (rise, fall) (walked_next d a.ring.now l.i l.rise l.fall c.loop-i-test.true l.invariant.walked);
    }
