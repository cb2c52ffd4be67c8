-- The first boundary whose step leaves no more than the level is one: if all left more, none would give it.
use Rattle.std.proofs.Common.{rules, arith, FitsSigned, w16, to_z-of_z, below_more}
use Rattle.integers.specs.Parts.{ints}
use Rattle.network_levels.specs.LevelSteps.{source_at, source_there}
use Rattle.network_cycles.proofs.Levels.source_of.Goals as goal

pub returns-then-left_by-target : goal.returns-then-left_by-target
returns-then-left_by-target c =
    let a = c.args in
    let f : FitsSigned w16 c.entry_at-target.result = search rules in
    let g : FitsSigned w16 c.left_by.result = search rules in
    let t = simp (to_z-of_z f, to_z-of_z g) at c.if-left_by-target.true in
    source_at a.self.now.made a.k a.v c.requires.0 c.requires.1 c.requires.2 c.loop-u.u c.loop-u-test.true
    (omega (ints, t, c.entry_at-target.ensures, c.left_by.ensures))

pub loop-u-preserved : goal.loop-u-preserved
loop-u-preserved c =
    let f : FitsSigned w16 c.entry_at-target.result = search rules in
    let g : FitsSigned w16 c.left_by.result = search rules in
    let t = simp (to_z-of_z f, to_z-of_z g) at c.if-left_by-target.false in
    below_more _ _ c.loop-u.invariant (omega (ints, t, c.entry_at-target.ensures, c.left_by.ensures))

pub unreachable-requires : goal.unreachable-requires
unreachable-requires c =
    let a = c.args in
    source_there a.self.now.made a.k a.v c.requires.0 c.requires.1 c.requires.2 (λ u h. c.loop-u.invariant u (omega arith))
