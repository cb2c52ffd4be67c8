-- The numbers before place j are in their chains.
use Rattle.std.proofs.Common.{ℕ, ◌≡◌, length, ap, sym, ◌∙◌, arith}
use Rattle.std.proofs.Math.ListN.{length-replicate}
use mathlib.Core.Path.{subst}
use Rattle.loaders.specs.Chains.{chains, Linked}
use Rattle.loaders.specs.ChainLaws.{linked_none, linked_more}
use Rattle.merge_units.proofs.link_all.Goals as goal

pub loop-j-init : goal.loop-j-init
loop-j-init c =
    let nexts = c.args.nexts.now in
    (omega arith, c.requires.2, subst (λ hs. Linked c.args.ks.now 0 hs nexts) (sym c.requires.1) (linked_none _ nexts))

pub link-requires : goal.link-requires
link-requires c =
    let l = c.loop-j.invariant in
    (l.2.wide, omega (arith, c.requires.0), omega (arith, c.requires.0, l.1))

pub loop-j-preserved : goal.loop-j-preserved
loop-j-preserved c =
    let k = c.link in
    let l = c.loop-j in (
      omega arith,
      k.auto.nexts ∙ l.invariant.1,
      rw (k.ensures.heads_after, k.ensures.nexts_after) (linked_more c.args.ks.now l.heads l.nexts l.j l.invariant.2 (omega (arith, c.requires.0, l.invariant.1))),
    )

-- the chains are as many as they were
pub shape_of-heads : goal.shape_of-heads
shape_of-heads c = c.loop-j.invariant.2.wide ∙ sym (ap length c.requires.1 ∙ length-replicate {A = ℕ} chains 0)

pub returns : goal.returns
returns c =
    let e : c.loop-j.j ≡ length c.args.ks.now = omega arith in
    subst (λ n. Linked c.args.ks.now n c.loop-j.heads c.loop-j.nexts) e c.loop-j.invariant.2
