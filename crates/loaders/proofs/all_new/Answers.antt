-- Key idea: a number that is new is put in front of its chain, and one that is not decides.
use Rattle.std.proofs.Common.{refl, sym, ◌∙◌, arith}
use Rattle.sheet.proofs.LoaderLaws.{new_next, new_stop, new_end}
use Rattle.loaders.specs.ChainLaws.{linked_none, linked_more}
use Rattle.loaders.proofs.all_new.Goals as goal

pub loop-j-init : goal.loop-j-init
loop-j-init c = record { room = refl; linked = linked_none _ _; asked = refl }

pub returns-then-not-is_new : goal.returns-then-not-is_new
returns-then-not-is_new c =
    let l = c.loop-j in
    sym (l.invariant.asked ∙ new_stop c.args.ks.now l.j (omega arith) (sym c.is_new.ensures ∙ c.if-not-is_new.true))

pub loop-j-preserved : goal.loop-j-preserved
loop-j-preserved c =
    let l = c.loop-j in
    let ks = c.args.ks.now in
    record {
      room = c.link.auto.nexts ∙ l.invariant.room;
      linked = rw (c.link.ensures.heads_after, c.link.ensures.nexts_after)
          (linked_more ks l.heads l.nexts l.j l.invariant.linked (omega (arith, l.invariant.room, c.requires)));
      asked = l.invariant.asked ∙ new_next ks l.j (omega arith) (sym c.is_new.ensures ∙ c.if-not-is_new.false);
    }

pub returns : goal.returns
returns c = sym (c.loop-j.invariant.asked ∙ new_end c.args.ks.now c.loop-j.j (omega arith))
