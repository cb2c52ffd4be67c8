-- Byte by byte the front of the word grows by one.
use Rattle.std.proofs.Common.{◌≡◌, refl, sym, ap, ◌∙◌, List, [], ◌∷◌, ℕ, ◌+◌, ◌<◌, length, get_or, set, take, arith, length-take-le}
use Rattle.std.proofs.lemmas.List.{take_all, take_more}
use Rattle.std.proofs.lemmas.List.Edits.{sets}
use Rattle.lists.specs.Slices.{sets_append}
use Rattle.print_bytes.proofs.WritingLaws.{bytes_set}
use Rattle.print_bytes.proofs.put_word.Goals as goal

grows : (page w : List ℕ) (at i : ℕ) → i < length w → set (sets page at (take i w)) (at + i) (get_or w i 0) ≡ sets page at (take (i + 1) w)
grows page w at i h =
    sym (ap (sets page at) (take_more w i 0 h) ∙ sets_append (take i w) (get_or w i 0 ∷ []) page at
    ∙ ap (λ k. set (sets page at (take i w)) (at + k) (get_or w i 0)) (length-take-le i w (omega arith)))

pub loop-i-preserved : goal.loop-i-preserved
loop-i-preserved c =
    let a = c.args in
    ap (λ p. set p (a.at + c.loop-i.i) (get_or a.word.now c.loop-i.i 0)) c.loop-i.invariant ∙ grows a.page.now a.word.now a.at c.loop-i.i c.loop-i-test.true

pub returns : goal.returns
returns c =
    let a = c.args in
    record {
      filled =
          c.loop-i.invariant ∙ ap (sets a.page.now a.at) (take_all c.loop-i.i a.word.now c.loop-i-test.false)
          ∙ sym (bytes_set a.page.now a.at a.word.now c.requires);
      moved = refl;
    }
