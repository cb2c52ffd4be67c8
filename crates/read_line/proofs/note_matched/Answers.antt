-- The list reader's answer is where the note's own bracket is closed; that is right just at the end of the line.
use Rattle.std.proofs.Common.{ap, ◌∙◌, length, Some}
use Rattle.std.specs.Option.{option_eq}
use lib.Dec.{eqb}
use Rattle.read_line.proofs.LineLaws.{note_ends}
use Rattle.read_line.proofs.note_matched.Goals as goal

pub returns : goal.returns
returns c =
    let s = c.args.s.now in
    c.eq.ensures ∙ ap (λ o. option_eq eqb o (Some (length s))) c.list_end.ensures ∙ note_ends s c.requires
