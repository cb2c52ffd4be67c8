-- The lines up to the last line feed, one after the other, then the bytes past it, and then question 5 of the text.
-- Key idea: at each line's start what is left to ask decides the whole, the arrays hold the numbers of the lines before (`Asking`), and the loader numbers
-- are in their chains (`Chained`).
use Rattle.std.proofs.Common.{◌-◌}
use Rattle.read_unit.specs.UnitStep.{Chained}
use Rattle.read_questions.specs.Reading.{rooms}
use Rattle.read_ask.proofs.ReadLaws.{Asking}
use Rattle.read_ask.proofs.pass.Given as goal

abbrev pub invariant-loop-at : goal.invariant-loop-at
invariant-loop-at l =
    let i = l.initial in
    Asking l.house l.text l.at l.n l.s (rooms i.numbers i.firsts i.lasts i.froms i.tos i.lows i.highs)
    (rooms l.numbers l.firsts l.lasts l.froms l.tos l.lows l.highs)
    × Chained l.s l.numbers l.heads l.nexts

abbrev pub decreases-loop-at : goal.decreases-loop-at
decreases-loop-at l = l.whole - l.at
