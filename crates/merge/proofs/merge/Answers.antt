-- Question 12 stands at the end; only where it is answered yes too are the rooms filled.
use Rattle.std.proofs.Common.{ℕ, ◌≡◌, true, List, sym, ◌∙◌}
use Rattle.std.proofs.lemmas.Result.{err_from_is_err_and}
use Rattle.read_questions.specs.Reading.{rooms, lists_fit}
use Rattle.read_rooms.specs.Rooms.{sizes_of}
use Rattle.read_rooms.proofs.ReadingLaws.{rooms_hold}
use Rattle.merge.proofs.MergingLaws.{answer_no, answer_rooms, answer_read, rooms_kept, rooms_filled}
use Rattle.merge.proofs.merge.Goals.{Else-not-lists_fit}
use Rattle.merge.proofs.merge.Goals as goal

pub returns-in_err-merged : goal.returns-in_err-merged
returns-in_err-merged c =
    let a = c.args in
    let m = rooms a.loader.now a.first.now a.last.now a.from.now a.to.now a.low.now a.high.now in
    let p = err_from_is_err_and c.from_residual.result c.from_residual.ensures.1 in
    let e = answer_no a.one.now a.two.now (sizes_of m) _ _ c.in_err-merged.ensures.result_value in
    rw (p.1, p.2) (record { result_value = e; high_after = rooms_kept a.one.now a.two.now m _ _ e })

pub returns-then-not-lists_fit : goal.returns-then-not-lists_fit
returns-then-not-lists_fit c =
    let a = c.args in
    let m = rooms a.loader.now a.first.now a.last.now a.from.now a.to.now a.low.now a.high.now in
    let e = answer_rooms a.one.now a.two.now (sizes_of m) _ _ _ c.in_ok-merged.ensures.result_value (sym c.lists_fit.ensures ∙ c.if-not-lists_fit.true) in
    record {
      result_value = rw c.refused.ensures e;
      high_after = rooms_kept a.one.now a.two.now m 12 0 e;
    }

fitting : (c : Else-not-lists_fit) → let a = c.args in
    lists_fit c.in_ok-merged.merged.units c.in_ok-merged.merged.rules (sizes_of (rooms a.loader.now a.first.now a.last.now a.from.now a.to.now a.low.now a.high.now)) ≡ true
fitting c = sym c.lists_fit.ensures ∙ c.if-not-lists_fit.false

pub fill-requires : goal.fill-requires
fill-requires c =
    let a = c.args in
    let m = rooms a.loader.now a.first.now a.last.now a.from.now a.to.now a.low.now a.high.now in
    (c.in_ok-merged.ensures.leaves_merged.long, rooms_hold _ _ m (fitting (goal.at.fill-requires c).Else-not-lists_fit))

pub returns : goal.returns
returns c =
    let a = c.args in
    let k = c.join.new.self in
    let m = rooms a.loader.now a.first.now a.last.now a.from.now a.to.now a.low.now a.high.now in
    let e = answer_read a.one.now a.two.now (sizes_of m) _ _ _ c.in_ok-merged.ensures.result_value (fitting (goal.at.returns c).Else-not-lists_fit) in
    record {
      result_value = e;
      high_after = c.fill.ensures ∙ rooms_filled a.one.now a.two.now c.in_ok-merged.merged (rooms k.numbers k.firsts k.lasts k.froms k.tos k.lows k.highs) m
          c.in_ok-merged.ensures.leaves_merged _ _ _ e;
    }
