-- A refusal of the merge is one of the line; else the line is looked for in both texts.
use Rattle.std.proofs.Common.{ℕ, List, sym, ap, ◌∙◌}
use lib.Seq.{length-take-le}
use Rattle.read_questions.specs.Reading.{ListRooms}
use Rattle.merge_lines.specs.Lines.{located_at}
use Rattle.merge_lines.specs.LinesLaws.{units_few, found_refused, found_located}
use Rattle.merge_lines.proofs.find_line.Goals as goal

pub shared_ref_as_front-place_of : goal.shared_ref_as_front-place_of
shared_ref_as_front-place_of c =
    let a = c.args in
    units_few a.one.now a.two.now a.loader _ _ _ c.in-Ok.ensures.result_value

pub slice_bounds-place_of-end : goal.slice_bounds-place_of-end
slice_bounds-place_of-end c = sym (length-take-le _ c.join.new.self.numbers c.in-Ok.ensures.leaves_merged.long.in_loader)

pub returns-in-Err : goal.returns-in-Err
returns-in-Err c =
    let a = c.args in
    found_refused a.one.now a.two.now a.loader _ c.in-Err.ensures.result_value c.in-Err.ensures.result_value_2

pub returns : goal.returns
returns c =
    let a = c.args in
    c.locate.ensures ∙ ap (located_at a.one.now a.two.now) c.place_of-i.ensures
    ∙ found_located a.one.now a.two.now a.loader _ _ _ c.in-Ok.ensures.result_value
    _ (ap (λ (m : ListRooms (List ℕ)). m.loader) c.in-Ok.ensures.leaves_merged.fronts)
