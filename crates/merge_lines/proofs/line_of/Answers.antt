-- The place lies within its text, and the slice that is handed back is the bytes there.
use Rattle.std.proofs.Common.{refl, sym, ap}
use native.Mathlib.Nat.{zero-add}
use Rattle.std.specs.Prelude.{Ok}
use Rattle.merge_lines.specs.declared.LinePlace.TheVariants.{First, Second}
use Rattle.merge_lines.proofs.LocateLaws.{in_first, in_second_lem, part_of}
use Rattle.merge_lines.proofs.line_of.Goals as goal

pub slice_bounds-result-count : goal.slice_bounds-result-count
slice_bounds-result-count c = (in_first _ _ _ _ c.in-Ok-First.ensures _ _ (ap Ok c.in-Ok-First.field-0-is)).0

pub slice_bounds-result-start : goal.slice_bounds-result-start
slice_bounds-result-start c = (in_first _ _ _ _ c.in-Ok-First.ensures _ _ (ap Ok c.in-Ok-First.field-0-is)).0

pub slice_bounds-result-end : goal.slice_bounds-result-end
slice_bounds-result-end c = (in_first _ _ _ _ c.in-Ok-First.ensures _ _ (ap Ok c.in-Ok-First.field-0-is)).1

pub slice_bounds-result-count-in-Ok-Second : goal.slice_bounds-result-count-in-Ok-Second
slice_bounds-result-count-in-Ok-Second c = (in_second_lem _ _ _ _ c.in-Ok-Second.ensures _ _ (ap Ok c.in-Ok-Second.field-0-is)).0

pub slice_bounds-result-start-in-Ok-Second : goal.slice_bounds-result-start-in-Ok-Second
slice_bounds-result-start-in-Ok-Second c = (in_second_lem _ _ _ _ c.in-Ok-Second.ensures _ _ (ap Ok c.in-Ok-Second.field-0-is)).0

pub slice_bounds-result-end-in-Ok-Second : goal.slice_bounds-result-end-in-Ok-Second
slice_bounds-result-end-in-Ok-Second c = (in_second_lem _ _ _ _ c.in-Ok-Second.ensures _ _ (ap Ok c.in-Ok-Second.field-0-is)).1

pub returns-in-Err : goal.returns-in-Err
returns-in-Err c =
    part_of _ _ _ _ _ _ c.in-Err.ensures refl (record { bytes = refl; block = refl; place = sym (zero-add _) })

pub returns-in-Ok-First : goal.returns-in-Ok-First
returns-in-Ok-First c =
    part_of _ _ _ _ (Ok (First c.in-Ok-First.start c.in-Ok-First.end)) _ c.in-Ok-First.ensures (ap Ok c.in-Ok-First.field-0-is)
    (record { bytes = refl; block = refl; place = refl })

pub returns-in-Ok-Second : goal.returns-in-Ok-Second
returns-in-Ok-Second c =
    part_of _ _ _ _ (Ok (Second c.in-Ok-Second.start c.in-Ok-Second.end)) _ c.in-Ok-Second.ensures (ap Ok c.in-Ok-Second.field-0-is)
    (record { bytes = refl; block = refl; place = refl })
