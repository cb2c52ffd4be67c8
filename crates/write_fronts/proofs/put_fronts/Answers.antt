-- The fronts of the lists are a sheet's lists, which planning accepts, and its text is short enough for the page.
use Rattle.std.proofs.Common.{arith}
use Rattle.write_lines.specs.LinesLaws.{listed_short}
use Rattle.write_fronts.proofs.put_fronts.Goals as goal

pub put_sheet-requires-clause-room : goal.put_sheet-requires-clause-room
put_sheet-requires-clause-room c = record { fits = omega (arith, listed_short _ c.requires.passes c.args.house) }
