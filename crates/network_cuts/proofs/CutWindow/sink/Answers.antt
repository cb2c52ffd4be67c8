-- Where a sweep lowers nothing, z keeps the arcs.
use Rattle.network_cuts.proofs.SettleLaws.{still_admits}
use Rattle.network_cuts.proofs.CutWindow.sink.Goals as goal

pub returns-in-Still : goal.returns-in-Still
returns-in-Still c = still_admits c.loop.invariant c.sweep.new.z c.in-Still.ensures
