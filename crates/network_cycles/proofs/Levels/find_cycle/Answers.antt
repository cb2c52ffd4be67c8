-- The stretch that the walk back finds is a cycle, and its least boundary comes first.
use Rattle.std.proofs.Common.{◌-◌, arith}
use Rattle.lists.specs.Slices.{part_length}
use Rattle.network_cycles.proofs.CycleTurnLaws.{cycle_put}
use Rattle.network_cycles.proofs.Levels.find_cycle.Goals as goal

pub returns : goal.returns
returns c =
    let a = c.args in
    let r = c.walk_back-found in
    let s = r.result in
    rw (part_length s.start (s.end - s.start) r.new.walk (omega (arith, r.ensures.order, r.ensures.inside)))
    (cycle_put a.self.now.w a.self.now.d.now s.start s.end r.new.walk a.out.now c.put_turned.new.out
    c.lowest_place-low.result r.ensures c.lowest_place-low.ensures c.put_turned.ensures)
