-- Without a feasible potential some boundary fell, so a place is found, and it is one that fell.
use Rattle.std.proofs.lemmas.Option.{MatchOption-at_some}
use Rattle.std.proofs.lemmas.Bool.{some_since}
use Rattle.network_levels.specs.LevelSteps.{fallen_at, fallen_there}
use Rattle.network_cycles.proofs.Levels.last_fallen.Goals as goal

pub unwrap-requires : goal.unwrap-requires
unwrap-requires c = some_since _ _ _ c.first_below.ensures (fallen_there c.args.self.now.made c.requires)

pub returns : goal.returns
returns c =
    let r = MatchOption-at_some _ _ c.unwrap.result c.unwrap.ensures c.first_below.ensures in
    fallen_at c.args.self.now.made c.unwrap.result r.0 r.1
