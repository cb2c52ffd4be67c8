-- The rooms for levels and walk are long enough for the largest number of boundaries.
use Rattle.std.proofs.Common.{◌+◌, ◌*◌}
use Rattle.network.specs.Table.{max_boundaries}
use Rattle.network_levels.specs.LevelSteps.{first_level, levels_fit}
use Rattle.network_cycles.proofs.negative_cycle.Goals as goal

pub fill_levels-requires : goal.fill_levels-requires
fill_levels-requires c =
    (c.requires.0, levels_fit c.args.w c.requires.0.few, first_level ((max_boundaries + 1) * max_boundaries) c.args.w c.args.d.now)
