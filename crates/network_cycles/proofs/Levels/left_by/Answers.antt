-- The row of level k has the level, and small weights keep the sum within 16 bits.
use Rattle.std.proofs.Common.{◌∙◌, rules, FitsSigned, w16, to_z-of_z}
use Rattle.network_levels.specs.LevelSteps.{left_is, left_fits}
use Rattle.network_cycles.proofs.Levels.left_by.Goals as goal

pub overflow_add-result : goal.overflow_add-result
overflow_add-result c =
    let a = c.args in
    let f : FitsSigned w16 c.entry_at.result = search rules in
    let g : FitsSigned w16 c.entry_at-2.result = search rules in
    rw (to_z-of_z f, to_z-of_z g, c.entry_at.ensures, c.entry_at-2.ensures)
    (left_fits a.self.now.made a.k a.u a.v c.requires.0 c.requires.1 c.requires.2)

pub returns : goal.returns
returns c =
    let a = c.args in
    let f : FitsSigned w16 c.entry_at.result = search rules in
    let g : FitsSigned w16 c.entry_at-2.result = search rules in
    rw (to_z-of_z f, to_z-of_z g, c.entry_at.ensures, c.entry_at-2.ensures)
    (to_z-of_z (left_fits a.self.now.made a.k a.u a.v c.requires.0 c.requires.1 c.requires.2)
    ∙ left_is a.self.now.made a.k a.u a.v c.requires.0 c.requires.1)
