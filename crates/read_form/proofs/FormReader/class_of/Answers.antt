-- The table holds the class of each byte, as it is defined.
use Rattle.std.proofs.Common.{◌≡◌, ◌<◌, ℕ, List, get_or, ap, ◌∙◌, arith, rules}
use Rattle.lists.specs.Values.{list_of_at}
use Rattle.read_form.specs.Grid.{class_of, classes}
use Rattle.read_form.specs.GridLaws.{class_small}
use Rattle.read_form.proofs.FormReader.class_of.Goals as goal

at : (table : List ℕ) (b : ℕ) → table ≡ classes → b < 256 → get_or table b 0 ≡ class_of b
unfolding classes
at table b e h = ap (λ (k : List ℕ). get_or k b 0) e ∙ list_of_at class_of 256 b 0 h

pub returns : goal.returns
returns c =
    let e = at c.args.self.classes.now c.args.b c.requires (search rules) in
    (e, omega (arith, e, class_small c.args.b))
