-- The static is the grid that the forms make: that all rows are the same is one computed test.
use lib.Dec.{eqb, eqb→eq}
use Rattle.forms.specs.Words.{text}
use Rattle.forms.specs.Form.{printable, past}
use Rattle.forms.specs.declared.House.TheVariants.{Partner}
use Rattle.read_form.specs.Grid.{grid, states, class_bytes, over, first_of, fits, same_all}
use Rattle.read_form.specs.GridLaws.{same_all_lem}
use Rattle.grid_partner.proofs.reader.Goals as goal

pub returns : goal.returns
unfolding grid states class_bytes over text printable past first_of fits
returns c = record {
  is_grid = same_all_lem (same_all eqb) (same_all_lem eqb eqb→eq) _ (grid Partner) tt;
  is_classes = c.class_table.ensures;
}
