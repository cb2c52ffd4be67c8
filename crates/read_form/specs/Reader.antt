-- Whose lines a form reader reads.
use Rattle.forms.specs.declared.House.{House}
use Rattle.read_form.specs.Grid.{Tables}
use Rattle.read_form.specs.declared.FormReader.{FormReader}

-- the tables that it was lent are those of a house
abbrev pub Serves : House → FormReader → Type 0
Serves h r = Tables h r.grid.now r.classes.now
