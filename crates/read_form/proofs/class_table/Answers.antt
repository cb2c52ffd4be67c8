-- The static is the class of each byte: that all entries are the same is one computed test.
use lib.Dec.{eqb, eqb→eq}
use Rattle.forms.specs.Words.{text}
use Rattle.read_form.specs.Grid.{classes, class_of, class_bytes, stand_in}
use Rattle.read_form.specs.GridLaws.{same_all_lem}
use Rattle.read_form.proofs.class_table.Goals as goal

pub returns : goal.returns
unfolding classes class_of class_bytes stand_in text
returns c = same_all_lem eqb eqb→eq _ classes tt
