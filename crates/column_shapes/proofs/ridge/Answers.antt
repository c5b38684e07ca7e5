-- `column_shapes::ridge` meets its contract. Assumes nothing.
use lib.Ieee.{of_bits, neg}
use Rattle.num_core.specs.Num.{nearest}
use Rattle.column_shapes.specs.Shapes.{ridge₃₂}
use Rattle.column_shapes.proofs.ridge.Goals as goal

pub returns : goal.returns
unfolding ridge₃₂ nearest of_bits neg
returns c = simp c.abs.ensures
