-- `column_shapes::plateau` meets its contract. Assumes nothing.
use lib.Ieee.{of_bits, neg}
use Rattle.num_core.specs.Num.{nearest}
use Rattle.column_shapes.specs.Shapes.{plateau₃₂}
use Rattle.column_shapes.proofs.plateau.Goals as goal

pub returns : goal.returns
unfolding plateau₃₂ nearest of_bits neg
returns c = simp c.floor-steps.ensures
