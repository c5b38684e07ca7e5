-- `column_shapes::scaled_fbm` meets its contract. Assumes nothing.
use lib.Ieee.{of_bits, neg}
use Rattle.num_core.specs.Num.{nearest}
use Rattle.column_shapes.specs.Shapes.{scaled_fbm₃₂}
use Rattle.column_shapes.proofs.scaled_fbm.Goals as goal

pub returns : goal.returns
unfolding scaled_fbm₃₂ nearest of_bits neg
returns c = simp c.fbm2d.ensures
