-- `column_shapes::ridges` meets its contract. Assumes nothing.
use lib.Ieee.{of_bits, neg}
use Rattle.num_core.specs.Num.{nearest}
use Rattle.column_shapes.specs.Shapes.{ridges₃₂}
use Rattle.column_shapes.proofs.ridges.Goals as goal

pub returns : goal.returns
unfolding ridges₃₂ nearest of_bits neg
returns c = simp (c.ridges_of.ensures, c.offset_fbm-n2.ensures, c.offset_fbm-n1.ensures)
