-- `column_shapes::ridges_of` meets its contract. Assumes nothing.
use lib.Ieee.{of_bits, neg}
use Rattle.num_core.specs.Num.{nearest}
use Rattle.column_shapes.specs.Shapes.{ridges_of}
use Rattle.column_shapes.proofs.ridges_of.Goals as goal

pub returns : goal.returns
unfolding ridges_of nearest of_bits neg
returns c = simp (c.ridge-ridge2.ensures, c.ridge-ridge1.ensures)
