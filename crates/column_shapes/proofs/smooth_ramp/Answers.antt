-- `column_shapes::smooth_ramp` meets its contract. Assumes nothing.
use lib.Ieee.{of_bits}
use Rattle.num_core.specs.Num.{nearest}
use Rattle.column_shapes.specs.Shapes.{smooth_ramp₃₂}
use Rattle.column_shapes.proofs.smooth_ramp.Goals as goal

pub returns : goal.returns
unfolding smooth_ramp₃₂ nearest of_bits
returns c = simp (c.smooth.ensures, c.clamp.ensures)
