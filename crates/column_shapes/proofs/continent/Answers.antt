-- `column_shapes::continent` meets its contract. Assumes nothing.
use lib.Ieee.{of_bits, neg}
use Rattle.num_core.specs.Num.{nearest}
use Rattle.column_shapes.specs.Shapes.{continent₃₂}
use Rattle.column_shapes.proofs.continent.Goals as goal

pub returns : goal.returns
unfolding continent₃₂ nearest of_bits neg
returns c = simp (c.scaled_fbm.ensures, c.offset_fbm-warp_z.ensures, c.offset_fbm-warp_x.ensures)
