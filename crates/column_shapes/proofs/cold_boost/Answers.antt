-- `column_shapes::cold_boost` meets its contract. Assumes nothing.
use lib.Ieee.{of_bits, neg}
use Rattle.num_core.specs.Num.{nearest}
use Rattle.column_shapes.specs.Shapes.{cold_boost₃₂}
use Rattle.column_shapes.proofs.cold_boost.Goals as goal

pub returns : goal.returns
unfolding cold_boost₃₂ nearest of_bits neg
returns c = simp c.clamp.ensures
