-- `column::weights` meets its contract. Assumes nothing.
use lib.Ieee.{of_bits, neg}
use Rattle.num_core.specs.Num.{nearest}
use Rattle.column.specs.Column.{desert_weight₃₂, mountain_weight₃₂, forest_weight₃₂, plains_weight₃₂, weights_of}
use Rattle.column.proofs.weights.Goals as goal

pub returns : goal.returns
unfolding weights_of desert_weight₃₂ mountain_weight₃₂ forest_weight₃₂ plains_weight₃₂ nearest of_bits neg
returns c =
    simp (c.max-plains_w.ensures, c.smooth_ramp-3.ensures, c.smooth_ramp-mountain_w.ensures, c.smooth_ramp-2.ensures, c.smooth_ramp.ensures)
