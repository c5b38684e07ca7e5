-- The comparison is the definition's, with its half as f32's bits. Assumes nothing.
use Rattle.std.proofs.Common.{rules}
use lib.Ieee.{of_bits}
use Rattle.num_core.specs.Num.{nearest}
use Rattle.ground_blocks.specs.Blocks.{snow_patch}
use Rattle.ground_blocks.proofs.snow_patch.Goals as goal

pub returns : goal.returns
unfolding snow_patch nearest of_bits
returns c = search rules
