-- `cave_rows::hollow_at` meets its contract. Assumes nothing.
use lib.Ieee.{of_bits, neg}
use Rattle.num_core.specs.Num.{nearest}
use Rattle.cave_rows.specs.Fields.{hollow_of}
use Rattle.cave_rows.proofs.hollow_at.Goals as goal

pub returns : goal.returns
unfolding hollow_of nearest of_bits neg
returns c = simp c.clamp-depth_factor.ensures
