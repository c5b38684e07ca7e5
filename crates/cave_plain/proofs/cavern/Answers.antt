-- `cave_plain::cavern` meets its contract. Assumes nothing.
use lib.Ieee.{of_bits, neg}
use Rattle.num_core.specs.Num.{nearest}
use Rattle.cave_plain.specs.Caves.{large_cavern}
use Rattle.cave_plain.proofs.cavern.Goals as goal

pub returns : goal.returns
unfolding large_cavern nearest of_bits neg
returns c = simp (c.clamp-depth_factor.ensures, c.fbm3d-n.ensures)
