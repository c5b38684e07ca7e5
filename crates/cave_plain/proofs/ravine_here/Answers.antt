-- `cave_plain::ravine_here` meets its contract. Assumes nothing.
use lib.Ieee.{of_bits, neg}
use Rattle.num_core.specs.Num.{nearest}
use Rattle.cave_plain.specs.Caves.{ravine_here}
use Rattle.cave_plain.proofs.ravine_here.Goals as goal

pub returns : goal.returns
unfolding ravine_here nearest of_bits neg
returns c = simp (c.ravine_with.ensures, c.fbm2d.ensures)
