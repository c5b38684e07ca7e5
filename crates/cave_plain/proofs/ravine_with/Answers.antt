-- `cave_plain::ravine_with` meets its contract. Assumes nothing.
use lib.Ieee.{of_bits}
use Rattle.num_core.specs.Num.{nearest}
use Rattle.cave_plain.specs.Caves.{ravine_with}
use Rattle.cave_plain.proofs.ravine_with.Goals as goal

pub returns : goal.returns
unfolding ravine_with nearest of_bits
returns c = simp (c.abs.ensures, c.noise2d-detail.ensures)
