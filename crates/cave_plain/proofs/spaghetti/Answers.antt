-- `cave_plain::spaghetti` meets its contract. Assumes nothing.
use lib.Ieee.{of_bits, neg}
use Rattle.num_core.specs.Num.{nearest}
use Rattle.cave_plain.specs.Caves.{spaghetti_cave}
use Rattle.cave_plain.proofs.spaghetti.Goals as goal

pub returns : goal.returns
unfolding spaghetti_cave nearest of_bits neg
returns c = simp (c.fbm3d-cave_b.ensures, c.fbm3d-cave_a.ensures)
