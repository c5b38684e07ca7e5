-- No cave is taken where the test fails, and the block is the biome's. Assumes nothing.
use Rattle.std.proofs.Common.{rules}
use Rattle.ground_cell.specs.World.{ground_cell}
use Rattle.ground_cell.proofs.world.ground_cell.Goals as goal

pub returns : goal.returns
unfolding ground_cell
returns c = let e = c.if-wy-height.false in let k = c.select_block.ensures in search rules
