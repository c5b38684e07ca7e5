-- Block ids, and which block a cell below the surface is (SCOPE 4.9), re-exported. Assumes nothing.
pub use Rattle.ground_blocks.specs.Blocks.{AIR, STONE, DIRT, GRASS, SAND, WATER, SNOW, GRAVEL, LOG, LEAVES}
unfoldable pub use Rattle.ground_blocks.specs.Blocks.{desert_block, snow_patch, mountain_top, mountain_block}
unfoldable pub use Rattle.ground_blocks.specs.Blocks.{shore_block, forest_block, plains_block, select_block}
