-- Where a chunk lies wholly below the ground (SCOPE 4.9), or wholly above everything (4.7). Assumes nothing.
use Rattle.std.specs.Prelude.{ℕ, Bool, ◌&&◌, pos, negsuc, ◌+ℤ◌}
use Rattle.std.specs.Int.Signed.{le_z}
unfoldable pub use Rattle.grid.specs.Cube.{all_of}
use Rattle.ground_cell.specs.declared.world.World.{World}
use Rattle.ground_cell.specs.declared.world.Frame.{Frame}

-- the level above a deep chunk is −7 at most (negsuc 6), so its highest cell at −8: 9 below a column's top, which is 1 at least
abbrev pub deep_end : ℕ
deep_end = 6

-- a boulder has 5 blocks at most; a tree stands only in the chunk that has its surface cell
abbrev pub boulder_reach : ℕ
boulder_reach = 5

unfoldable pub deep_in : Frame → Bool
deep_in o = le_z (o.oy +ℤ pos o.size) (negsuc deep_end)

-- no lower than the sea, nor than the level above a boulder on the highest column
unfoldable pub sky_in : World → Frame → Bool
sky_in w o = le_z w.sea_level o.oy && le_z (w.max_height +ℤ pos boulder_reach) o.oy
