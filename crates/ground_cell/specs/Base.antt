-- The chunk before boulders and trees (SCOPE 4.6 to 4.10). Assumes nothing.
use Rattle.std.specs.Prelude.{◌≡◌, ℕ, ◌*◌, ◌/◌, ◌%◌, ◌≤◌, ◌<◌, List, length, get_or, pos, ◌+ℤ◌}
use Rattle.grid.specs.Cube.{tab}
use Rattle.ground_cell.specs.World.{height_at, biome_at, biome_number, base_cell}
use Rattle.ground_cell.specs.declared.world.World.{World}
use Rattle.ground_cell.specs.declared.world.Frame.{Frame}

-- cell i is at x = i % size, y = i / size % size, z = i / size / size
unfoldable pub base_numbered : World → Frame → ℕ → ℕ
base_numbered w o i = base_cell w (o.ox +ℤ pos (i % o.size)) (o.oy +ℤ pos (i / o.size % o.size)) (o.oz +ℤ pos (i / o.size / o.size))

unfoldable pub base_cells : World → Frame → List ℕ
base_cells w o = tab (o.size * o.size * o.size) (base_numbered w o)

-- column k is at x = k % size, z = k / size
unfoldable pub column_height : World → Frame → ℕ → ℕ
column_height w o k = height_at w (o.ox +ℤ pos (k % o.size)) (o.oz +ℤ pos (k / o.size))

unfoldable pub column_biome : World → Frame → ℕ → ℕ
column_biome w o k = biome_number (biome_at w (o.ox +ℤ pos (k % o.size)) (o.oz +ℤ pos (k / o.size)))

-- the lists hold the heights and the biomes of the chunk's columns
pub record TopsNoted (w : World) (o : Frame) (hs bs : List ℕ) : Type 0 where
  pub heights : (k : ℕ) → k < o.size * o.size → get_or hs k 0 ≡ column_height w o k
  pub biomes : (k : ℕ) → k < o.size * o.size → get_or bs k 0 ≡ column_biome w o k
  pub long : o.size * o.size ≤ length hs
  pub longer : o.size * o.size ≤ length bs
