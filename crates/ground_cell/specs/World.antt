-- The base of the ground (SCOPE 4.6 to 4.10) as a function of world coordinates: a chunk's size has no part in it. Assumes nothing.
use Rattle.std.specs.Prelude.{◌≡◌, ℕ, ◌≤◌, Bool, true, false, ◌&&◌, cond, eqb, ℤ, pos, negsuc, nat_abs, ◌-ℤ◌}
use Rattle.std.specs.Int.Signed.{le_z, lt_z, mag}
use Rattle.column.specs.Column.{biome_and_height}
use Rattle.column.specs.declared.Biome.{Biome}
use Rattle.column.specs.declared.Biome.TheVariants.{Desert, Mountain, Forest, Plains}
use Rattle.ground_cell.specs.Blocks.{AIR, WATER, select_block}
use Rattle.ground_cell.specs.Caves.{carved}
use Rattle.ground_cell.specs.declared.world.World.{World}
use Rattle.ground_cell.specs.declared.world.Frame.{Frame}
use Rattle.ground_cell.specs.declared.world.Top.{Top}

-- what laying asks of a world: a greatest height of 1 to 4,095, as the limits of the settings give it, and a sea level of at most
-- 1,000,000 either way, where they give 4,096
pub record Tall (w : World) : Type 0 where
  pub top : ℕ
  pub is : w.max_height ≡ pos top
  pub least : 1 ≤ top
  pub most : top ≤ 4095
  pub sea : mag w.sea_level ≤ 1000000

-- a chunk within the limits of SCOPE 2.2
pub record Near (o : Frame) : Type 0 where
  pub some : 1 ≤ o.size
  pub most : o.size ≤ 64
  pub x : mag o.ox ≤ 1000000
  pub y : mag o.oy ≤ 1000000
  pub z : mag o.oz ≤ 1000000

-- the height and the biome of the column at (wx, wz)
unfoldable pub height_at : World → ℤ → ℤ → ℕ
height_at w wx wz = nat_abs (biome_and_height wx wz w.sea_level w.max_height w.seed_offset).height

unfoldable pub biome_at : World → ℤ → ℤ → Biome
biome_at w wx wz = (biome_and_height wx wz w.sea_level w.max_height w.seed_offset).biome

-- a biome as the number that the Rust gives it
abbrev pub biome_number : Biome → ℕ
biome_number Desert = 0
biome_number Mountain = 1
biome_number Forest = 2
biome_number Plains = 3

unfoldable pub biome_numbered : ℕ → Biome
biome_numbered n = cond (eqb n 0) Desert (cond (eqb n 1) Mountain (cond (eqb n 2) Forest Plains))

abbrev pub top_with : ℕ → ℕ → Top
top_with h b = record { height = h; biome = b }

unfoldable pub top_at : World → ℤ → ℤ → Top
top_at w wx wz = top_with (height_at w wx wz) (biome_number (biome_at w wx wz))

-- SCOPE 4.8; level says whether the level admits a cave, hollow whether one is there
unfoldable pub ground_cell : Bool → Bool → Biome → ℤ → ℤ → ℤ → ℕ
ground_cell level hollow b wy h sea = cond (level && hollow) AIR (select_block b wy h sea)

-- SCOPE 4.7 where the flag is true, which says that the level is not below the height; else 4.8
unfoldable pub column_cell : Bool → Bool → Biome → ℤ → ℤ → ℤ → ℕ
column_cell true hollow b wy h sea = cond (lt_z wy sea) WATER AIR
column_cell false hollow b wy h sea = ground_cell (lt_z (pos 0) wy && lt_z wy (h -ℤ pos 1)) hollow b wy h sea

-- a cell of a column with this top
unfoldable pub cell_with : Top → ℤ → ℤ → Bool → ℕ
cell_with t sea wy hollow = column_cell (le_z (pos t.height) wy) hollow (biome_numbered t.biome) wy (pos t.height) sea

unfoldable pub cell_under : Top → ℤ → ℤ → ℤ → ℤ → ℕ
cell_under t sea wx wy wz = cell_with t sea wy (carved wx wy wz (pos t.height))

-- the cell at a place of the world, before boulders and trees
unfoldable pub base_cell : World → ℤ → ℤ → ℤ → ℕ
base_cell w wx wy wz = cell_under (top_at w wx wz) w.sea_level wx wy wz

-- where level y lies in a chunk that begins at o: what is below is size, and so outside, as what is above
abbrev pub local_or : ℕ → ℤ → ℕ
local_or size (pos n) = n
local_or size (negsuc n) = size

unfoldable pub local_y : ℕ → ℤ → ℤ → ℕ
local_y size o y = local_or size (y -ℤ o)
