-- ANY SIZE, ONE GROUND, SCOPE 4.16: one statement about chunks of two sizes as the code leaves them. `AsMade` says what the code leaves, `Over`
-- what boulders and trees may lay over a cell. `Theorem` proves it. Assumes nothing.
use Rattle.std.specs.Prelude.{◌≡◌, List, ℕ, ◌+◌, ◌*◌, ◌≤◌, ◌<◌, ℤ, pos, ◌+ℤ◌, ◌*ℤ◌, get_or}
use Rattle.config.specs.declared.TerrainConfig.{TerrainConfig}
use Rattle.config.specs.declared.ChunkPos.{ChunkPos}
use Rattle.grid.specs.Cube.{cell_index}
use Rattle.ground_cell.specs.World.{base_cell}
use Rattle.ground.specs.Ground.{world_of}
use Rattle.ground_sizes.specs.Over.{Over}
use Rattle.ground_sizes.specs.AsMade.{NotedTops, LaidRows, Generates}

-- settings that differ in size only
pub record SizeOnly (s t : TerrainConfig) : Type 0 where
  pub seed : s.seed ≡ t.seed
  pub sea : s.sea_level ≡ t.sea_level
  pub height : s.world_height_blocks ≡ t.world_height_blocks

-- along an axis: the world's w is cell `at` of the chunk whose place is c (SCOPE 2.2)
pub record Along (size : ℕ) (c w : ℤ) : Type 0 where
  pub at : ℕ
  pub within : at < size
  pub is : c *ℤ pos size +ℤ pos at ≡ w

-- the world's cell (wx, wy, wz) lies in the chunk at p
pub record Lies (s : TerrainConfig) (p : ChunkPos) (wx wy wz : ℤ) : Type 0 where
  pub x : Along s.chunk_size p.cx wx
  pub y : Along s.chunk_size p.cy wy
  pub z : Along s.chunk_size p.cz wz

module _ {s : TerrainConfig} {p : ChunkPos} {wx wy wz : ℤ} (a : Lies s p wx wy wz) where
  -- its place in a list of the chunk's cells (SCOPE 5.1), and that of its column in a list of the columns
  abbrev pub cell_of : ℕ
  cell_of = cell_index s.chunk_size a.x.at a.y.at a.z.at

  abbrev pub column_of : ℕ
  column_of = a.z.at * s.chunk_size + a.x.at

  -- its row is one of those that were laid
  pub record RowCovered (c : LaidRows s p) : Type 0 where
    pub from : c.call.first ≤ a.z.at
    pub to : a.z.at < c.call.last

-- a cell of the world that lies in two chunks
module _ {s t : TerrainConfig} {p q : ChunkPos} {wx wy wz : ℤ} (a : Lies s p wx wy wz) (b : Lies t q wx wy wz) where
  -- lists of the chunks' cells have one id there, lists of their columns one number
  abbrev pub SameCell : List ℕ → List ℕ → Type 0
  SameCell c d = get_or c (cell_of a) 0 ≡ get_or d (cell_of b) 0

  abbrev pub SameColumn : List ℕ → List ℕ → Type 0
  SameColumn c d = get_or c (column_of a) 0 ≡ get_or d (column_of b) 0

  -- each list of cells has the world's id there, or what a boulder or a tree laid over that
  pub record OverSame (c d : List ℕ) : Type 0 where
    pub first : Over (base_cell (world_of s) wx wy wz) (get_or c (cell_of a) 0)
    pub second : Over (base_cell (world_of s) wx wy wz) (get_or d (cell_of b) 0)

  pub record OneGround : Type 1 where
    -- before boulders and trees, as `lay_base` leaves two chunks, whichever rows it laid
    pub id : (c : LaidRows s p) (d : LaidRows t q) → RowCovered a c → RowCovered b d → SameCell c.call.cells'.now d.call.cells'.now
    -- as `note_tops` leaves two chunks
    pub height : (c : NotedTops s p) (d : NotedTops t q) → SameColumn c.call.heights'.now d.call.heights'.now
    pub biome : (c : NotedTops s p) (d : NotedTops t q) → SameColumn c.call.biomes'.now d.call.biomes'.now
    -- after boulders and trees, as `generate` leaves two chunks
    pub after : (c : Generates s p) (d : Generates t q) → OverSame c.call.cells'.now d.call.cells'.now

-- so for all settings that differ in size only (accepted ones are a case), and every cell of the world that lies in a chunk of each
abbrev pub OneGroundTheorem : Type 1
OneGroundTheorem = (s t : TerrainConfig) → SizeOnly s t → (p q : ChunkPos) (wx wy wz : ℤ) (a : Lies s p wx wy wz) (b : Lies t q wx wy wz) → OneGround a b
