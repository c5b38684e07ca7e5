-- The tops of a chunk's columns (SCOPE 4.6), row by row. Assumes nothing.
use Rattle.std.specs.Prelude.{◌≡◌, List, ℕ, ◌+◌, ◌≤◌, ◌<◌, pos, nat_abs, ◌+ℤ◌, length, set, Float}
use Rattle.column.specs.Floats.{◌+f◌, real}
use Rattle.column.specs.Column.{climate_of, relief_of}
use Rattle.column.specs.declared.Surface.{Surface}
use Rattle.noise_tables.specs.Row.{Row}
use Rattle.column_tables.specs.Coords.{Tabled}
use Rattle.column_read.specs.Read.{climate_in, relief_in}
use Rattle.column_read.specs.declared.Noise.{Noise}
use Rattle.ground_cell.specs.World.{biome_number, top_with}
use Rattle.ground_cell.specs.declared.world.World.{World}
use Rattle.ground_cell.specs.declared.world.Frame.{Frame}
use Rattle.ground_cell.specs.declared.world.Top.{Top}

-- a column's height and biome as the caches hold them
unfoldable pub surface_top : Surface → Top
surface_top s = top_with (nat_abs s.height) (biome_number s.biome)

-- SCOPE 4.1: the coordinates that `get_biome` gives to the noise, along x and along z
unfoldable pub x_at : World → Frame → ℕ → Float
x_at w o i = real (o.ox +ℤ pos i) +f w.seed_offset

unfoldable pub z_at : World → Frame → ℕ → Float
z_at w o i = real (o.oz +ℤ pos i) +f w.seed_offset

-- xs holds the columns' x, and the tables tell where they lie
pub record RowTabled (w : World) (o : Frame) (xs : List Float) (floors : List ℕ) (eases : List Float) : Type 0 where
  pub places : Row o.size (x_at w o) xs
  pub told : Tabled o.size xs floors eases
  pub long : 2304 ≤ length floors
  pub longer : 2304 ≤ length eases

-- rows that hold the noise of the columns at z
pub record RowNoise (w : World) (o : Frame) (z : ℕ) (k : Noise) : Type 0 where
  pub climates : (i : ℕ) → i < o.size → climate_in k.temp k.moisture i ≡ climate_of (x_at w o i) (z_at w o z)
  pub reliefs : (i : ℕ) → i < o.size
      → relief_in k.continent k.detail k.micro k.ridge1 k.ridge2 k.steps k.dune k.hill i ≡ relief_of (x_at w o i) (z_at w o z)

-- one column more of a row that begins at column m
unfoldable pub note_at : (ℕ → ℕ) → ℕ → ℕ → List ℕ → List ℕ
note_at f m i l = set l (m + i) (f (m + i))
