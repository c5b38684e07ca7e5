-- The theorem (SCOPE 4.16) speaks of something: by their contracts `note_tops` and `lay_base` leave every chunk with all its rows, and `generate` leaves
-- every chunk that it does not refuse. And the sea level must agree. Assumes nothing.
use Rattle.std.specs.Prelude.{◌≡◌, refl, cond, List, [], ◌++◌, ℕ, ◌*◌, ◌≤◌, ℤ, pos, length, drop}
use Rattle.std.proofs.Math.Path.{sym}
use native.Mathlib.Omega.{arith}
use Rattle.std.specs.Int.Signed.{lt_z}
use Rattle.config.specs.Answers.{not_refused}
use Rattle.config.specs.declared.TerrainConfig.{TerrainConfig}
use Rattle.config.specs.declared.ChunkPos.{ChunkPos}
use Rattle.grid.specs.Cube.{tab}
use Rattle.grid.specs.Count.{non_air_count}
use Rattle.grid.specs.Grid.{tab_at}
use Rattle.ground_cell.specs.Blocks.{AIR, WATER}
use Rattle.ground_cell.specs.World.{Tall, base_cell}
use Rattle.ground_cell.specs.Base.{base_numbered, base_cells, column_height, column_biome}
use Rattle.ground_cell.proofs.Laws.{base_length, base_above, height_most}
use Rattle.ground.specs.Ground.{world_of, frame_of, ground, generate_refusal, generate_does}
use Rattle.ground_sizes.specs.AsMade.{LentNumbers, LentFloats, ReadNumbers, ReadFloats, NotedTops, LaidRows, Generates}
use Rattle.ground_sizes.specs.Statement.{Lies, RowCovered}

-- a slice somewhere that holds these numbers, and one of f32 that holds none, to be written
abbrev holding : List ℕ → LentNumbers
holding ns = record { ref_ptr = (0, 0); ghost_name = 0; now = ns }

abbrev no_floats : LentFloats
no_floats = record { ref_ptr = (0, 0); ghost_name = 0; now = [] }

-- .. and to be read: they hold nothing
abbrev no_numbers : ReadNumbers
no_numbers = record { ref_ptr = (0, 0); now = [] }

abbrev none_read : ReadFloats
none_read = record { ref_ptr = (0, 0); now = [] }

module _ (s : TerrainConfig) (p : ChunkPos) where
  abbrev noted : (ℕ → ℕ) → LentNumbers
  noted f = let n = (frame_of s p).size * (frame_of s p).size in holding (tab n f ++ drop n [])

  pub all_noted : NotedTops s p
  all_noted = record {
    call = record {
      lifetimes = ([], ([], ([], ([], tt))));
      floors = holding [];
      eases = no_floats;
      heights = holding [];
      biomes = holding [];
      floors' = holding [];
      eases' = no_floats;
      heights' = noted (column_height (world_of s) (frame_of s p));
      biomes' = noted (column_biome (world_of s) (frame_of s p));
    };
    gives = (refl, refl);
  }

  -- all rows, over cells that hold the base already
  unfoldable pub all_laid : LaidRows s p
  unfolding base_cells
  all_laid = record {
    call = record {
      lifetimes = ([], ([], ([], ([], ([], tt)))));
      first = 0;
      last = (frame_of s p).size;
      heights = no_numbers;
      biomes = no_numbers;
      floors = no_numbers;
      eases = none_read;
      cells = holding (base_cells (world_of s) (frame_of s p));
      cells' = holding (base_cells (world_of s) (frame_of s p));
    };
    gives = record {
      all = base_length (world_of s) (frame_of s p);
      each = λ i a h. tab_at _ (base_numbered (world_of s) (frame_of s p)) i h;
      kept = λ i a. refl;
    };
  }

  pub all_covered : {wx wy wz : ℤ} (a : Lies s p wx wy wz) → RowCovered a all_laid
  unfolding all_laid frame_of
  all_covered a = record { from = omega arith; to = a.z.within }

  pub generated : (c : List ℕ) → generate_refusal s p (length c) ≡ 0 → Generates s p
  unfolding generate_does
  generated c e = record {
    call = record { lifetimes = ([], tt); cells = holding c; cells' = holding (ground s p) };
    count = non_air_count (ground s p);
    gives = sym (not_refused (generate_refusal s p (length c)) _ _ e);
  }

-- Settings with the least world height, where every column's height is 1: at level 1 the sea alone decides.
module _ (seed size : ℕ) (wx wz : ℤ) where
  abbrev lowest : ℕ → TerrainConfig
  lowest sea = record { seed = seed; sea_level = pos sea; world_height_blocks = pos 2; chunk_size = size }

  above_lowest : (sea : ℕ) → sea ≤ 2 → base_cell (world_of (lowest sea)) wx (pos 1) wz ≡ cond (lt_z (pos 1) (pos sea)) WATER AIR
  unfolding world_of
  above_lowest sea h =
      let w = world_of (lowest sea) in
      let tall : Tall w = record { top = 1; is = refl; least = omega arith; most = omega arith; sea = omega arith } in
      base_above w wx wz 1 (height_most w tall wx wz)

  pub sea_needed : (base_cell (world_of (lowest 2)) wx (pos 1) wz ≡ WATER) × (base_cell (world_of (lowest 1)) wx (pos 1) wz ≡ AIR)
  sea_needed = (above_lowest 2 (omega arith), above_lowest 1 (omega arith))
