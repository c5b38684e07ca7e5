-- The ground of a chunk, and what `generate` does (SCOPE 4.15). Assumes nothing.
use Rattle.std.specs.Prelude.{◌≡◌, ℕ, ◌*◌, List, [], ◌∷◌, length, Result, ℤ, pos, ◌-ℤ◌, ◌*ℤ◌, ◌==◌, Float}
use Rattle.column.specs.Floats.{◌*f◌, nat, real}
use Rattle.config.specs.Refusals.{must, passed, refusal}
use Rattle.config.specs.Limits.{limit_refusal, config_header}
use Rattle.config.specs.Answers.{Answer, says, says_same, CellsOutcome, done}
use Rattle.config.specs.declared.refusals.Refusal.{Refusal}
use Rattle.config.specs.declared.TerrainConfig.{TerrainConfig}
use Rattle.config.specs.declared.ChunkPos.{ChunkPos}
use Rattle.grid.specs.Count.{non_air_count}
use Rattle.ground_cell.specs.declared.world.World.{World}
use Rattle.ground_cell.specs.declared.world.Frame.{Frame}
unfoldable pub use Rattle.ground_chunk.specs.Laid.{ground_in}

-- SCOPE 4.1: the seed moves the coordinates by 1,000 a step; 4.6: the greatest height is one below the world's
abbrev pub world_with : Float → ℤ → ℤ → World
world_with offset sea top = record { seed_offset = offset; sea_level = sea; max_height = top }

unfoldable pub world_of : TerrainConfig → World
world_of s = world_with (real (pos s.seed) *f nat 1000) s.sea_level (s.world_height_blocks -ℤ pos 1)

abbrev pub frame_with : ℤ → ℤ → ℤ → ℕ → Frame
frame_with x y z size = record { ox = x; oy = y; oz = z; size = size }

unfoldable pub frame_of : TerrainConfig → ChunkPos → Frame
frame_of s p = frame_with (p.cx *ℤ pos s.chunk_size) (p.cy *ℤ pos s.chunk_size) (p.cz *ℤ pos s.chunk_size) s.chunk_size

-- the ground of the chunk at a place: size³ ids
unfoldable pub ground : TerrainConfig → ChunkPos → List ℕ
ground s p = ground_in (world_of s) (frame_of s p)

-- 1 to 5 by the limits, then 6 by the number of cells; 0 is no refusal
unfoldable pub generate_refusal : TerrainConfig → ChunkPos → ℕ → ℕ
generate_refusal s p n = refusal (passed (limit_refusal (config_header s p)) ∷ must (n == s.chunk_size * s.chunk_size * s.chunk_size) 6 ∷ [])

-- the count
abbrev count_told : ℕ → List ℕ
count_told n = n ∷ []

abbrev pub says_generated : Result ℕ Refusal → Answer
says_generated = says count_told

-- the cells become the ground and the answer is their count; a refusal leaves them as they came
unfoldable pub generate_does : TerrainConfig → ChunkPos → List ℕ → CellsOutcome
generate_does s p c = done (generate_refusal s p (length c)) (non_air_count (ground s p) ∷ []) c (ground s p)

-- answers that say the same are the same
pub same_generated : (a b : Result ℕ Refusal) → says_generated a ≡ says_generated b → a ≡ b
same_generated = says_same count_told same_count
  where
    same_count : (m n : ℕ) → count_told m ≡ count_told n → m ≡ n
    same_count m n e = cc
