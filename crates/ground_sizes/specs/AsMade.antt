-- Calls as they were made: `note_tops` notes the columns of a chunk, `lay_base` lays its rows before boulders and trees, `generate` lays the chunk
-- (SCOPE 4.6 to 4.10, 4.15). What a caller learns of each is read off its contract. A change of a contract makes this module fail. Assumes nothing.
use Rattle.std.specs.Prelude.{◌≡◌, refl, List, ◌++◌, ℕ, ◌*◌, Float, drop, Result, Ok}
use Rattle.std.specs.Borrow.{Bor, MutBor}
use contract.Lifetimes.{Lfts}
use Rattle.config.specs.Answers.{cells_outcome}
use Rattle.config.specs.declared.refusals.Refusal.{Refusal}
use Rattle.config.specs.declared.TerrainConfig.{TerrainConfig}
use Rattle.config.specs.declared.ChunkPos.{ChunkPos}
use Rattle.column_tops.proofs.note_tops.Reads as tops_reads
use Rattle.grid.specs.Cube.{tab}
use Rattle.ground_cell.specs.Base.{column_height, column_biome}
use Rattle.ground_lines.specs.Lines.{LaidLines}
use Rattle.ground_base.proofs.lay_base.Reads as base_reads
use Rattle.ground.specs.Ground.{world_of, frame_of, says_generated, generate_does}
use Rattle.ground.proofs.generate.Reads as generate_reads

-- a slice of whole numbers, and of f32, that is lent to be written; `now` is what it holds
abbrev pub LentNumbers : Type 0
LentNumbers = MutBor (List ℕ)

abbrev pub LentFloats : Type 0
LentFloats = MutBor (List Float)

-- .. and that is lent to be read
abbrev pub ReadNumbers : Type 0
ReadNumbers = Bor (List ℕ)

abbrev pub ReadFloats : Type 0
ReadFloats = Bor (List Float)

-- what `note_tops` was given, and what it left (')
pub record TopsCall : Type 1 where
  pub lifetimes : Lfts 4
  pub floors : LentNumbers
  pub eases : LentFloats
  pub heights : LentNumbers
  pub biomes : LentNumbers
  pub floors' : LentNumbers
  pub eases' : LentFloats
  pub heights' : LentNumbers
  pub biomes' : LentNumbers

-- what `lay_base` was given, and what it left: it lays the rows from `first` on below `last`
pub record BaseCall : Type 1 where
  pub lifetimes : Lfts 5
  pub first : ℕ
  pub last : ℕ
  pub heights : ReadNumbers
  pub biomes : ReadNumbers
  pub floors : ReadNumbers
  pub eases : ReadFloats
  pub cells : LentNumbers
  pub cells' : LentNumbers

-- what `generate` was given, and what it left
pub record GenerateCall : Type 1 where
  pub lifetimes : Lfts 1
  pub cells : LentNumbers
  pub cells' : LentNumbers

-- for the chunk at p with the settings s: what a caller learns of such a call, read off its contract ..
module _ (s : TerrainConfig) (p : ChunkPos) where
  abbrev pub TopsGive : TopsCall → Type 0
  TopsGive k =
      tops_reads.Learnt k.lifetimes
      (world_of s, (frame_of s p, (k.floors, (k.eases, (k.heights, (k.biomes, tt))))))
      tt
      (world_of s, (frame_of s p, (k.floors', (k.eases', (k.heights', (k.biomes', tt))))))

  abbrev pub BaseGives : BaseCall → Type 0
  BaseGives k =
      base_reads.Learnt k.lifetimes
      (world_of s, (frame_of s p, (k.first, (k.last, (k.heights, (k.biomes, (k.floors, (k.eases, (k.cells, tt)))))))))
      tt
      (world_of s, (frame_of s p, (k.first, (k.last, (k.heights, (k.biomes, (k.floors, (k.eases, (k.cells', tt)))))))))

  abbrev pub GenerateGives : GenerateCall → Result ℕ Refusal → Type 0
  GenerateGives k answer = generate_reads.Learnt k.lifetimes (s, (p, (k.cells, tt))) answer (s, (p, (k.cells', tt)))

  -- .. is its definition, by computation
  abbrev columns : ℕ
  columns = (frame_of s p).size * (frame_of s p).size

  pub tops_say : (k : TopsCall)
      → TopsGive k
      ≡ ((k.heights'.now ≡ tab columns (column_height (world_of s) (frame_of s p)) ++ drop columns k.heights.now)
      × (k.biomes'.now ≡ tab columns (column_biome (world_of s) (frame_of s p)) ++ drop columns k.biomes.now))
  tops_say k = refl

  pub base_says : (k : BaseCall)
      → BaseGives k
      ≡ LaidLines (world_of s) (frame_of s p) (k.first * (frame_of s p).size) (k.last * (frame_of s p).size) k.cells.now k.cells'.now
  base_says k = refl

  pub generate_says : (k : GenerateCall) (answer : Result ℕ Refusal)
      → GenerateGives k answer ≡ (cells_outcome (says_generated answer) k.cells'.now ≡ generate_does s p k.cells.now)
  generate_says k answer = refl

  -- such calls as they were made; `generate` refused nothing, and answered a count
  pub record NotedTops : Type 1 where
    pub call : TopsCall
    pub gives : TopsGive call

  pub record LaidRows : Type 1 where
    pub call : BaseCall
    pub gives : BaseGives call

  pub record Generates : Type 1 where
    pub call : GenerateCall
    pub count : ℕ
    pub gives : GenerateGives call (Ok count)
