-- The proof of SCOPE 4.16: what either chunk has at the cell is what the world has there, and the settings make one world. Assumes nothing.
use Rattle.std.specs.Prelude.{◌≡◌, ℕ, zero, suc, ◌*◌, ◌/◌, ◌%◌, ◌≤◌, ◌<◌, ℤ, pos, ◌-ℤ◌, length}
use Rattle.std.proofs.Math.Path.{sym, ap}
use Rattle.std.proofs.Common.{◌∙◌, subst, arith, mul-le-mul_right}
use mathlib.Core.List.{List, [], ◌∷◌}
use Rattle.std.proofs.Math.Arith.{digits_lt, digits_div, digits_mod}
use Rattle.std.proofs.Math.ListN.{get_or}
use Rattle.config.specs.Answers.{accepted, never_both, CellsOutcome, cells_outcome, done}
use Rattle.config.specs.declared.TerrainConfig.{TerrainConfig}
use Rattle.config.specs.declared.ChunkPos.{ChunkPos}
use Rattle.column.specs.Floats.{◌*f◌, nat, real}
use Rattle.grid.specs.Count.{non_air_count}
use Rattle.grid.specs.Grid.{digits, index_lt, tab_at, fill_at}
use Rattle.ground_cell.specs.World.{height_at, biome_at, biome_number, base_cell}
use Rattle.ground_cell.specs.Base.{base_numbered, base_cells, column_height, column_biome}
use Rattle.ground_cell.proofs.Laws.{base_at}
use Rattle.ground_cell.specs.declared.world.World.{World}
use Rattle.ground_cell.specs.declared.world.Frame.{Frame}
use Rattle.ground.specs.Ground.{world_with, world_of, frame_of, ground, generate_refusal, generate_does}
use Rattle.ground_sizes.specs.Over.{Over}
use Rattle.ground_sizes.proofs.Over.{ground_over}
use Rattle.ground_sizes.specs.AsMade.{NotedTops, LaidRows, Generates}
use Rattle.ground_sizes.specs.Statement.{SizeOnly, Lies, cell_of, column_of, RowCovered, SameCell, OneGround, OneGroundTheorem}

-- settings that differ in size only make one world
pub one_world : (s t : TerrainConfig) → SizeOnly s t → world_of s ≡ world_of t
unfolding world_of
one_world s t e = λ i. world_with (real (pos (e.seed i)) *f nat 1000) (e.sea i) (e.height i -ℤ pos 1)

-- where `generate` answers a count, it left the ground
generated_is : (s : TerrainConfig) (p : ChunkPos) (c : Generates s p) → c.call.cells'.now ≡ ground s p
unfolding generate_does
generated_is s p c = go (generate_refusal s p (length c.call.cells.now)) c.gives
  where
    go : (n : ℕ)
        → cells_outcome (accepted (c.count ∷ [])) c.call.cells'.now
        ≡ done n (non_air_count (ground s p) ∷ []) c.call.cells.now (ground s p)
        → c.call.cells'.now ≡ ground s p
    go zero e = ap (λ (r : CellsOutcome). r.cells) e
    go (suc n) e = absurd (never_both (c.count ∷ []) (suc n) 0 (ap (λ (r : CellsOutcome). r.answer) e))

-- in one chunk
module _ {s : TerrainConfig} {p : ChunkPos} {wx wy wz : ℤ} (a : Lies s p wx wy wz) where
  abbrev size : ℕ
  size = s.chunk_size

  abbrev w : World
  w = world_of s

  abbrev o : Frame
  o = frame_of s p

  column_x : column_of a % size ≡ a.x.at
  column_x = digits_mod a.z.at a.x.within

  column_z : column_of a / size ≡ a.z.at
  column_z = digits_div a.z.at a.x.within

  column_in_lem : column_of a < size * size
  column_in_lem = digits_lt a.z.within a.x.within

  -- by the definitions the chunk's column and cell are the world's
  height_is : column_height w o (column_of a) ≡ height_at w wx wz
  unfolding column_height frame_of
  height_is = rw (column_x, column_z) (λ i. height_at w (a.x.is i) (a.z.is i))

  biome_is : column_biome w o (column_of a) ≡ biome_number (biome_at w wx wz)
  unfolding column_biome frame_of
  biome_is = rw (column_x, column_z) (λ i. biome_number (biome_at w (a.x.is i) (a.z.is i)))

  id_is : get_or (base_cells w o) (cell_of a) 0 ≡ base_cell w wx wy wz
  unfolding frame_of
  id_is =
      base_at w o a.x.at a.y.at a.z.at a.x.within a.y.within a.z.within
      ∙ (λ i. base_cell w (a.x.is i) (a.y.is i) (a.z.is i))

  -- and by the contracts the code left what the definitions say
  height_left : (c : NotedTops s p) → get_or c.call.heights'.now (column_of a) 0 ≡ height_at w wx wz
  unfolding frame_of
  height_left c =
      ap (λ (d : List ℕ). get_or d (column_of a) 0) c.gives.0
      ∙ fill_at c.call.heights.now (size * size) (column_of a) (column_height w o) column_in_lem
      ∙ height_is

  biome_left : (c : NotedTops s p) → get_or c.call.biomes'.now (column_of a) 0 ≡ biome_number (biome_at w wx wz)
  unfolding frame_of
  biome_left c =
      ap (λ (d : List ℕ). get_or d (column_of a) 0) c.gives.1
      ∙ fill_at c.call.biomes.now (size * size) (column_of a) (column_biome w o) column_in_lem
      ∙ biome_is

  -- the cells of row z lie between those of the rows before and behind
  module _ (c : LaidRows s p) (r : RowCovered a c) where
    cell_from : c.call.first * size * size ≤ cell_of a
    cell_from =
        let n : c.call.first * size ≤ a.z.at * size = mul-le-mul_right size r.from in
        let m = mul-le-mul_right {m = c.call.first * size} {n = a.z.at * size} size n in
        omega arith

    cell_to : cell_of a < c.call.last * size * size
    cell_to = rw (digits size a.x.at a.y.at a.z.at) (digits_lt (digits_lt r.to a.y.within) a.x.within)

    id_left : get_or c.call.cells'.now (cell_of a) 0 ≡ base_cell w wx wy wz
    unfolding base_cells frame_of
    id_left =
        c.gives.each (cell_of a) cell_from cell_to
        ∙ sym (tab_at (size * size * size) (base_numbered w o) (cell_of a) (index_lt size _ _ _ a.x.within a.y.within a.z.within))
        ∙ id_is

  -- every cell of the ground is over the world's
  ground_left : (c : Generates s p) → Over (base_cell w wx wy wz) (get_or c.call.cells'.now (cell_of a) 0)
  unfolding ground
  ground_left c = rw (generated_is s p c) (subst (λ (v : ℕ). Over v (get_or (ground s p) (cell_of a) 0)) id_is (ground_over w o (cell_of a)))

-- in two
module _ {s t : TerrainConfig} (e : SizeOnly s t) {p q : ChunkPos} {wx wy wz : ℤ} (a : Lies s p wx wy wz) (b : Lies t q wx wy wz) where
  -- what each has of the world they have alike
  alike : (f : World → ℕ) {m n : ℕ} → m ≡ f (world_of s) → n ≡ f (world_of t) → m ≡ n
  alike f u v = u ∙ ap f (one_world s t e) ∙ sym v

  abbrev id : World → ℕ
  id w = base_cell w wx wy wz

  abbrev height : World → ℕ
  height w = height_at w wx wz

  abbrev biome : World → ℕ
  biome w = biome_number (biome_at w wx wz)

  -- SCOPE 4.16 of the definitions
  pub record DefinedSame : Type 0 where
    pub ids : SameCell a b (base_cells (world_of s) (frame_of s p)) (base_cells (world_of t) (frame_of t q))
    pub heights : column_height (world_of s) (frame_of s p) (column_of a) ≡ column_height (world_of t) (frame_of t q) (column_of b)
    pub biomes : column_biome (world_of s) (frame_of s p) (column_of a) ≡ column_biome (world_of t) (frame_of t q) (column_of b)

  pub defined_same : DefinedSame
  defined_same = record {
    ids = alike id (id_is a) (id_is b);
    heights = alike height (height_is a) (height_is b);
    biomes = alike biome (biome_is a) (biome_is b);
  }

  -- and of what the code leaves
  left_same : OneGround a b
  left_same = record {
    id = λ c d m n. alike id (id_left a c m) (id_left b d n);
    height = λ c d. alike height (height_left a c) (height_left b d);
    biome = λ c d. alike biome (biome_left a c) (biome_left b d);
    after = λ c d. record { first = ground_left a c; second = rw (one_world s t e) (ground_left b d) };
  }

pub one_ground : OneGroundTheorem
one_ground s t e p q wx wy wz a b = left_same e a b
