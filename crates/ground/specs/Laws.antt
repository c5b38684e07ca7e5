-- What holds of the ground of every chunk, by settings and place (SCOPE 4.6, 4.8). Assumes nothing.
use Rattle.std.specs.Prelude.{◌≡◌, ℕ, ◌-◌, ◌*◌, ◌<◌, ◌≤◌, true, length, ℤ, pos, ◌+ℤ◌, ◌*ℤ◌, int_le, slice_index}
use Rattle.std.proofs.Common.{sym, ◌∙◌, subst}
use Rattle.config.specs.Limits.{limit_refusal, config_header, fine}
use Rattle.config.specs.declared.TerrainConfig.{TerrainConfig}
use Rattle.config.specs.declared.ChunkPos.{ChunkPos}
use Rattle.grid.specs.Cube.{cell_index}
use Rattle.ground_cell.specs.World.{Tall, height_at}
use Rattle.ground_cell.specs.Base.{base_cells}
use Rattle.ground_cell.proofs.Laws.{base_length, base_ids, base_at, base_solid, height_least, height_most}
use Rattle.ground_cell.specs.declared.world.World.{World}
use Rattle.ground_cell.specs.declared.world.Frame.{Frame}
use Rattle.ground_trees.specs.Features.{boulders_of, top_of}
use Rattle.ground_trees.specs.Kept.{Grown, grown_boulders, grown_trees}
use Rattle.ground.specs.Ground.{ground_in, world_of, frame_of, ground}
use Rattle.ground.specs.Facts.{tall_of}

grown : (w : World) (o : Frame) → Grown (base_cells w o) (ground_in w o)
unfolding ground_in
grown w o =
    let b = grown_boulders o (top_of w o) (base_cells w o) in
    let t = grown_trees o w.sea_level (top_of w o) (boulders_of o (top_of w o) (base_cells w o)) in
    record { long = t.long ∙ b.long; ids = λ h. t.ids (b.ids h); full = λ i h. t.full i (b.full i h) }

-- size³ cells
pub ground_length : (s : TerrainConfig) (p : ChunkPos) → length (ground s p) ≡ s.chunk_size * s.chunk_size * s.chunk_size
unfolding ground frame_of
ground_length s p = (grown (world_of s) (frame_of s p)).long ∙ base_length (world_of s) (frame_of s p)

-- each an id
pub ground_ids : (s : TerrainConfig) (p : ChunkPos) (i : ℕ) → slice_index (ground s p) i < 65536
unfolding ground
ground_ids s p i = (grown (world_of s) (frame_of s p)).ids (base_ids (world_of s) (frame_of s p)) i

-- SCOPE 4.8: from level 0 down no cell is air
pub ground_solid : (s : TerrainConfig) (p : ChunkPos) → limit_refusal (config_header s p) ≡ 0 → (x y z : ℕ) → x < s.chunk_size → y < s.chunk_size
    → z < s.chunk_size → int_le (p.cy *ℤ pos s.chunk_size +ℤ pos y) (pos 0) ≡ true → 0 < slice_index (ground s p) (cell_index s.chunk_size x y z)
unfolding ground frame_of
ground_solid s p l x y z hx hy hz e =
    let w = world_of s in
    let o = frame_of s p in
    let t : Tall w = tall_of s p (fine s p l) in
    (grown w o).full (cell_index o.size x y z)
    (subst (λ (u : ℕ). 0 < u) (sym (base_at w o x y z hx hy hz)) (base_solid w t (o.ox +ℤ pos x) (o.oy +ℤ pos y) (o.oz +ℤ pos z) e))

-- SCOPE 4.6: a column's height is at least 1 and below the world's
pub record HeightRange (s : TerrainConfig) (p : ChunkPos) (wx wz : ℤ) : Type 0 where
  pub top : ℕ
  pub is : s.world_height_blocks ≡ pos top
  pub least : 1 ≤ height_at (world_of s) wx wz
  pub most : height_at (world_of s) wx wz ≤ top - 1

pub ground_heights : (s : TerrainConfig) (p : ChunkPos) → limit_refusal (config_header s p) ≡ 0 → (wx wz : ℤ) → HeightRange s p wx wz
unfolding tall_of
ground_heights s p l wx wz =
    let f = fine s p l in
    let t : Tall (world_of s) = tall_of s p f in
    record { top = f.height.n; is = f.height.is; least = height_least (world_of s) t wx wz; most = height_most (world_of s) t wx wz }
