-- The ground of a chunk of size 2 that lies above the world's top and below the sea is water (SCOPE 4.7). No noise is worked out:
-- the range of heights decides. Assumes nothing.
use Rattle.std.specs.Prelude.{◌≡◌, refl, true, List, [], ◌∷◌, ℕ, ◌≤◌, ℤ, pos}
use Rattle.std.proofs.Common.{◌∙◌, arith}
use Rattle.std.specs.Int.Signed.{lt_z}
use Rattle.grid.specs.Cube.{tab, steps}
use Rattle.ground_cell.specs.World.{Tall, base_cell}
use Rattle.ground_cell.specs.Base.{base_numbered, base_cells}
use Rattle.ground_cell.proofs.Laws.{height_most, base_above}
use Rattle.ground_cell.specs.declared.world.World.{World}
use Rattle.ground_cell.specs.declared.world.Top.{Top}
use Rattle.ground_trees.specs.Features.{inset_in, boulder_column, boulder_step, boulders_of, tree_column, tree_step, trees_of, top_of}
use Rattle.config.specs.declared.TerrainConfig.{TerrainConfig}
use Rattle.config.specs.declared.ChunkPos.{ChunkPos}
use Rattle.ground.specs.Ground.{ground_in, world_of, frame_of, frame_with, ground}

-- a cell no lower than the greatest height, and below the sea
pub sky_water : (w : World) (t : Tall w) (wx wz : ℤ) (n : ℕ) → t.top ≤ n → lt_z (pos n) w.sea_level ≡ true → base_cell w wx (pos n) wz ≡ 5
sky_water w t wx wz n h s = let m = height_most w t wx wz in base_above w wx wz n (omega arith) ∙ rw s

abbrev pub eight_waters : List ℕ
eight_waters = 5 ∷ 5 ∷ 5 ∷ 5 ∷ 5 ∷ 5 ∷ 5 ∷ 5 ∷ []

-- no column of a chunk of size 2 has a boulder or a tree
bare : (x y z : ℤ) (top : ℕ → Top) (sea : ℤ) (c : List ℕ) → trees_of (frame_with x y z 2) sea top (boulders_of (frame_with x y z 2) top c) ≡ c
unfolding trees_of boulders_of steps tree_step boulder_step tree_column boulder_column inset_in
bare x y z top sea c = refl

-- the settings and the place of the listing: `G|0|4096|256|2|0|128|0`
abbrev pub listing_config : TerrainConfig
listing_config = record { seed = 0; sea_level = pos 4096; world_height_blocks = pos 256; chunk_size = 2 }

abbrev pub listing_place : ChunkPos
listing_place = record { cx = pos 0; cy = pos 128; cz = pos 0 }

-- the chunk begins at y = 256, and no column is higher than 255 (SCOPE 4.6)
tall : Tall (world_of listing_config)
unfolding world_of
tall = record { top = 255; is = refl; least = omega arith; most = omega arith; sea = omega arith }

at : (wx wz : ℤ) (n : ℕ) → 255 ≤ n → lt_z (pos n) (pos 4096) ≡ true → base_cell (world_of listing_config) wx (pos n) wz ≡ 5
unfolding world_of tall
at wx wz n h s = sky_water (world_of listing_config) tall wx wz n h s

base : base_cells (world_of listing_config) (frame_of listing_config listing_place) ≡ eight_waters
unfolding base_cells tab base_numbered frame_of
base =
    λ i. at (pos 0) (pos 0) 256 (omega arith) refl i
    ∷ at (pos 1) (pos 0) 256 (omega arith) refl i
    ∷ at (pos 0) (pos 0) 257 (omega arith) refl i
    ∷ at (pos 1) (pos 0) 257 (omega arith) refl i
    ∷ at (pos 0) (pos 1) 256 (omega arith) refl i
    ∷ at (pos 1) (pos 1) 256 (omega arith) refl i
    ∷ at (pos 0) (pos 1) 257 (omega arith) refl i
    ∷ at (pos 1) (pos 1) 257 (omega arith) refl i
    ∷ []

pub listing_ground : ground listing_config listing_place ≡ eight_waters
unfolding ground ground_in frame_of
listing_ground =
    bare (pos 0) (pos 256) (pos 0) (top_of (world_of listing_config) (frame_of listing_config listing_place)) (world_of listing_config).sea_level
    (base_cells (world_of listing_config) (frame_of listing_config listing_place))
    ∙ base
