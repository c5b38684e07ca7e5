-- Boulders and trees (SCOPE 4.11 to 4.14), as steps on the list of cells in the order of `terrain.rs`. Assumes nothing.
use Rattle.std.specs.Prelude.{ℕ, ◌-◌, ◌*◌, ◌/◌, ◌%◌, Bool, true, false, not, ◌&&◌, cond, List, eqb, ℤ, pos, ◌+ℤ◌, ◌-ℤ◌, Float}
use Rattle.std.specs.Int.Signed.{lt_z}
use Rattle.std.specs.Float.Ieee.{lt}
use Rattle.num_core.specs.Wrap.{mul_w, add_w}
use Rattle.num_core.specs.Num.{nearest, to_i32}
use Rattle.noise.specs.Hash.{hash2₃₂}
use Rattle.column.specs.Floats.{◌*f◌, nat}
use Rattle.grid.specs.Cube.{see_at, steps}
use Rattle.ground_cell.specs.Blocks.{GRASS, LOG}
use Rattle.ground_cell.specs.World.{local_y}
use Rattle.ground_cell.specs.declared.world.Frame.{Frame}
use Rattle.ground_cell.specs.declared.world.Top.{Top}
use Rattle.ground_boulders.specs.Signs.{range_length}
unfoldable pub use Rattle.ground_boulders.specs.Boulders.{inset_in, pillar_step, pillar_of, boulder_hash, boulder_height, boulder_blocks}
unfoldable pub use Rattle.ground_boulders.specs.Boulders.{place_boulder, boulder_column, boulder_step, boulders_of}
pub use Rattle.ground_boulders.specs.Boulders.{top_of, top_in}
unfoldable pub use Rattle.ground_crown.specs.Crown.{leaf_at, offset_or, square_gap, leaf_hash, has_leaf, leaf_step, layer_step, layer_of}
unfoldable pub use Rattle.ground_crown.specs.Crown.{leaf_radius, radii, canopy_step, canopy_of}
pub use Rattle.ground_crown.specs.Crown.{Crown, normal_crown, giant_crown, Canopy, layers_of}

-- a trunk from level y up, then the canopy
unfoldable pub grow_of : ℕ → ℤ → ℕ → ℕ → ℤ → ℤ → ℕ → ℤ → ℕ → ℕ → List ℕ → List ℕ
grow_of size oy x z wx wz y trunk r n c = canopy_of size oy x z wx wz (pos y +ℤ trunk) r n (pillar_of size oy x z y (range_length trunk) LOG c)

-- 8 + (variety * 40.0) as i32 for a giant, else 4 + (variety * 3.0) as i32
unfoldable pub trunk_height : Bool → Float → ℤ
trunk_height true v = pos 8 +ℤ to_i32 (v *f nat 40)
trunk_height false v = pos 4 +ℤ to_i32 (v *f nat 3)

-- the crown of a giant, and of any other tree
abbrev pub crown_of : Bool → Crown
crown_of true = giant_crown
crown_of false = normal_crown

unfoldable pub plant_of : ℕ → ℤ → ℕ → ℕ → ℤ → ℤ → ℕ → Bool → Float → List ℕ → List ℕ
plant_of size oy x z wx wz y big v c = grow_of size oy x z wx wz y (trunk_height big v) (crown_of big).radius (crown_of big).height c

unfoldable pub tree_hash : ℤ → ℤ → Float
tree_hash wx wz = hash2₃₂ (add_w (mul_w wx (pos 7)) (pos 1337)) (add_w (mul_w wz (pos 13)) (pos 7331))

unfoldable pub variety_of : ℤ → ℤ → Float
variety_of wx wz = hash2₃₂ (add_w wx (pos 42)) (add_w wz (pos 99))

-- by the biome's number: 2 is forest, 3 plains
unfoldable pub tree_grows : ℕ → Float → Bool
tree_grows b h = cond (eqb b 2) (not (lt (nearest 25 1000) h)) (cond (eqb b 3) (not (lt (nearest 3 1000) h)) false)

unfoldable pub is_giant : ℕ → Float → Bool
is_giant b v = eqb b 2 && lt v (nearest 8 100)

-- SCOPE 4.12: where the column is more than 2 above the sea, its hash low enough and its surface, in this chunk, grass
unfoldable pub place_tree : ℕ → ℤ → ℤ → Top → ℕ → ℕ → ℤ → ℤ → List ℕ → List ℕ
place_tree size oy sea t x z wx wz c =
    cond (lt_z (pos t.height -ℤ sea) (pos 3)) c
    (cond (tree_grows t.biome (tree_hash wx wz))
    (cond (eqb (see_at size x (local_y size oy (pos (t.height - 1))) z c) GRASS)
    (plant_of size oy x z wx wz t.height (is_giant t.biome (variety_of wx wz)) (variety_of wx wz) c) c) c)

-- columns at least 2 away from the chunk's rim; up to size 4 there is none
unfoldable pub tree_column : Frame → ℤ → Top → ℕ → ℕ → List ℕ → List ℕ
tree_column o sea t x z c = cond (inset_in 2 o.size x z) (place_tree o.size o.oy sea t x z (o.ox +ℤ pos x) (o.oz +ℤ pos z) c) c

unfoldable pub tree_step : Frame → ℤ → (ℕ → Top) → ℕ → List ℕ → List ℕ
tree_step o sea t k c = tree_column o sea (t k) (k % o.size) (k / o.size) c

unfoldable pub trees_of : Frame → ℤ → (ℕ → Top) → List ℕ → List ℕ
trees_of o sea t c = steps (o.size * o.size) (tree_step o sea t) c
