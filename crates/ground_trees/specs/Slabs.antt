-- Trees in the slabs lo ≤ z < hi of a chunk alone; the ground's own definition is in `Features`. Assumes nothing.
use Rattle.std.specs.Prelude.{ℕ, ◌-◌, ◌/◌, ◌%◌, Bool, cond, List, ltb, ℤ, pos, ◌+ℤ◌, ◌-ℤ◌, Float}
use Rattle.std.specs.Int.Signed.{lt_z}
use Rattle.grid_slabs.specs.Rows.{in_rows}
use Rattle.ground_cell.specs.Blocks.{LOG}
use Rattle.ground_cell.specs.World.{local_y}
use Rattle.ground_cell.specs.declared.world.Frame.{Frame}
use Rattle.ground_cell.specs.declared.world.Top.{Top}
use Rattle.ground_crown.specs.Slabs.{canopy_in}
use Rattle.ground_trees.specs.Signs.{range_length}
use Rattle.ground_trees.specs.Features.{inset_in, pillar_of, trunk_height, crown_of, tree_hash, variety_of, tree_grows, is_giant}

-- a trunk stands in one slab
unfoldable pub pillar_in : ℕ → ℕ → ℕ → ℤ → ℕ → ℕ → ℕ → ℕ → ℕ → List ℕ → List ℕ
pillar_in lo hi size oy x z y n v c = cond (in_rows lo hi z) (pillar_of size oy x z y n v c) c

-- a trunk, then the canopy
unfoldable pub grow_in : ℕ → ℕ → ℕ → ℤ → ℕ → ℕ → ℤ → ℤ → ℕ → ℤ → ℕ → ℕ → List ℕ → List ℕ
grow_in lo hi size oy x z wx wz y trunk r n c =
    canopy_in lo hi size oy x z wx wz (pos y +ℤ trunk) r n (pillar_in lo hi size oy x z y (range_length trunk) LOG c)

-- a giant or a normal tree
unfoldable pub plant_in : ℕ → ℕ → ℕ → ℤ → ℕ → ℕ → ℤ → ℤ → ℕ → Bool → Float → List ℕ → List ℕ
plant_in lo hi size oy x z wx wz y big v c = grow_in lo hi size oy x z wx wz y (trunk_height big v) (crown_of big).radius (crown_of big).height c

-- by the column's top alone: its surface, where it is in this chunk, is grass
unfoldable pub place_tree_in : ℕ → ℕ → ℕ → ℤ → ℤ → Top → ℕ → ℕ → ℤ → ℤ → List ℕ → List ℕ
place_tree_in lo hi size oy sea t x z wx wz c =
    cond (lt_z (pos t.height -ℤ sea) (pos 3)) c
    (cond (tree_grows t.biome (tree_hash wx wz))
    (cond (ltb (local_y size oy (pos (t.height - 1))) size)
    (plant_in lo hi size oy x z wx wz t.height (is_giant t.biome (variety_of wx wz)) (variety_of wx wz) c) c) c)

-- columns at least 2 away from the rim
unfoldable pub tree_column_in : ℕ → ℕ → Frame → ℤ → Top → ℕ → ℕ → List ℕ → List ℕ
tree_column_in lo hi o sea t x z c = cond (inset_in 2 o.size x z) (place_tree_in lo hi o.size o.oy sea t x z (o.ox +ℤ pos x) (o.oz +ℤ pos z) c) c

-- column k
unfoldable pub tree_step_in : ℕ → ℕ → Frame → ℤ → (ℕ → Top) → ℕ → List ℕ → List ℕ
tree_step_in lo hi o sea t k c = tree_column_in lo hi o sea (t k) (k % o.size) (k / o.size) c
