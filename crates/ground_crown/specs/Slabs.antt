-- The leaves of a tree in the slabs lo ≤ z < hi of a chunk alone; the ground's own definition is in `Crown`. Assumes nothing.
use Rattle.std.specs.Prelude.{ℕ, ◌+◌, ◌*◌, ◌/◌, ◌%◌, cond, List, ℤ, pos, ◌+ℤ◌, ◌-ℤ◌}
use Rattle.grid.specs.Cube.{steps}
use Rattle.grid_slabs.specs.Rows.{in_rows}
use Rattle.ground_cell.specs.World.{local_y}
use Rattle.ground_crown.specs.Crown.{offset_or, leaf_step, leaf_radius, layers_of}

-- a leaf, where its z is one of them
unfoldable pub leaf_step_in : ℕ → ℕ → ℕ → ℕ → ℕ → ℤ → ℤ → ℕ → ℕ → ℕ → ℕ → ℕ → List ℕ → List ℕ
leaf_step_in lo hi size x z wx wz y r l i m c = cond (in_rows lo hi (offset_or size z m r)) (leaf_step size x z wx wz y r l i m c) c

-- leaf j of a layer
unfoldable pub layer_step_in : ℕ → ℕ → ℕ → ℕ → ℕ → ℤ → ℤ → ℕ → ℕ → ℕ → ℕ → List ℕ → List ℕ
layer_step_in lo hi size x z wx wz y r l j c = leaf_step_in lo hi size x z wx wz y r l (j / (2 * r + 1)) (j % (2 * r + 1)) c

-- a layer
unfoldable pub layer_in : ℕ → ℕ → ℕ → ℕ → ℕ → ℤ → ℤ → ℕ → ℕ → ℕ → List ℕ → List ℕ
layer_in lo hi size x z wx wz y r l c = steps ((2 * r + 1) * (2 * r + 1)) (layer_step_in lo hi size x z wx wz y r l) c

-- layer l of a canopy
unfoldable pub canopy_step_in : ℕ → ℕ → ℕ → ℤ → ℕ → ℕ → ℤ → ℤ → ℤ → ℕ → ℕ → ℕ → List ℕ → List ℕ
canopy_step_in lo hi size oy x z wx wz top r n l c = layer_in lo hi size x z wx wz (local_y size oy (top +ℤ (pos l -ℤ pos 1))) (leaf_radius r n l) l c

-- the canopy around the top of the trunk
unfoldable pub canopy_in : ℕ → ℕ → ℕ → ℤ → ℕ → ℕ → ℤ → ℤ → ℤ → ℕ → ℕ → List ℕ → List ℕ
canopy_in lo hi size oy x z wx wz top r n c = steps (layers_of n) (canopy_step_in lo hi size oy x z wx wz top r n) c
