-- The leaves of a tree (SCOPE 4.13), as steps on the list of cells in the order of `terrain.rs`. Assumes nothing.
use Rattle.std.specs.Prelude.{ℕ, ◌+◌, ◌-◌, ◌*◌, ◌/◌, ◌%◌, max, Bool, true, false, not, cond, List, ◌≡◌, ◌⊎◌, set, get_or, ltb, eqb, ℤ, pos, ◌+ℤ◌, ◌-ℤ◌, Float}
use Rattle.std.specs.Float.Ieee.{lt}
use Rattle.num_core.specs.Wrap.{add_w}
use Rattle.num_core.specs.Num.{nearest}
use Rattle.noise.specs.Hash.{hash2₃₂}
use Rattle.column.specs.Floats.{◌/f◌, nat}
use Rattle.grid.specs.Cube.{cell_index, inside, steps, tab}
use Rattle.ground_cell.specs.Blocks.{LEAVES}
use Rattle.ground_cell.specs.World.{local_y}

-- only where there is air (SCOPE 4.14)
unfoldable pub leaf_at : ℕ → ℕ → ℕ → ℕ → List ℕ → List ℕ
leaf_at size x y z c = cond (inside size x y z) (cond (eqb (get_or c (cell_index size x y z) 0) 0) (set c (cell_index size x y z) LEAVES) c) c

-- x + i - r, and size, which is outside, where that is negative
unfoldable pub offset_or : ℕ → ℕ → ℕ → ℕ → ℕ
offset_or size x i r = cond (ltb (x + i) r) size (x + i - r)

-- the square of i - r
unfoldable pub square_gap : ℕ → ℕ → ℕ
square_gap i r = (i - r + (r - i)) * (i - r + (r - i))

unfoldable pub leaf_hash : ℤ → ℤ → ℕ → ℕ → ℕ → ℕ → Float
leaf_hash wx wz r l i m = hash2₃₂ (add_w wx (pos i -ℤ pos r)) (add_w (add_w wz (pos m -ℤ pos r)) (pos l -ℤ pos 1))

-- whether layer l, of radius r, has a leaf at (i - r, m - r): on the rim, at r * r + 1, only where its hash is at most 0.6
unfoldable pub has_leaf : ℤ → ℤ → ℕ → ℕ → ℕ → ℕ → Bool
has_leaf wx wz r l i m =
    cond (ltb (square_gap i r + square_gap m r) (r * r + 1)) true
    (cond (eqb (square_gap i r + square_gap m r) (r * r + 1)) (not (lt (nearest 6 10) (leaf_hash wx wz r l i m))) false)

unfoldable pub leaf_step : ℕ → ℕ → ℕ → ℤ → ℤ → ℕ → ℕ → ℕ → ℕ → ℕ → List ℕ → List ℕ
leaf_step size x z wx wz y r l i m c = cond (has_leaf wx wz r l i m) (leaf_at size (offset_or size x i r) y (offset_or size z m r) c) c

unfoldable pub layer_step : ℕ → ℕ → ℕ → ℤ → ℤ → ℕ → ℕ → ℕ → ℕ → List ℕ → List ℕ
layer_step size x z wx wz y r l j c = leaf_step size x z wx wz y r l (j / (2 * r + 1)) (j % (2 * r + 1)) c

unfoldable pub layer_of : ℕ → ℕ → ℕ → ℤ → ℤ → ℕ → ℕ → ℕ → List ℕ → List ℕ
layer_of size x z wx wz y r l c = steps ((2 * r + 1) * (2 * r + 1)) (layer_step size x z wx wz y r l) c

-- a canopy, the crown of SCOPE 4.13: its widest radius, leaf_r, and its height above the top of the trunk, canopy_h
pub record Crown : Type 0 where
  pub radius : ℕ
  pub height : ℕ

abbrev pub crown_with : ℕ → ℕ → Crown
crown_with r n = record { radius = r; height = n }

-- the two of `place_tree`
abbrev pub normal_crown : Crown
normal_crown = crown_with 2 3

abbrev pub giant_crown : Crown
giant_crown = crown_with 4 4

-- a radius and a height of one of the two
abbrev pub Canopy : ℕ → ℕ → Type 0
Canopy r n = ((r ≡ normal_crown.radius) × (n ≡ normal_crown.height)) ⊎ ((r ≡ giant_crown.radius) × (n ≡ giant_crown.height))

-- the layers of a canopy of height n, dy = −1 to n − 1: layer l, counted from the bottom, is at dy = l − 1
abbrev pub layers_of : ℕ → ℕ
layers_of n = n + 1

-- the radius of layer l: t = (dy + 1) / (canopy_h + 1)
unfoldable pub leaf_radius : ℕ → ℕ → ℕ → ℕ
leaf_radius r n l = cond (lt (nat l /f nat (n + 1)) (nearest 3 10)) (r - 1) (cond (lt (nearest 85 100) (nat l /f nat (n + 1))) (max (r - 1) 1) r)

-- the radii of a crown's layers, from the bottom (SCOPE 12 g)
unfoldable pub radii : Crown → List ℕ
radii k = tab (layers_of k.height) (leaf_radius k.radius k.height)

-- the canopy around the top of the trunk, from one below it up
unfoldable pub canopy_step : ℕ → ℤ → ℕ → ℕ → ℤ → ℤ → ℤ → ℕ → ℕ → ℕ → List ℕ → List ℕ
canopy_step size oy x z wx wz top r n l c = layer_of size x z wx wz (local_y size oy (top +ℤ (pos l -ℤ pos 1))) (leaf_radius r n l) l c

unfoldable pub canopy_of : ℕ → ℤ → ℕ → ℕ → ℤ → ℤ → ℤ → ℕ → ℕ → List ℕ → List ℕ
canopy_of size oy x z wx wz top r n c = steps (layers_of n) (canopy_step size oy x z wx wz top r n) c
