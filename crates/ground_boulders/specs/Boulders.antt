-- Boulders (SCOPE 4.11), as steps on the list of cells in the order of `terrain.rs`. Assumes nothing.
use Rattle.std.specs.Prelude.{ℕ, ◌+◌, ◌*◌, ◌/◌, ◌%◌, Bool, ◌&&◌, cond, List, get_or, leb, ltb, eqb, ℤ, pos, ◌+ℤ◌, Float}
use Rattle.std.specs.Float.Ieee.{lt}
use Rattle.num_core.specs.Wrap.{mul_w, add_w}
use Rattle.num_core.specs.Num.{nearest, to_i32}
use Rattle.noise.specs.Hash.{hash2₃₂}
use Rattle.column.specs.Floats.{◌*f◌, nat}
use Rattle.grid.specs.Cube.{put_at, steps}
use Rattle.ground_cell.specs.Blocks.{STONE}
use Rattle.ground_cell.specs.World.{local_y, top_with}
use Rattle.ground_cell.specs.Base.{column_height, column_biome}
use Rattle.ground_cell.specs.declared.world.World.{World}
use Rattle.ground_cell.specs.declared.world.Frame.{Frame}
use Rattle.ground_cell.specs.declared.world.Top.{Top}
use Rattle.ground_boulders.specs.Signs.{range_length}

-- the columns at least m away from the chunk's rim
unfoldable pub inset_in : ℕ → ℕ → ℕ → ℕ → Bool
inset_in m size x z = leb m x && ltb (x + m) size && leb m z && ltb (z + m) size

-- n blocks v in column (x, z), from level y of the world up, those in the chunk (SCOPE 4.14)
unfoldable pub pillar_step : ℕ → ℤ → ℕ → ℕ → ℕ → ℕ → ℕ → List ℕ → List ℕ
pillar_step size oy x z y v j c = put_at size x (local_y size oy (pos (y + j))) z v c

unfoldable pub pillar_of : ℕ → ℤ → ℕ → ℕ → ℕ → ℕ → ℕ → List ℕ → List ℕ
pillar_of size oy x z y n v c = steps n (pillar_step size oy x z y v) c

unfoldable pub boulder_hash : ℤ → ℤ → Float
boulder_hash wx wz = hash2₃₂ (add_w (mul_w wx (pos 31)) (pos 555)) (add_w (mul_w wz (pos 37)) (pos 777))

-- 2 + (bh * 500.0) as i32
unfoldable pub boulder_height : Float → ℤ
boulder_height h = pos 2 +ℤ to_i32 (h *f nat 500)

-- how many blocks are laid at a hash: none where it exceeds 0.006 (SCOPE 12 h)
unfoldable pub boulder_blocks : Float → ℕ
boulder_blocks h = cond (lt (nearest 6 1000) h) 0 (range_length (boulder_height h))

-- on a mountain (biome 1), from the column's top up
unfoldable pub place_boulder : ℕ → ℤ → Top → ℕ → ℕ → Float → List ℕ → List ℕ
place_boulder size oy t x z h c = cond (eqb t.biome 1) (pillar_of size oy x z t.height (boulder_blocks h) STONE c) c

-- the columns on the chunk's rim have none
unfoldable pub boulder_column : Frame → Top → ℕ → ℕ → List ℕ → List ℕ
boulder_column o t x z c = cond (inset_in 1 o.size x z) (place_boulder o.size o.oy t x z (boulder_hash (o.ox +ℤ pos x) (o.oz +ℤ pos z)) c) c

-- the top of column k, of the world and as two lists hold it
abbrev pub top_of : World → Frame → ℕ → Top
top_of w o k = top_with (column_height w o k) (column_biome w o k)

abbrev pub top_in : List ℕ → List ℕ → ℕ → Top
top_in hs bs k = top_with (get_or hs k 0) (get_or bs k 0)

-- column after column, x varying fastest; column k has the top t k
unfoldable pub boulder_step : Frame → (ℕ → Top) → ℕ → List ℕ → List ℕ
boulder_step o t k c = boulder_column o (t k) (k % o.size) (k / o.size) c

unfoldable pub boulders_of : Frame → (ℕ → Top) → List ℕ → List ℕ
boulders_of o t c = steps (o.size * o.size) (boulder_step o t) c
