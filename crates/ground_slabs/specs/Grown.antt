-- Boulders and trees in some slabs of a chunk. Assumes nothing.
use Rattle.std.specs.Prelude.{ℕ, ◌-◌, ◌/◌, ◌%◌, cond, List, ltb, ℤ, ◌+ℤ◌, ◌-ℤ◌}
use Rattle.std.proofs.Math.IntN.{pos}
use Rattle.std.specs.Int.Signed.{lt_z}
use Rattle.ground_cell.specs.World.{local_y}
use Rattle.ground_cell.specs.declared.world.Frame.{Frame}
use Rattle.ground_cell.specs.declared.world.Top.{Top}
use Rattle.ground_trees.specs.Features.{inset_in, boulder_step}
use Rattle.ground_trees.specs.Features.{plant_of, tree_hash, variety_of, tree_grows, is_giant}
use Rattle.grid_slabs.specs.Rows.{in_rows}

-- the tree of a column, where by the column's top one stands
unfoldable pub stand_column : Frame → ℤ → Top → ℕ → ℕ → List ℕ → List ℕ
stand_column o sea t x z c =
    cond (inset_in 2 o.size x z)
    (cond (lt_z (pos t.height -ℤ sea) (pos 3)) c
    (cond (tree_grows t.biome (tree_hash (o.ox +ℤ pos x) (o.oz +ℤ pos z)))
    (cond (ltb (local_y o.size o.oy (pos (t.height - 1))) o.size)
    (plant_of o.size o.oy x z (o.ox +ℤ pos x) (o.oz +ℤ pos z) t.height
    (is_giant t.biome (variety_of (o.ox +ℤ pos x) (o.oz +ℤ pos z)))
    (variety_of (o.ox +ℤ pos x) (o.oz +ℤ pos z)) c) c) c)) c

unfoldable pub stand_step : Frame → ℤ → (ℕ → Top) → ℕ → List ℕ → List ℕ
stand_step o sea t k c = stand_column o sea (t k) (k % o.size) (k / o.size) c

unfoldable pub boulder_step_in : ℕ → ℕ → Frame → (ℕ → Top) → ℕ → List ℕ → List ℕ
boulder_step_in lo hi o t k c = cond (in_rows lo hi (k / o.size)) (boulder_step o t k c) c
