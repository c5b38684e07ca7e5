-- Boulders and trees in some slabs of a chunk. Assumes nothing.
use Rattle.std.specs.Prelude.{◌≡◌, ℕ, ◌+◌, ◌-◌, ◌*◌, ◌/◌, ◌%◌, Bool, cond, List, ltb, eqb, set, ℤ, ◌+ℤ◌, ◌-ℤ◌, Float}
use Rattle.std.proofs.Common.{ap, ◌∙◌}
use Rattle.std.proofs.Math.Bool.{true, false}
use Rattle.std.proofs.Math.ListN.{get_or}
use Rattle.std.proofs.Math.IntN.{pos}
use Rattle.std.specs.Int.Signed.{lt_z}
use Rattle.basics.specs.Bools.{by_bool}
use Rattle.grid.specs.Cube.{cell_index, inside, steps}
use Rattle.grid.specs.Grid.{index_lt, index_z, inside_true}
use Rattle.ground_cell.specs.World.{local_y}
use Rattle.ground_cell.specs.declared.world.Frame.{Frame}
use Rattle.ground_cell.specs.declared.world.Top.{Top}
use Rattle.ground_trees.specs.Signs.{range_length}
use Rattle.ground_trees.specs.Features.{inset_in, pillar_step, pillar_of, boulder_hash, boulder_blocks, place_boulder, boulder_column, boulder_step}
use Rattle.ground_trees.specs.Features.{leaf_at, offset_or, has_leaf, leaf_step, layer_step, layer_of, leaf_radius, canopy_step, canopy_of}
use Rattle.ground_trees.specs.Features.{grow_of, trunk_height, plant_of, tree_hash, variety_of, tree_grows, is_giant}
use Rattle.grid_slabs.specs.Clip.{Clip, put_clip, set_in, set_off, steps_clip, steps_off}
use Rattle.grid_slabs.specs.Rows.{in_rows}
use Rattle.ground_crown.specs.Slabs.{leaf_step_in, layer_step_in, layer_in, canopy_step_in, canopy_in}
use Rattle.ground_trees.specs.Slabs.{pillar_in, grow_in, plant_in, place_tree_in, tree_column_in, tree_step_in}
use Rattle.ground_slabs.specs.Grown.{stand_column, stand_step, boulder_step_in}

-- ---- as the chunk does

module _ (s lo hi : ℕ) (q : List ℕ) where
  -- a leaf, where there is air
  leaf_clip : (x y z : ℕ) (p c : List ℕ) → Clip s lo hi q p c → Clip s lo hi q (cond (in_rows lo hi z) (leaf_at s x y z p) p) (leaf_at s x y z c)
  unfolding leaf_at
  leaf_clip x y z p c k = by_bool (inside s x y z)
      (λ e. let w = inside_true s x y z e in
      let j = cell_index s x y z in
      let g : cell_index s x y z / s / s ≡ z = index_z s x y z w.x_in w.y_in in
      by_bool (in_rows lo hi z)
      (λ f. let g2 : get_or p (cell_index s x y z) 0 ≡ get_or c (cell_index s x y z) 0 = k.same (cell_index s x y z) (ap (in_rows lo hi) g ∙ f) in
      by_bool (eqb (get_or c (cell_index s x y z) 0) 0)
      (λ a. rw (e, f, g2, a) (set_in s lo hi q p c (cell_index s x y z) 9 (index_lt s x y z w.x_in w.y_in w.z_in) (ap (in_rows lo hi) g ∙ f) k))
      (λ a. rw (e, f, g2, a) k))
      (λ f. rw (e, f) (if_off (eqb (get_or c (cell_index s x y z) 0) 0) (cell_index s x y z) (ap (in_rows lo hi) g ∙ f))))
      (λ e. rw e (either (in_rows lo hi z)))
    where
      either : (b : Bool) → Clip s lo hi q (cond b p p) c
      either true = k
      either false = k

      if_off : (b : Bool) (j : ℕ) → in_rows lo hi (j / s / s) ≡ false → Clip s lo hi q p (cond b (set c j 9) c)
      if_off true j r = set_off s lo hi q p c j 9 r k
      if_off false j r = k

  pub pillar_clip : (oy : ℤ) (x z y n v : ℕ) (p c : List ℕ) → Clip s lo hi q p c
      → Clip s lo hi q (pillar_in lo hi s oy x z y n v p) (pillar_of s oy x z y n v c)
  unfolding pillar_in pillar_of pillar_step
  pillar_clip oy x z y n v p c k = by_bool (in_rows lo hi z)
      (λ e. rw e (steps_clip s lo hi q n _ _ p c (λ j a b h. rw e at (put_clip s lo hi q x (local_y s oy (pos (y + j))) z v a b h)) k))
      (λ e. rw e (steps_off s lo hi q n _ p c (λ j b h. rw e at (put_clip s lo hi q x (local_y s oy (pos (y + j))) z v p b h)) k))

  leaf_step_clip : (x z : ℕ) (wx wz : ℤ) (y r l i m : ℕ) (p c : List ℕ) → Clip s lo hi q p c
      → Clip s lo hi q (leaf_step_in lo hi s x z wx wz y r l i m p) (leaf_step s x z wx wz y r l i m c)
  unfolding leaf_step_in leaf_step
  leaf_step_clip x z wx wz y r l i m p c k = by_bool (has_leaf wx wz r l i m)
      (λ e. rw e (leaf_clip (offset_or s x i r) y (offset_or s z m r) p c k))
      (λ e. rw e (either (in_rows lo hi (offset_or s z m r))))
    where
      either : (b : Bool) → Clip s lo hi q (cond b p p) c
      either true = k
      either false = k

  layer_clip : (x z : ℕ) (wx wz : ℤ) (y r l : ℕ) (p c : List ℕ) → Clip s lo hi q p c
      → Clip s lo hi q (layer_in lo hi s x z wx wz y r l p) (layer_of s x z wx wz y r l c)
  unfolding layer_in layer_of layer_step_in layer_step
  layer_clip x z wx wz y r l p c k =
      steps_clip s lo hi q ((2 * r + 1) * (2 * r + 1)) _ _ p c (λ j a b h. leaf_step_clip x z wx wz y r l (j / (2 * r + 1)) (j % (2 * r + 1)) a b h) k

  grow_clip : (oy : ℤ) (x z : ℕ) (wx wz : ℤ) (y : ℕ) (trunk : ℤ) (r n : ℕ) (p c : List ℕ) → Clip s lo hi q p c
      → Clip s lo hi q (grow_in lo hi s oy x z wx wz y trunk r n p) (grow_of s oy x z wx wz y trunk r n c)
  unfolding grow_in grow_of canopy_in canopy_of canopy_step_in canopy_step
  grow_clip oy x z wx wz y trunk r n p c k =
      steps_clip s lo hi q (n + 1) _ _ (pillar_in lo hi s oy x z y (range_length trunk) 8 p) (pillar_of s oy x z y (range_length trunk) 8 c)
      (λ l a b h. layer_clip x z wx wz (local_y s oy (pos y +ℤ trunk +ℤ (pos l -ℤ pos 1))) (leaf_radius r n l) l a b h)
      (pillar_clip oy x z y (range_length trunk) 8 p c k)

  plant_clip : (oy : ℤ) (x z : ℕ) (wx wz : ℤ) (y : ℕ) (big : Bool) (v : Float) (p c : List ℕ) → Clip s lo hi q p c
      → Clip s lo hi q (plant_in lo hi s oy x z wx wz y big v p) (plant_of s oy x z wx wz y big v c)
  unfolding plant_in plant_of
  plant_clip oy x z wx wz y true v p c k = grow_clip oy x z wx wz y (trunk_height true v) 4 4 p c k
  plant_clip oy x z wx wz y false v p c k = grow_clip oy x z wx wz y (trunk_height false v) 2 3 p c k

module _ (lo hi : ℕ) (o : Frame) (q : List ℕ) where
  stand_clip : (sea : ℤ) (t : Top) (x z : ℕ) (p c : List ℕ) → Clip o.size lo hi q p c
      → Clip o.size lo hi q (tree_column_in lo hi o sea t x z p) (stand_column o sea t x z c)
  unfolding tree_column_in place_tree_in stand_column
  stand_clip sea t x z p c k =
      let wx = o.ox +ℤ pos x in
      let wz = o.oz +ℤ pos z in
      by_bool (inset_in 2 o.size x z)
      (λ a. by_bool (lt_z (pos t.height -ℤ sea) (pos 3))
      (λ b. rw (a, b) k)
      (λ b. by_bool (tree_grows t.biome (tree_hash wx wz))
      (λ d. by_bool (ltb (local_y o.size o.oy (pos (t.height - 1))) o.size)
      (λ e. rw (a, b, d, e)
      (plant_clip o.size lo hi q o.oy x z wx wz t.height (is_giant t.biome (variety_of wx wz)) (variety_of wx wz) p c k))
      (λ e. rw (a, b, d, e) k))
      (λ d. rw (a, b, d) k)))
      (λ a. rw a k)

  pub trees_clip : (sea : ℤ) (t : ℕ → Top) (n : ℕ) (p c : List ℕ) → Clip o.size lo hi q p c
      → Clip o.size lo hi q (steps n (tree_step_in lo hi o sea t) p) (steps n (stand_step o sea t) c)
  unfolding tree_step_in stand_step
  trees_clip sea t n p c k = steps_clip o.size lo hi q n _ _ p c (λ j a b h. stand_clip sea (t j) (j % o.size) (j / o.size) a b h) k

  -- a boulder stands in one slab
  boulder_clip : (t : Top) (x z : ℕ) (p c : List ℕ) → Clip o.size lo hi q p c
      → Clip o.size lo hi q (cond (in_rows lo hi z) (boulder_column o t x z p) p) (boulder_column o t x z c)
  unfolding boulder_column place_boulder
  boulder_clip t x z p c k = by_bool (inset_in 1 o.size x z)
      (λ a. by_bool (eqb t.biome 1)
      (λ b. let n = boulder_blocks (boulder_hash (o.ox +ℤ pos x) (o.oz +ℤ pos z)) in
      rw (a, b) (unfold pillar_in in pillar_clip o.size lo hi q o.oy x z t.height n 1 p c k))
      (λ b. rw (a, b) (either (in_rows lo hi z))))
      (λ a. rw a (either (in_rows lo hi z)))
    where
      either : (b : Bool) → Clip o.size lo hi q (cond b p p) c
      either true = k
      either false = k

  pub boulders_clip : (t : ℕ → Top) (n : ℕ) (p c : List ℕ) → Clip o.size lo hi q p c
      → Clip o.size lo hi q (steps n (boulder_step_in lo hi o t) p) (steps n (boulder_step o t) c)
  unfolding boulder_step_in boulder_step
  boulders_clip t n p c k = steps_clip o.size lo hi q n _ _ p c (λ j a b h. boulder_clip (t j) (j % o.size) (j / o.size) a b h) k
