-- Columns too far from some slabs to reach them; and what a slab's own columns and those near it do is all. Assumes nothing.
use Rattle.std.specs.Prelude.{◌≡◌, refl, ℕ, ◌+◌, ◌-◌, ◌*◌, ◌/◌, ◌%◌, ◌≤◌, ◌<◌, max, Bool, cond, List, ltb, ℤ, ◌+ℤ◌, ◌-ℤ◌, Float}
use Rattle.std.proofs.Common.{arith, mod-lt, ltb-false}
use Rattle.std.proofs.Math.Bool.{true, false}
use Rattle.std.proofs.Math.IntN.{pos}
use Rattle.std.specs.Float.Ieee.{lt}
use Rattle.num_core.specs.Num.{nearest}
use Rattle.column.specs.Floats.{◌/f◌, nat}
use Rattle.ground_cell.specs.World.{local_y}
use Rattle.ground_cell.specs.declared.world.Frame.{Frame}
use Rattle.ground_cell.specs.declared.world.Top.{Top}
use Rattle.std.specs.Int.Signed.{lt_z}
use Rattle.ground_trees.specs.Features.{inset_in, offset_or, leaf_radius, trunk_height, tree_hash, tree_grows}
use Rattle.grid_slabs.specs.Rows.{in_rows, rows_off, steps_idle}
use Rattle.ground_crown.specs.Slabs.{leaf_step_in, layer_step_in, layer_in, canopy_step_in, canopy_in}
use Rattle.ground_trees.specs.Slabs.{pillar_in, grow_in, plant_in, place_tree_in, tree_column_in, tree_step_in}
use Rattle.ground_slabs.specs.Far.{Away, before, behind}

away_off : (lo hi z : ℕ) → Away lo hi z → in_rows lo hi z ≡ false
away_off lo hi z (before h) = rows_off lo hi z (λ a b. omega arith)
away_off lo hi z (behind h) = rows_off lo hi z (λ a b. omega arith)

shift_off : (lo hi s z m r : ℕ) → hi ≤ s → r ≤ 4 → m < 2 * r + 1 → Away lo hi z → (b : Bool) → ltb (z + m) r ≡ b → in_rows lo hi (cond b s (z + m - r)) ≡ false
shift_off lo hi s z m r hs h k a true e = rows_off lo hi s (λ p q. omega arith)
shift_off lo hi s z m r hs h k (before f) false e = let g = ltb-false (z + m) r e in rows_off lo hi (z + m - r) (λ p q. omega arith)
shift_off lo hi s z m r hs h k (behind f) false e = let g = ltb-false (z + m) r e in rows_off lo hi (z + m - r) (λ p q. omega arith)

radius_most : (r n l : ℕ) → 1 ≤ r → r ≤ 4 → leaf_radius r n l ≤ 4
unfolding leaf_radius
radius_most r n l a h = one (lt (nat l /f nat (n + 1)) (nearest 3 10)) (lt (nearest 85 100) (nat l /f nat (n + 1)))
  where
    one : (b d : Bool) → cond b (r - 1) (cond d (max (r - 1) 1) r) ≤ 4
    one true d = omega arith
    one false true = omega arith
    one false false = h

module _ (lo hi s : ℕ) (hs : hi ≤ s) where
  layer_far : (x z : ℕ) (wx wz : ℤ) (y r l : ℕ) (c : List ℕ) → r ≤ 4 → Away lo hi z → layer_in lo hi s x z wx wz y r l c ≡ c
  unfolding layer_in layer_step_in leaf_step_in offset_or
  layer_far x z wx wz y r l c h a =
      steps_idle ((2 * r + 1) * (2 * r + 1)) (layer_step_in lo hi s x z wx wz y r l) c
      (λ j d k. rw (shift_off lo hi s z (j % (2 * r + 1)) r hs h (mod-lt j (omega arith)) a (ltb (z + j % (2 * r + 1)) r) refl))

  grow_far : (oy : ℤ) (x z : ℕ) (wx wz : ℤ) (y : ℕ) (trunk : ℤ) (r n : ℕ) (c : List ℕ) → 1 ≤ r → r ≤ 4 → Away lo hi z
      → grow_in lo hi s oy x z wx wz y trunk r n c ≡ c
  unfolding grow_in pillar_in canopy_in canopy_step_in
  grow_far oy x z wx wz y trunk r n c g h a =
      rw (away_off lo hi z a)
      (steps_idle (n + 1) (canopy_step_in lo hi s oy x z wx wz (pos y +ℤ trunk) r n) c
      (λ l d k. layer_far x z wx wz (local_y s oy (pos y +ℤ trunk +ℤ (pos l -ℤ pos 1))) (leaf_radius r n l) l d (radius_most r n l g h) a))

  plant_far : (oy : ℤ) (x z : ℕ) (wx wz : ℤ) (y : ℕ) (big : Bool) (v : Float) (c : List ℕ) → Away lo hi z → plant_in lo hi s oy x z wx wz y big v c ≡ c
  unfolding plant_in
  plant_far oy x z wx wz y true v c a = grow_far oy x z wx wz y (trunk_height true v) 4 4 c (omega arith) (omega arith) a
  plant_far oy x z wx wz y false v c a = grow_far oy x z wx wz y (trunk_height false v) 2 3 c (omega arith) (omega arith) a

pub tree_far : (lo hi : ℕ) (o : Frame) (sea : ℤ) (t : ℕ → Top) (k : ℕ) (c : List ℕ) → hi ≤ o.size → Away lo hi (k / o.size) → tree_step_in lo hi o sea t k c ≡ c
unfolding tree_step_in tree_column_in place_tree_in
tree_far lo hi o sea t k c h a =
    either (inset_in 2 o.size (k % o.size) (k / o.size)) _
    (other (lt_z (pos (t k).height -ℤ sea) (pos 3)) _
    (either (tree_grows (t k).biome (tree_hash (o.ox +ℤ pos (k % o.size)) (o.oz +ℤ pos (k / o.size)))) _
    (either (ltb (local_y o.size o.oy (pos ((t k).height - 1))) o.size) _
    (plant_far lo hi o.size h o.oy (k % o.size) (k / o.size) (o.ox +ℤ pos (k % o.size)) (o.oz +ℤ pos (k / o.size)) (t k).height _ _ c a))))
  where
    either : (b : Bool) (x : List ℕ) → x ≡ c → cond b x c ≡ c
    either true x p = p
    either false x p = refl

    other : (b : Bool) (x : List ℕ) → x ≡ c → cond b c x ≡ c
    other true x p = refl
    other false x p = p
