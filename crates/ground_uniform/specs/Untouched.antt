-- Boulders and trees whose levels lie outside a chunk change nothing in it (SCOPE 4.14). Assumes nothing.
use Rattle.std.specs.Prelude.{◌≡◌, refl, ℕ, ◌+◌, ◌-◌, ◌*◌, ◌/◌, ◌%◌, ◌≤◌, ◌<◌, Bool, true, false, cond, List, eqb, ℤ, pos, ◌+ℤ◌, ◌-ℤ◌}
use Rattle.std.proofs.Common.{arith}
use Rattle.std.specs.Int.Signed.{lt_z}
use Rattle.ground_cell.specs.World.{local_y}
use Rattle.ground_cell.specs.declared.world.Frame.{Frame}
use Rattle.ground_cell.specs.declared.world.Top.{Top}
use Rattle.ground_trees.specs.Signs.{hash2_plus}
use Rattle.ground_trees.specs.Features.{inset_in, pillar_step, pillar_of, boulder_hash, boulder_blocks, place_boulder, boulder_column, boulder_step}
use Rattle.ground_trees.specs.Features.{boulders_of}
use Rattle.ground_trees.specs.Features.{tree_hash, tree_grows, place_tree, tree_column, tree_step, trees_of}
use Rattle.ground_uniform.specs.Reach.{boulder_most}
use Rattle.grid.specs.Grid.{put_out, see_out}
use Rattle.grid_slabs.specs.Rows.{steps_idle}

either : (b : Bool) (c x : List ℕ) → x ≡ c → cond b x c ≡ c
either true c x p = p
either false c x p = refl

pillar_out : (s : ℕ) (oy : ℤ) (x z y n v : ℕ) (c : List ℕ) → ((j : ℕ) → j < n → s ≤ local_y s oy (pos (y + j))) → pillar_of s oy x z y n v c ≡ c
unfolding pillar_of pillar_step
pillar_out s oy x z y n v c h = steps_idle n (pillar_step s oy x z y v) c (λ k d l. put_out s x (local_y s oy (pos (y + k))) z v d (h k l))

-- a boulder is at most 5 high
boulder_out : (s : ℕ) (oy : ℤ) (t : Top) (x z : ℕ) (wx wz : ℤ) (c : List ℕ) → ((j : ℕ) → j < 5 → s ≤ local_y s oy (pos (t.height + j)))
    → place_boulder s oy t x z (boulder_hash wx wz) c ≡ c
unfolding place_boulder boulder_hash
boulder_out s oy t x z wx wz c h =
    let m = boulder_most (boulder_hash wx wz) (hash2_plus _ _) in
    either (eqb t.biome 1) c _ (pillar_out s oy x z t.height (boulder_blocks (boulder_hash wx wz)) 1 c (λ j l. h j (omega arith)))

pub boulders_out : (o : Frame) (t : ℕ → Top) (c : List ℕ) → ((k j : ℕ) → j < 5 → o.size ≤ local_y o.size o.oy (pos ((t k).height + j)))
    → boulders_of o t c ≡ c
unfolding boulders_of boulder_step boulder_column
boulders_out o t c h =
    steps_idle (o.size * o.size) (boulder_step o t) c
    (λ k d l. either (inset_in 1 o.size (k % o.size) (k / o.size)) d _
    (boulder_out o.size o.oy (t k) (k % o.size) (k / o.size) (o.ox +ℤ pos (k % o.size)) (o.oz +ℤ pos (k / o.size)) d (h k)))

-- a tree needs its surface cell in this chunk
tree_out : (s : ℕ) (oy sea : ℤ) (t : Top) (x z : ℕ) (wx wz : ℤ) (c : List ℕ) → s ≤ local_y s oy (pos (t.height - 1)) → place_tree s oy sea t x z wx wz c ≡ c
unfolding place_tree
tree_out s oy sea t x z wx wz c h =
    rw (see_out s x (local_y s oy (pos (t.height - 1))) z c h)
    (other (lt_z (pos t.height -ℤ sea) (pos 3)) (tree_grows t.biome (tree_hash wx wz)))
  where
    other : (a b : Bool) → cond a c (cond b c c) ≡ c
    other true b = refl
    other false true = refl
    other false false = refl

pub trees_out : (o : Frame) (sea : ℤ) (t : ℕ → Top) (c : List ℕ) → ((k : ℕ) → o.size ≤ local_y o.size o.oy (pos ((t k).height - 1)))
    → trees_of o sea t c ≡ c
unfolding trees_of tree_step tree_column
trees_out o sea t c h =
    steps_idle (o.size * o.size) (tree_step o sea t) c
    (λ k d l. either (inset_in 2 o.size (k % o.size) (k / o.size)) d _
    (tree_out o.size o.oy sea (t k) (k % o.size) (k / o.size) (o.ox +ℤ pos (k % o.size)) (o.oz +ℤ pos (k / o.size)) d (h k)))
