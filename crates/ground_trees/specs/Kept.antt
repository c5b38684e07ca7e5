-- What boulders and trees (SCOPE 4.11 to 4.14) keep of a list of cells: one induction for every such law. Assumes nothing.
use Rattle.std.specs.Prelude.{◌≡◌, refl, Bool, true, false, cond, List, ◌⊎◌, length, set, get_or, eqb, ℤ, ◌+ℤ◌, ◌-ℤ◌}
use Rattle.std.proofs.Common.{◌∙◌, arith, inl, inr, length-set}
use Prim.Native.Nat.{ℕ, zero, suc, ◌+◌, ◌-◌, ◌*◌, ◌/◌, ◌%◌, ◌<◌}
use Rattle.std.proofs.Math.IntN.{pos}
use Rattle.std.specs.Int.Signed.{lt_z}
use Rattle.basics.specs.Bools.{by_bool}
use Rattle.basics.specs.Lists.{set_either}
use Rattle.grid.specs.Cube.{cell_index, inside, put_at, see_at, steps}
use Rattle.ground_cell.specs.Blocks.{STONE, GRASS, LOG}
use Rattle.ground_cell.specs.World.{local_y}
use Rattle.ground_cell.specs.declared.world.Frame.{Frame}
use Rattle.ground_cell.specs.declared.world.Top.{Top}
use Rattle.ground_trees.specs.Signs.{range_length}
use Rattle.ground_trees.specs.Features.{inset_in, pillar_step, pillar_of, boulder_hash, boulder_blocks, place_boulder, boulder_column, boulder_step}
use Rattle.ground_trees.specs.Features.{boulders_of}
use Rattle.ground_trees.specs.Features.{leaf_at, offset_or, has_leaf, leaf_step, layer_step, layer_of, leaf_radius, layers_of, canopy_step, canopy_of, grow_of}
use Rattle.ground_trees.specs.Features.{trunk_height, crown_of, plant_of, tree_hash, variety_of, tree_grows, is_giant, place_tree, tree_column}
use Rattle.ground_trees.specs.Features.{tree_step, trees_of}

-- R is a relation between the cells before and after. What keeps it: block v, put on the top of the column (x, z) or above; a leaf, anywhere.
module _ (R : List ℕ → List ℕ → Type 0) where
  abbrev pub OnTop : Frame → Top → ℕ → ℕ → ℕ → Type 0
  OnTop o t x z v = (j : ℕ) (d : List ℕ) → R d (put_at o.size x (local_y o.size o.oy (pos (t.height + j))) z v d)

  abbrev pub OfLeaves : Frame → Type 0
  OfLeaves o = (x y z : ℕ) (d : List ℕ) → R d (leaf_at o.size x y z d)

-- such a relation: what held before holds after
abbrev pub Keeps : (List ℕ → Type 0) → List ℕ → List ℕ → Type 0
Keeps P c d = P c → P d

pub keeps_same : (P : List ℕ → Type 0) (c : List ℕ) → Keeps P c c
keeps_same P c p = p

pub keeps_more : (P : List ℕ → Type 0) (a b c : List ℕ) → Keeps P a b → Keeps P b c → Keeps P a c
keeps_more P a b c f g p = g (f p)

-- the column's top is high enough above the sea for a tree
abbrev pub Dry : ℤ → Top → Type 0
Dry sea t = lt_z (pos t.height -ℤ sea) (pos 3) ≡ false

module _ (R : List ℕ → List ℕ → Type 0) (same : (c : List ℕ) → R c c) (more : (a b c : List ℕ) → R a b → R b c → R a c) where
  if : (b : Bool) (c x : List ℕ) → R c x → R c (cond b x c)
  if true c x p = p
  if false c x p = same c

  pub steps_kept : (n : ℕ) (f : ℕ → List ℕ → List ℕ) (c : List ℕ) → ((k : ℕ) (d : List ℕ) → k < n → R d (f k d)) → R c (steps n f c)
  unfolding steps
  steps_kept zero f c h = same c
  steps_kept (suc n) f c h =
      more c (steps n f c) (f n (steps n f c)) (steps_kept n f c (λ k d l. h k d (omega arith))) (h n (steps n f c) (omega arith))

  -- one column
  module _ (o : Frame) (t : Top) (x z : ℕ) where
    pillar_kept : (n v : ℕ) (c : List ℕ) → OnTop R o t x z v → R c (pillar_of o.size o.oy x z t.height n v c)
    unfolding pillar_of pillar_step
    pillar_kept n v c put = steps_kept n (pillar_step o.size o.oy x z t.height v) c (λ j d l. put j d)

    pub boulder_kept : OnTop R o t x z STONE → (c : List ℕ) → R c (boulder_column o t x z c)
    unfolding boulder_column place_boulder
    boulder_kept put c =
        let n = boulder_blocks (boulder_hash (o.ox +ℤ pos x) (o.oz +ℤ pos z)) in
        if (inset_in 1 o.size x z) c _ (if (eqb t.biome 1) c _ (pillar_kept n STONE c put))

    module _ (leaf : OfLeaves R o) where
      layer_kept : (wx wz : ℤ) (y r l : ℕ) (c : List ℕ) → R c (layer_of o.size x z wx wz y r l c)
      unfolding layer_of layer_step leaf_step
      layer_kept wx wz y r l c =
          let n = 2 * r + 1 in
          steps_kept _ (layer_step o.size x z wx wz y r l) c
          (λ k d b. if (has_leaf wx wz r l (k / n) (k % n)) d _ (leaf (offset_or o.size x (k / n) r) y (offset_or o.size z (k % n) r) d))

      grow_kept : (wx wz trunk : ℤ) (r n : ℕ) (c : List ℕ) → OnTop R o t x z LOG → R c (grow_of o.size o.oy x z wx wz t.height trunk r n c)
      unfolding grow_of canopy_of canopy_step
      grow_kept wx wz trunk r n c put =
          let d = pillar_of o.size o.oy x z t.height (range_length trunk) LOG c in
          let top = pos t.height +ℤ trunk in
          more c d _ (pillar_kept (range_length trunk) LOG c put)
          (steps_kept (layers_of n) (canopy_step o.size o.oy x z wx wz top r n) d
          (λ l d b. layer_kept wx wz (local_y o.size o.oy (top +ℤ (pos l -ℤ pos 1))) (leaf_radius r n l) l d))

      pub tree_kept : (sea : ℤ) → (Dry sea t → OnTop R o t x z LOG) → (c : List ℕ) → R c (tree_column o sea t x z c)
      unfolding tree_column place_tree plant_of
      tree_kept sea put c =
          let wx = o.ox +ℤ pos x in
          let wz = o.oz +ℤ pos z in
          let v = variety_of wx wz in
          let big = is_giant t.biome v in
          if (inset_in 2 o.size x z) c _
          (by_bool (lt_z (pos t.height -ℤ sea) (pos 3))
          (λ e. rw e (same c))
          (λ e. rw e (if (tree_grows t.biome (tree_hash wx wz)) c _
          (if (eqb (see_at o.size x (local_y o.size o.oy (pos (t.height - 1))) z c) GRASS) c _
          (grow_kept wx wz (trunk_height big v) (crown_of big).radius (crown_of big).height c (put e))))))

  -- all columns
  module _ (o : Frame) (t : ℕ → Top) where
    pub boulders_kept : ((k : ℕ) → OnTop R o (t k) (k % o.size) (k / o.size) STONE) → (c : List ℕ) → R c (boulders_of o t c)
    unfolding boulders_of boulder_step
    boulders_kept put c = steps_kept (o.size * o.size) (boulder_step o t) c (λ k d l. boulder_kept o (t k) (k % o.size) (k / o.size) (put k) d)

    pub trees_kept : OfLeaves R o → (sea : ℤ) → ((k : ℕ) → Dry sea (t k) → OnTop R o (t k) (k % o.size) (k / o.size) LOG)
        → (c : List ℕ) → R c (trees_of o sea t c)
    unfolding trees_of tree_step
    trees_kept leaf sea put c =
        steps_kept (o.size * o.size) (tree_step o sea t) c (λ k d l. tree_kept o (t k) (k % o.size) (k / o.size) leaf sea (put k) d)

-- as long; ids stay ids; what is not air stays so
pub record Grown (c d : List ℕ) : Type 0 where
  pub long : length d ≡ length c
  pub ids : ((i : ℕ) → get_or c i 0 < 65536) → (i : ℕ) → get_or d i 0 < 65536
  pub full : (i : ℕ) → 0 < get_or c i 0 → 0 < get_or d i 0

grown_same : (c : List ℕ) → Grown c c
grown_same c = record { long = refl; ids = λ h. h; full = λ i h. h }

grown_more : (a b c : List ℕ) → Grown a b → Grown b c → Grown a c
grown_more a b c p q = record { long = q.long ∙ p.long; ids = λ h. q.ids (p.ids h); full = λ i h. q.full i (p.full i h) }

grown_set : (c : List ℕ) (j v : ℕ) → 0 < v → v < 65536 → Grown c (set c j v)
grown_set c j v p q = record { long = length-set c j v; ids = λ h i. id i (h i) (set_either 0 c j v i); full = λ i h. some i h (set_either 0 c j v i) }
  where
    id : (i : ℕ) → get_or c i 0 < 65536 → ((i ≡ j) × (get_or (set c j v) i 0 ≡ v)) ⊎ (get_or (set c j v) i 0 ≡ get_or c i 0) → get_or (set c j v) i 0 < 65536
    id i h (inl e) = rw e.1 q
    id i h (inr e) = rw e h

    some : (i : ℕ) → 0 < get_or c i 0 → ((i ≡ j) × (get_or (set c j v) i 0 ≡ v)) ⊎ (get_or (set c j v) i 0 ≡ get_or c i 0) → 0 < get_or (set c j v) i 0
    some i h (inl e) = rw e.1 p
    some i h (inr e) = rw e h

grown_put : (s x y z v : ℕ) (c : List ℕ) → 0 < v → v < 65536 → Grown c (put_at s x y z v c)
unfolding put_at
grown_put s x y z v c p q = by_bool (inside s x y z) (λ e. rw e (grown_set c (cell_index s x y z) v p q)) (λ e. rw e (grown_same c))

grown_leaf : (s x y z : ℕ) (c : List ℕ) → Grown c (leaf_at s x y z c)
unfolding leaf_at
grown_leaf s x y z c = by_bool (inside s x y z)
    (λ e. by_bool (eqb (get_or c (cell_index s x y z) 0) 0)
    (λ f. rw (e, f) (grown_set c (cell_index s x y z) 9 (omega arith) (omega arith)))
    (λ f. rw (e, f) (grown_same c)))
    (λ e. rw e (grown_same c))

pub grown_boulders : (o : Frame) (t : ℕ → Top) (c : List ℕ) → Grown c (boulders_of o t c)
grown_boulders o t c = boulders_kept Grown grown_same grown_more o t (λ k j d. grown_put o.size _ _ _ STONE d (omega arith) (omega arith)) c

pub grown_trees : (o : Frame) (sea : ℤ) (t : ℕ → Top) (c : List ℕ) → Grown c (trees_of o sea t c)
grown_trees o sea t c =
    trees_kept Grown grown_same grown_more o t (grown_leaf o.size) sea (λ k h j d. grown_put o.size _ _ _ LOG d (omega arith) (omega arith)) c
