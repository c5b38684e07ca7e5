-- Where a tree is drawn is decided by its column's top alone: the surface of such a column is grass, and stays so. Assumes nothing.
use Rattle.std.specs.Prelude.{◌≡◌, Bool, ◌&&◌, List, ltb, eqb, ℤ, ◌+ℤ◌, ◌-ℤ◌, Float}
use Rattle.std.proofs.Math.Path.{refl, ap, subst}
use Rattle.std.proofs.Common.{sym, ◌∙◌, mod-lt, div-add-mod', get_or-set_other}
use Prim.Native.Nat.{ℕ, zero, suc, ◌+◌, ◌-◌, ◌*◌, ◌/◌, ◌%◌, ◌≤◌, ◌<◌}
use native.Mathlib.Omega.{arith}
use Rattle.std.proofs.Math.Bool.{true, false, cond}
use Rattle.std.proofs.lemmas.Bool.{false≢true}
use Rattle.std.proofs.Math.ListN.{get_or}
use Rattle.std.proofs.Math.IntN.{pos}
use Rattle.std.specs.Int.Signed.{lt_z}
use borrow.Author.Tests.{ltb-true, ltb-false, eqb-true, eqb-false, le-ltb, lt-ltb, lt-leb}
use Rattle.basics.specs.Bools.{by_bool}
use Rattle.column.specs.declared.Biome.{Biome}
use Rattle.column.specs.declared.Biome.TheVariants.{Desert, Mountain, Forest, Plains}
use Rattle.grid.specs.Cube.{cell_index, inside, put_at, see_at, steps}
use Rattle.grid.specs.Grid.{index_x, index_z, below_2}
use Rattle.grid.specs.Grid.{inside_true, see_inside, see_out}
use Rattle.ground_cell.specs.Blocks.{STONE, LOG, select_block, forest_block, plains_block, shore_block}
use Rattle.ground_cell.specs.World.{Tall, Near, height_at, biome_at, biome_number, biome_numbered, top_at}
use Rattle.ground_cell.specs.World.{ground_cell, column_cell, cell_with, cell_under, base_cell, local_y}
use Rattle.ground_cell.specs.Base.{column_height, column_biome, base_cells}
use Rattle.ground_cell.proofs.Laws.{base_at, height_least, level_back}
use Rattle.ground_cell.specs.declared.world.World.{World}
use Rattle.ground_cell.specs.declared.world.Frame.{Frame}
use Rattle.ground_cell.specs.declared.world.Top.{Top}
use Rattle.ground_trees.specs.Features.{inset_in, place_boulder, boulder_column, boulder_step, boulders_of, leaf_at}
use Rattle.ground_trees.specs.Features.{tree_hash, tree_grows, place_tree, tree_column, tree_step, trees_of, top_of}
use Rattle.ground_trees.specs.Kept.{OnTop, Keeps, keeps_same, keeps_more, steps_kept, boulder_kept, tree_kept}
use Rattle.ground_slabs.specs.Grown.{stand_column, stand_step}

-- ---- a cell of grass that others do not touch

module _ (s x0 y0 z0 : ℕ) (hx : x0 < s) (hy : y0 < s) where
  -- the cell holds grass
  abbrev Grass : List ℕ → Type 0
  Grass c = get_or c (cell_index s x0 y0 z0) 0 ≡ 3

  -- a block in another column
  put_grass : (x y z v : ℕ) (c : List ℕ) → (x ≡ x0 → z ≡ z0 → ⊥) → Grass c → Grass (put_at s x y z v c)
  unfolding put_at
  put_grass x y z v c n g = by_bool (inside s x y z)
      (λ e. let w = inside_true s x y z e in
      rw e (get_or-set_other c (cell_index s x y z) (cell_index s x0 y0 z0) v 0
      (λ q. n
      (sym (index_x s x y z w.x_in) ∙ ap (λ (i : ℕ). i % s) (sym q) ∙ index_x s x0 y0 z0 hx)
      (sym (index_z s x y z w.x_in w.y_in) ∙ ap (λ (i : ℕ). i / s / s) (sym q) ∙ index_z s x0 y0 z0 hx hy))
      ∙ g))
      (λ e. rw e g)

  -- a leaf fills air alone, so never this cell
  leaf_grass : (x y z : ℕ) (c : List ℕ) → Grass c → Grass (leaf_at s x y z c)
  unfolding leaf_at
  leaf_grass x y z c g = by_bool (inside s x y z)
      (λ e. by_bool (eqb (get_or c (cell_index s x y z) 0) 0)
      (λ a. rw (e, a) (get_or-set_other c (cell_index s x y z) (cell_index s x0 y0 z0) 9 0
      (λ q. let u : get_or c (cell_index s x y z) 0 ≡ 3 = ap (λ (i : ℕ). get_or c i 0) (sym q) ∙ g in
      let v = eqb-true (get_or c (cell_index s x y z) 0) 0 a in
      omega arith) ∙ g))
      (λ a. rw (e, a) g))
      (λ e. rw e g)

  steps_grass : (n : ℕ) (f : ℕ → List ℕ → List ℕ) (c : List ℕ) → ((k : ℕ) (d : List ℕ) → k < n → Keeps Grass d (f k d)) → Keeps Grass c (steps n f c)
  steps_grass = steps_kept (Keeps Grass) (keeps_same Grass) (keeps_more Grass)

module _ (o : Frame) (x0 y0 z0 : ℕ) (hx : x0 < o.size) (hy : y0 < o.size) (t : Top) (x z : ℕ) (other : x ≡ x0 → z ≡ z0 → ⊥) where
  abbrev Here : List ℕ → Type 0
  Here = Grass o.size x0 y0 z0 hx hy

  -- boulders and trees of another column keep it
  put_other : (v : ℕ) → OnTop (Keeps Here) o t x z v
  put_other v j c = put_grass o.size x0 y0 z0 hx hy x (local_y o.size o.oy (pos (t.height + j))) z v c other

  boulder_grass : (c : List ℕ) → Keeps Here c (boulder_column o t x z c)
  boulder_grass = boulder_kept (Keeps Here) (keeps_same Here) (keeps_more Here) o t x z (put_other STONE)

  tree_grass : (sea : ℤ) (c : List ℕ) → Keeps Here c (tree_column o sea t x z c)
  tree_grass sea = tree_kept (Keeps Here) (keeps_same Here) (keeps_more Here) o t x z (leaf_grass o.size x0 y0 z0 hx hy) sea (λ h. put_other LOG)

-- ---- the surface of a column that may have a tree

-- forest or plains
record Green (b : Biome) : Type 0 where
  top : (wy h sea : ℤ) → lt_z (h -ℤ wy) (pos 2) ≡ true → lt_z (h -ℤ sea) (pos 3) ≡ false → select_block (biome_numbered (biome_number b)) wy h sea ≡ 3
  stony : eqb (biome_number b) 1 ≡ false

green : (b : Biome) (h : Float) → tree_grows (biome_number b) h ≡ true → Green b
unfolding tree_grows biome_numbered select_block forest_block plains_block shore_block
green Desert h e = absurd (false≢true e)
green Mountain h e = absurd (false≢true e)
green Forest h e = record { top = λ wy k sea a b. rw (a, b); stony = refl }
green Plains h e = record { top = λ wy k sea a b. rw (a, b); stony = refl }

one_above : (n : ℕ) → lt_z (pos (suc n) -ℤ pos n) (pos 2) ≡ true
one_above zero = refl
one_above (suc n) = rw (le-ltb (suc (suc n)) (suc n) (omega arith)) (lt-ltb (suc (suc n) - suc n) 2 (omega arith))

less_one : (n : ℕ) → pos (suc n) -ℤ pos 1 ≡ pos n
less_one n = rw (le-ltb (suc n) 1 (omega arith)) (ap pos (let q : suc n - 1 ≡ n = omega arith in q))

and_false : (a : Bool) → (a && false) ≡ false
and_false true = refl
and_false false = refl

surface_of_lem : (w : World) (wx wz : ℤ) (n : ℕ) → height_at w wx wz ≡ suc n → Green (biome_at w wx wz)
    → lt_z (pos (suc n) -ℤ w.sea_level) (pos 3) ≡ false → base_cell w wx (pos n) wz ≡ 3
unfolding base_cell cell_under cell_with top_at column_cell ground_cell
surface_of_lem w wx wz n e g l =
    rw (e, lt-leb (suc n) n (omega arith), less_one n, le-ltb n n (omega arith), and_false (ltb 0 n))
    (g.top (pos n) (pos (suc n)) w.sea_level (one_above n) l)

-- ---- the trees

-- the surface cell of column k
abbrev surface_of : World → Frame → ℕ → ℕ
surface_of w o k = local_y o.size o.oy (pos ((top_of w o k).height - 1))

module _ (w : World) (o : Frame) (tall : Tall w) (near : Near o) where
  -- a tree may stand on column k
  record May (k : ℕ) : Type 0 where
    column : k < o.size * o.size
    dry : lt_z (pos (top_of w o k).height -ℤ w.sea_level) (pos 3) ≡ false
    grows : tree_grows (top_of w o k).biome (tree_hash (o.ox +ℤ pos (k % o.size)) (o.oz +ℤ pos (k / o.size))) ≡ true
    here : surface_of w o k < o.size

  x_in : (k : ℕ) → k % o.size < o.size
  x_in k = mod-lt k near.some

  abbrev GrassAt : (k : ℕ) → May k → List ℕ → Type 0
  GrassAt k m c = Grass o.size (k % o.size) (surface_of w o k) (k / o.size) (x_in k) m.here c

  base_grass : (k : ℕ) (m : May k) → GrassAt k m (base_cells w o)
  unfolding column_height column_biome
  base_grass k m =
      let wx = o.ox +ℤ pos (k % o.size) in
      let wz = o.oz +ℤ pos (k / o.size) in
      let h = height_least w tall wx wz in
      let n = height_at w wx wz - 1 in
      let e : height_at w wx wz ≡ suc n = omega arith in
      base_at w o (k % o.size) (surface_of w o k) (k / o.size) (x_in k) m.here (below_2 o.size k m.column)
      ∙ ap (λ (u : ℤ). base_cell w wx u wz) (level_back o.size o.oy (height_at w wx wz - 1) m.here)
      ∙ surface_of_lem w wx wz n e (green (biome_at w wx wz) _ m.grows) (subst (λ (u : ℕ). lt_z (pos u -ℤ w.sea_level) (pos 3) ≡ false) e m.dry)

  -- two columns are two places
  apart : (j k : ℕ) → (j ≡ k → ⊥) → j % o.size ≡ k % o.size → j / o.size ≡ k / o.size → ⊥
  apart j k n p q =
      n (sym (div-add-mod' j o.size) ∙ ap (λ (u : ℕ). u * o.size + j % o.size) q ∙ ap (λ (u : ℕ). k / o.size * o.size + u) p ∙ div-add-mod' k o.size)

  -- boulders stand on mountains, so not on such a column
  boulder_none : (k : ℕ) (m : May k) (d : List ℕ) → boulder_column o (top_of w o k) (k % o.size) (k / o.size) d ≡ d
  unfolding boulder_column place_boulder column_biome
  boulder_none k m d =
      let x = k % o.size in
      let z = k / o.size in
      rw (green (biome_at w (o.ox +ℤ pos x) (o.oz +ℤ pos z)) _ m.grows).stony (either (inset_in 1 o.size x z))
    where
      either : (b : Bool) → cond b d d ≡ d
      either true = refl
      either false = refl

  boulders_grass : (k : ℕ) (m : May k) (n : ℕ) (c : List ℕ) → GrassAt k m c → GrassAt k m (steps n (boulder_step o (top_of w o)) c)
  unfolding boulder_step
  boulders_grass k m n c g =
      let s = o.size in
      let t = top_of w o in
      let y = surface_of w o k in
      steps_grass s (k % s) y (k / s) (x_in k) m.here n (boulder_step o t) c
      (λ j d l a. by_bool (eqb j k)
      (λ e. subst (λ (u : ℕ). GrassAt k m (boulder_column o (t u) (u % s) (u / s) d)) (sym (eqb-true j k e))
      (subst (GrassAt k m) (sym (boulder_none k m d)) a))
      (λ e. boulder_grass o (k % s) y (k / s) (x_in k) m.here (t j) (j % s) (j / s) (apart j k (eqb-false j k e)) d a))
      g

  trees_grass : (k : ℕ) (m : May k) (n : ℕ) (c : List ℕ) → n ≤ k → GrassAt k m c → GrassAt k m (steps n (tree_step o w.sea_level (top_of w o)) c)
  unfolding tree_step
  trees_grass k m n c h g =
      let s = o.size in
      let t = top_of w o in
      let y = surface_of w o k in
      let sea = w.sea_level in
      steps_grass s (k % s) y (k / s) (x_in k) m.here n (tree_step o sea t) c
      (λ j d l a. tree_grass o (k % s) y (k / s) (x_in k) m.here (t j) (j % s) (j / s) (apart j k (λ e. omega arith)) sea d a)
      g

  -- one column: the look at the surface says what the top says
  stands_one : (k : ℕ) (d : List ℕ) → k < o.size * o.size → ((m : May k) → GrassAt k m d)
      → tree_step o w.sea_level (top_of w o) k d ≡ stand_step o w.sea_level (top_of w o) k d
  unfolding tree_step tree_column place_tree stand_step stand_column
  stands_one k d l g =
      let x = k % o.size in
      let z = k / o.size in
      let y = surface_of w o k in
      by_bool (inset_in 2 o.size x z)
      (λ a. by_bool (lt_z (pos (top_of w o k).height -ℤ w.sea_level) (pos 3))
      (λ b. rw (a, b))
      (λ b. by_bool (tree_grows (top_of w o k).biome (tree_hash (o.ox +ℤ pos x) (o.oz +ℤ pos z)))
      (λ e. by_bool (ltb y o.size)
      (λ f. let h : y < o.size = ltb-true y o.size f in
      let m : May k = record { column = l; dry = b; grows = e; here = h } in
      let q : see_at o.size x y z d ≡ 3 = see_inside o.size x y z d (record { x_in = x_in k; y_in = h; z_in = below_2 o.size k l }) ∙ g m in
      rw (a, b, e, q, f))
      (λ f. let q : see_at o.size x y z d ≡ 0 = see_out o.size x y z d (ltb-false y o.size f) in
      rw (a, b, e, q, f)))
      (λ e. rw (a, b, e))))
      (λ a. rw a)

  stands_to : (n : ℕ) → n ≤ o.size * o.size
      → steps n (tree_step o w.sea_level (top_of w o)) (boulders_of o (top_of w o) (base_cells w o))
      ≡ steps n (stand_step o w.sea_level (top_of w o)) (boulders_of o (top_of w o) (base_cells w o))
  unfolding steps boulders_of
  stands_to zero h = refl
  stands_to (suc n) h =
      let t = top_of w o in
      let sea = w.sea_level in
      let c = boulders_of o t (base_cells w o) in
      stands_one n (steps n (tree_step o sea t) c) (omega arith)
      (λ m. trees_grass n m n c (omega arith) (boulders_grass n m (o.size * o.size) (base_cells w o) (base_grass n m)))
      ∙ ap (stand_step o sea t n) (stands_to n (omega arith))

  -- a tree's surface cell, where it is in the chunk, is grass: the trees are those that stand by their columns' tops
  pub trees_stand : trees_of o w.sea_level (top_of w o) (boulders_of o (top_of w o) (base_cells w o))
      ≡ steps (o.size * o.size) (stand_step o w.sea_level (top_of w o)) (boulders_of o (top_of w o) (base_cells w o))
  unfolding trees_of
  trees_stand = stands_to (o.size * o.size) (omega arith)
