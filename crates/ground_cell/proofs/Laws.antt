-- What holds of every column and every cell of the base (SCOPE 4.6 to 4.10). Assumes nothing.
use Rattle.std.specs.Prelude.{◌≡◌, refl, ℕ, zero, suc, ◌+◌, ◌-◌, ◌*◌, ◌/◌, ◌%◌, ◌≤◌, ◌<◌, Bool, true, false, ◌&&◌, cond, length, get_or, T, ltb, leb}
use Rattle.std.specs.Prelude.{ℤ, pos, negsuc, ◌+ℤ◌, ◌-ℤ◌}
use Rattle.std.proofs.Common.{sym, ap, ap₂, ◌∙◌, subst, arith, leb→le, ltb→lt, ltb-true, ltb-false, leb-true, le-leb, le-ltb}
use Rattle.std.proofs.Math.ListN.{get_or-eq_default}
use Rattle.std.specs.Int.Signed.{lt_z, le_z}
use Rattle.std.proofs.lemmas.Bool.{lt-leb}
use Rattle.column.specs.Column.{biome_and_height}
use Rattle.column.specs.Heights.{Range, height_range}
use Rattle.column.specs.declared.Biome.{Biome}
use Rattle.column.specs.declared.Biome.TheVariants.{Desert, Mountain, Forest, Plains}
use Rattle.grid.specs.Cube.{cell_index, col_of}
use Rattle.grid.specs.Grid.{col_x, col_z, index_lt, index_x, index_y, index_z, tab_length, tab_at}
use Rattle.ground_cell.specs.Blocks.{AIR, WATER, desert_block, snow_patch, mountain_top, mountain_block, shore_block, forest_block, plains_block, select_block}
use Rattle.ground_cell.specs.Caves.{carved}
use Rattle.ground_cell.specs.World.{Tall, height_at, biome_at, biome_number, biome_numbered, top_at, ground_cell, column_cell, cell_with, cell_under, base_cell}
use Rattle.ground_cell.specs.World.{local_or, local_y}
use Rattle.ground_cell.specs.Base.{base_numbered, base_cells, column_height, column_biome}
use Rattle.ground_cell.specs.declared.world.World.{World}
use Rattle.ground_cell.specs.declared.world.Frame.{Frame}
use Rattle.ground_cell.specs.declared.world.Top.{Top}

-- a column's height lies in 1 to the greatest
pub world_range : (w : World) (t : Tall w) (wx wz : ℤ) → Range t.top (biome_and_height wx wz w.sea_level w.max_height w.seed_offset).height
world_range w t wx wz =
    subst (λ (z : ℤ). Range t.top (biome_and_height wx wz w.sea_level z w.seed_offset).height) (sym t.is)
    (height_range wx wz w.sea_level t.top w.seed_offset t.least)

pub height_least : (w : World) (t : Tall w) (wx wz : ℤ) → 1 ≤ height_at w wx wz
unfolding height_at
height_least w t wx wz = (world_range w t wx wz).least

pub height_most : (w : World) (t : Tall w) (wx wz : ℤ) → height_at w wx wz ≤ t.top
unfolding height_at
height_most w t wx wz = (world_range w t wx wz).most

-- what is noted of a cell's column
pub height_col : (w : World) (o : Frame) (i : ℕ) → 0 < o.size
    → column_height w o (col_of o.size i) ≡ height_at w (o.ox +ℤ pos (i % o.size)) (o.oz +ℤ pos (i / o.size / o.size))
unfolding column_height
height_col w o i h = ap₂ (λ (x z : ℕ). height_at w (o.ox +ℤ pos x) (o.oz +ℤ pos z)) (col_x o.size i h) (col_z o.size i h)

pub biome_col : (w : World) (o : Frame) (i : ℕ) → 0 < o.size
    → column_biome w o (col_of o.size i) ≡ biome_number (biome_at w (o.ox +ℤ pos (i % o.size)) (o.oz +ℤ pos (i / o.size / o.size)))
unfolding column_biome
biome_col w o i h = ap₂ (λ (x z : ℕ). biome_number (biome_at w (o.ox +ℤ pos x) (o.oz +ℤ pos z))) (col_x o.size i h) (col_z o.size i h)

pub column_most : (w : World) (o : Frame) (t : Tall w) (k : ℕ) → column_height w o k ≤ t.top
unfolding column_height
column_most w o t k = height_most w t (o.ox +ℤ pos (k % o.size)) (o.oz +ℤ pos (k / o.size))

pub column_least : (w : World) (o : Frame) (t : Tall w) (k : ℕ) → 1 ≤ column_height w o k
unfolding column_height
column_least w o t k = height_least w t (o.ox +ℤ pos (k % o.size)) (o.oz +ℤ pos (k / o.size))

-- a block of the ground
abbrev Block : ℕ → Type 0
Block n = (1 ≤ n) × (n < 65536)

one_of : (b : Bool) (x y : ℕ) → Block x → Block y → Block (cond b x y)
one_of true x y p q = p
one_of false x y p q = q

lit : (n : ℕ) → T (leb 1 n) → T (ltb n 65536) → Block n
lit n p q = (leb→le 1 n p, ltb→lt n 65536 q)

top_block_lem : (wy h : ℤ) → Block (mountain_top wy h)
unfolding mountain_top
top_block_lem wy h =
    one_of (lt_z h (pos 41)) 1 _ (lit 1 tt tt)
    (one_of (lt_z h (pos 56)) 7 _ (lit 7 tt tt) (one_of (lt_z h (pos 71)) _ 6 (one_of (snow_patch wy h) 6 1 (lit 6 tt tt) (lit 1 tt tt)) (lit 6 tt tt)))

shore_block_lem : (h sea : ℤ) → Block (shore_block h sea)
unfolding shore_block
shore_block_lem h sea = one_of (lt_z (h -ℤ sea) (pos 3)) 4 3 (lit 4 tt tt) (lit 3 tt tt)

-- below the surface, where no cave is, stands a block
pub select_block_solid : (b : Biome) (wy h sea : ℤ) → Block (select_block b wy h sea)
unfolding select_block desert_block mountain_block forest_block plains_block
select_block_solid Desert wy h sea = one_of (lt_z (h -ℤ wy) (pos 5)) 4 _ (lit 4 tt tt) (one_of (lt_z (h -ℤ wy) (pos 9)) 7 1 (lit 7 tt tt) (lit 1 tt tt))
select_block_solid Mountain wy h sea = one_of (lt_z (h -ℤ wy) (pos 3)) _ 1 (top_block_lem wy h) (lit 1 tt tt)
select_block_solid Forest wy h sea =
    one_of (lt_z (h -ℤ wy) (pos 2)) _ _ (shore_block_lem h sea) (one_of (lt_z (h -ℤ wy) (pos 6)) 2 1 (lit 2 tt tt) (lit 1 tt tt))
select_block_solid Plains wy h sea =
    one_of (lt_z (h -ℤ wy) (pos 2)) _ _ (shore_block_lem h sea) (one_of (lt_z (h -ℤ wy) (pos 5)) 2 1 (lit 2 tt tt) (lit 1 tt tt))

either : (b : Bool) (x y : ℕ) → x < 65536 → y < 65536 → cond b x y < 65536
either true x y p q = p
either false x y p q = q

ground_id : (t v : Bool) (b : Biome) (wy h sea : ℤ) → ground_cell t v b wy h sea < 65536
unfolding ground_cell
ground_id t v b wy h sea = either (t && v) 0 _ (omega arith) (select_block_solid b wy h sea).1

cell_id : (t v : Bool) (b : Biome) (wy h sea : ℤ) → column_cell t v b wy h sea < 65536
unfolding column_cell
cell_id true v b wy h sea = either (lt_z wy sea) 5 0 (omega arith) (omega arith)
cell_id false v b wy h sea = ground_id (lt_z (pos 0) wy && lt_z wy (h -ℤ pos 1)) v b wy h sea

pub base_id : (w : World) (wx wy wz : ℤ) → base_cell w wx wy wz < 65536
unfolding base_cell cell_under cell_with
base_id w wx wy wz =
    cell_id (le_z (pos (top_at w wx wz).height) wy) (carved wx wy wz (pos (top_at w wx wz).height))
    (biome_numbered (top_at w wx wz).biome) wy (pos (top_at w wx wz).height) w.sea_level

-- where the level admits no cave, it does not matter what is said of one
ground_told : (t v u : Bool) (b : Biome) (wy h sea : ℤ) → (t ≡ true → v ≡ u) → ground_cell t v b wy h sea ≡ ground_cell t u b wy h sea
unfolding ground_cell
ground_told true v u b wy h sea e = ap (λ (q : Bool). cond q 0 (select_block b wy h sea)) (e refl)
ground_told false v u b wy h sea e = refl

column_told : (t v u : Bool) (b : Biome) (wy h sea : ℤ) → ((lt_z (pos 0) wy && lt_z wy (h -ℤ pos 1)) ≡ true → v ≡ u)
    → column_cell t v b wy h sea ≡ column_cell t u b wy h sea
unfolding column_cell
column_told true v u b wy h sea e = refl
column_told false v u b wy h sea e = ground_told (lt_z (pos 0) wy && lt_z wy (h -ℤ pos 1)) v u b wy h sea e

pub cell_told : (t : Top) (sea wx wy wz : ℤ) (v : Bool) → ((lt_z (pos 0) wy && lt_z wy (pos t.height -ℤ pos 1)) ≡ true → v ≡ carved wx wy wz (pos t.height))
    → cell_with t sea wy v ≡ cell_under t sea wx wy wz
unfolding cell_under cell_with
cell_told t sea wx wy wz v e =
    column_told (le_z (pos t.height) wy) v (carved wx wy wz (pos t.height)) (biome_numbered t.biome) wy (pos t.height) sea e

deep : (h : ℕ) (wy : ℤ) → 1 ≤ h → le_z wy (pos 0) ≡ true → (le_z (pos h) wy ≡ false) × (lt_z (pos 0) wy ≡ false)
deep h (pos n) p e = let k = leb-true n 0 e in (lt-leb h n (omega arith), le-ltb 0 n (omega arith))
deep h (negsuc n) p e = (refl, refl)

-- SCOPE 4.8: from level 0 down no cell is air
pub base_solid : (w : World) (t : Tall w) (wx wy wz : ℤ) → le_z wy (pos 0) ≡ true → 1 ≤ base_cell w wx wy wz
unfolding base_cell cell_under cell_with top_at column_cell ground_cell
base_solid w t wx wy wz e =
    let d = deep (height_at w wx wz) wy (height_least w t wx wz) e in
    rw (d.0, d.1) (select_block_solid (biome_numbered (top_at w wx wz).biome) wy (pos (height_at w wx wz)) w.sea_level).0

-- SCOPE 4.7: at a column's height and above there is water or air, by the sea level alone
pub base_above : (w : World) (wx wz : ℤ) (n : ℕ) → height_at w wx wz ≤ n → base_cell w wx (pos n) wz ≡ cond (lt_z (pos n) w.sea_level) WATER AIR
unfolding base_cell cell_under cell_with top_at column_cell
base_above w wx wz n h = rw (le-leb (height_at w wx wz) n h)

-- a cell of the base is that of its place in the world
pub base_at : (w : World) (o : Frame) (x y z : ℕ) → x < o.size → y < o.size → z < o.size
    → get_or (base_cells w o) (cell_index o.size x y z) 0 ≡ base_cell w (o.ox +ℤ pos x) (o.oy +ℤ pos y) (o.oz +ℤ pos z)
unfolding base_cells base_numbered
base_at w o x y z hx hy hz =
    tab_at _ (base_numbered w o) (cell_index o.size x y z) (index_lt o.size x y z hx hy hz)
    ∙ rw (index_x o.size x y z hx, index_y o.size x y z hx hy, index_z o.size x y z hx hy)

pub base_length : (w : World) (o : Frame) → length (base_cells w o) ≡ o.size * o.size * o.size
unfolding base_cells
base_length w o = tab_length (o.size * o.size * o.size) (base_numbered w o)

ids : (w : World) (o : Frame) (i : ℕ) (b : Bool) → ltb i (length (base_cells w o)) ≡ b → get_or (base_cells w o) i 0 < 65536
unfolding base_cells base_numbered
ids w o i false e = subst (λ (u : ℕ). u < 65536) (sym (get_or-eq_default (base_cells w o) 0 {n = i} (ltb-false i _ e))) (omega arith)
ids w o i true e =
    let l = ltb-true i _ e in
    let m = tab_length (o.size * o.size * o.size) (base_numbered w o) in
    subst (λ (u : ℕ). u < 65536) (sym (tab_at (o.size * o.size * o.size) (base_numbered w o) i (omega arith)))
    (base_id w (o.ox +ℤ pos (i % o.size)) (o.oy +ℤ pos (i / o.size % o.size)) (o.oz +ℤ pos (i / o.size / o.size)))

pub base_ids : (w : World) (o : Frame) (i : ℕ) → get_or (base_cells w o) i 0 < 65536
base_ids w o i = ids w o i (ltb i (length (base_cells w o))) refl

-- where a level lies in the chunk, the chunk's first level and its place give it
pub level_back : (s : ℕ) (oy : ℤ) (n : ℕ) → local_y s oy (pos n) < s → oy +ℤ pos (local_y s oy (pos n)) ≡ pos n
unfolding local_y
level_back s (pos zero) n h = ap pos (let q : 0 + (n + 0) ≡ n = omega arith in q)
level_back s (pos (suc b)) n h = go (ltb n (suc b)) refl h
  where
    go : (t : Bool) → ltb n (suc b) ≡ t → local_or s (cond t (negsuc (suc b - suc n)) (pos (n - suc b))) < s
        → pos (suc b) +ℤ pos (local_or s (cond t (negsuc (suc b - suc n)) (pos (n - suc b)))) ≡ pos n
    go true e h = absurd (omega arith)
    go false e h = let k = ltb-false n (suc b) e in ap pos (let q : suc b + (n - suc b) ≡ n = omega arith in q)
level_back s (negsuc b) n h = rw (le-ltb (n + suc b) (suc b) (omega arith)) (ap pos (let q : n + suc b - suc b ≡ n = omega arith in q))
