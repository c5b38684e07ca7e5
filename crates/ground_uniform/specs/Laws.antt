-- The ground of a chunk that lies wholly below (SCOPE 4.9), or wholly above (4.7): one block in every cell. Assumes nothing.
use Rattle.std.specs.Prelude.{◌≡◌, refl, ℕ, zero, suc, ◌+◌, ◌-◌, ◌*◌, ◌/◌, ◌%◌, ◌≤◌, ◌<◌, Bool, true, false, cond, ltb, ℤ, pos, negsuc, ◌+ℤ◌}
use Rattle.std.proofs.Common.{sym, ap, ◌∙◌, subst, arith, mod-lt, leb-true, ltb-true, lt-ltb, le-ltb}
use Rattle.std.proofs.lemmas.Bool.{false≢true}
use Rattle.std.specs.Int.Signed.{lt_z, le_z}
use Rattle.basics.specs.Bools.{and_both}
use Rattle.grid.specs.Grid.{tab_same}
use Rattle.column.specs.declared.Biome.{Biome}
use Rattle.column.specs.declared.Biome.TheVariants.{Desert, Mountain, Forest, Plains}
use Rattle.ground_cell.specs.Blocks.{desert_block, mountain_block, forest_block, plains_block, select_block}
use Rattle.ground_cell.specs.World.{Tall, Near, height_at, biome_numbered, top_at, ground_cell, column_cell, cell_with, cell_under, base_cell, local_y}
use Rattle.ground_cell.specs.Base.{base_numbered, base_cells, column_height}
use Rattle.ground_cell.proofs.Laws.{height_least, height_most, column_most, base_above}
use Rattle.ground_cell.specs.declared.world.World.{World}
use Rattle.ground_cell.specs.declared.world.Frame.{Frame}
use Rattle.ground_trees.specs.Features.{boulders_of, trees_of, top_of}
use Rattle.ground_uniform.specs.Place.{deep_end, boulder_reach, deep_in, sky_in, all_of}
use Rattle.ground_uniform.specs.Untouched.{boulders_out, trees_out}

-- a base that is one block at every level
base_same : (w : World) (o : Frame) (v : ℕ) → 1 ≤ o.size → ((wx wz : ℤ) (y : ℕ) → y < o.size → base_cell w wx (o.oy +ℤ pos y) wz ≡ v)
    → base_cells w o ≡ all_of (o.size * o.size * o.size) v
unfolding base_cells base_numbered all_of
base_same w o v p h =
    tab_same (o.size * o.size * o.size) (base_numbered w o) (λ (i : ℕ). v)
    (λ i l. h (o.ox +ℤ pos (i % o.size)) (o.oz +ℤ pos (i / o.size / o.size)) (i / o.size % o.size) (mod-lt (i / o.size) p))

-- ---- below

-- a chunk that is deep begins at −(n + 1)
record Below (k : ℕ) (oy : ℤ) (size : ℕ) : Type 0 where
  n : ℕ
  is : oy ≡ negsuc n
  far : size + k ≤ n

below_of : (k : ℕ) (oy : ℤ) (s : ℕ) → le_z (oy +ℤ pos s) (negsuc k) ≡ true → Below k oy s
below_of k (pos a) s e = absurd (false≢true e)
below_of k (negsuc a) s e = go (ltb s (suc a)) refl e
  where
    go : (b : Bool) → ltb s (suc a) ≡ b → le_z (cond b (negsuc (suc a - suc s)) (pos (s - suc a))) (negsuc k) ≡ true → Below k (negsuc a) s
    go true q r = let p = ltb-true s (suc a) q in let m = leb-true k (suc a - suc s) r in record { n = a; is = refl; far = omega arith }
    go false q r = absurd (false≢true r)

-- 9 below a column's top every biome has stone
stone_under : (b : Biome) (k h : ℕ) (sea : ℤ) → 1 ≤ h → 7 ≤ k → select_block b (negsuc k) (pos h) sea ≡ 1
unfolding select_block desert_block mountain_block forest_block plains_block
stone_under Desert k h sea p q = rw (le-ltb (h + suc k) 5 (omega arith), le-ltb (h + suc k) 9 (omega arith))
stone_under Mountain k h sea p q = rw (le-ltb (h + suc k) 3 (omega arith))
stone_under Forest k h sea p q = rw (le-ltb (h + suc k) 2 (omega arith), le-ltb (h + suc k) 6 (omega arith))
stone_under Plains k h sea p q = rw (le-ltb (h + suc k) 2 (omega arith), le-ltb (h + suc k) 5 (omega arith))

-- no caves at or below 0
base_under : (w : World) (t : Tall w) (wx wz : ℤ) (k : ℕ) → 7 ≤ k → base_cell w wx (negsuc k) wz ≡ 1
unfolding base_cell cell_under cell_with top_at column_cell ground_cell
base_under w t wx wz k h = stone_under (biome_numbered (top_at w wx wz).biome) k (height_at w wx wz) w.sea_level (height_least w t wx wz) h

level_under : (n s y : ℕ) → s ≤ n → y < s → negsuc n +ℤ pos y ≡ negsuc (n - y)
level_under n s y h l = rw (lt-ltb y (suc n) (omega arith)) (ap negsuc (omega arith))

-- the levels of the world's boulders and trees are above
local_above : (s n y : ℕ) → s ≤ n → s ≤ local_y s (negsuc n) (pos y)
unfolding local_y
local_above s n y h = omega arith

pub ground_deep : (w : World) (o : Frame) → Tall w → Near o → deep_in o ≡ true
    → trees_of o w.sea_level (top_of w o) (boulders_of o (top_of w o) (base_cells w o)) ≡ all_of (o.size * o.size * o.size) 1
unfolding deep_in
ground_deep w o t m e =
    let b = below_of deep_end o.oy o.size e in
    let f = b.far in
    let up : (y : ℕ) → o.size ≤ local_y o.size o.oy (pos y) =
    λ y. subst (λ (z : ℤ). o.size ≤ local_y o.size z (pos y)) (sym b.is) (local_above o.size b.n y (omega arith)) in
    let base =
    base_same w o 1 m.some
    (λ wx wz y l. ap (λ (z : ℤ). base_cell w wx z wz) (ap (λ (z : ℤ). z +ℤ pos y) b.is ∙ level_under b.n o.size y (omega arith) l)
    ∙ base_under w t wx wz (b.n - y) (omega arith)) in
    trees_out o w.sea_level (top_of w o) (boulders_of o (top_of w o) (base_cells w o)) (λ k. up (column_height w o k - 1))
    ∙ boulders_out o (top_of w o) (base_cells w o) (λ k j l. up (column_height w o k + j))
    ∙ base

-- ---- above

-- a chunk in the sky begins at a, above the tallest boulder, and no lower than the sea
record Above (r top : ℕ) (sea oy : ℤ) : Type 0 where
  a : ℕ
  is : oy ≡ pos a
  far : top + r ≤ a
  dry : (y : ℕ) → lt_z (pos (a + y)) sea ≡ false

dry_of : (sea : ℤ) (a y : ℕ) → le_z sea (pos a) ≡ true → lt_z (pos (a + y)) sea ≡ false
dry_of (pos m) a y e = let k = leb-true m a e in le-ltb (a + y) m (omega arith)
dry_of (negsuc m) a y e = refl

above_of : (r top : ℕ) (sea oy : ℤ) → le_z sea oy ≡ true → le_z (pos (top + r)) oy ≡ true → Above r top sea oy
above_of r top sea (pos a) p q = record { a = a; is = refl; far = leb-true (top + r) a q; dry = λ y. dry_of sea a y p }
above_of r top sea (negsuc a) p q = absurd (false≢true q)

air_over : (w : World) (t : Tall w) (wx wz : ℤ) (n : ℕ) → t.top ≤ n → lt_z (pos n) w.sea_level ≡ false → base_cell w wx (pos n) wz ≡ 0
air_over w t wx wz n h e = let m = height_most w t wx wz in base_above w wx wz n (omega arith) ∙ rw e

-- a level below the chunk counts as outside
local_below : (s a y : ℕ) → y < a → s ≤ local_y s (pos a) (pos y)
unfolding local_y
local_below s zero y h = absurd (omega arith)
local_below s (suc a) y h = rw (lt-ltb y (suc a) h) (omega arith)

pub ground_sky : (w : World) (o : Frame) → Tall w → Near o → sky_in w o ≡ true
    → trees_of o w.sea_level (top_of w o) (boulders_of o (top_of w o) (base_cells w o)) ≡ all_of (o.size * o.size * o.size) 0
unfolding sky_in
ground_sky w o t m e =
    let g = and_both _ _ e in
    let b = above_of boulder_reach t.top w.sea_level o.oy g.0 (subst (λ (z : ℤ). le_z (z +ℤ pos boulder_reach) o.oy ≡ true) t.is g.1) in
    let f = b.far in
    let down : (y : ℕ) → y < b.a → o.size ≤ local_y o.size o.oy (pos y) =
    λ y l. subst (λ (z : ℤ). o.size ≤ local_y o.size z (pos y)) (sym b.is) (local_below o.size b.a y l) in
    let base =
    base_same w o 0 m.some (λ wx wz y l. ap (λ (z : ℤ). base_cell w wx (z +ℤ pos y) wz) b.is ∙ air_over w t wx wz (b.a + y) (omega arith) (b.dry y)) in
    trees_out o w.sea_level (top_of w o) (boulders_of o (top_of w o) (base_cells w o))
    (λ k. let h = column_most w o t k in down (column_height w o k - 1) (omega arith))
    ∙ boulders_out o (top_of w o) (base_cells w o) (λ k j l. let h = column_most w o t k in down (column_height w o k + j) (omega arith))
    ∙ base
