-- Rows of columns make up the chunk's columns, and a row's noise gives their tops (SCOPE 4.6). Assumes nothing.
use Rattle.std.specs.Prelude.{◌≡◌, List, ◌++◌, ℕ, zero, suc, ◌+◌, ◌*◌, ◌≤◌, ◌<◌, ℤ, pos, ◌+ℤ◌, Float}
use Rattle.std.proofs.Common.{sym, ap, ap₂, ◌∙◌, subst, arith, add-mul}
use Rattle.std.proofs.Math.Arith.{digits_div, digits_mod}
use lib.ListN.{length, set, drop}
use Rattle.column.specs.Floats.{real}
use Rattle.column.specs.Heights.{Range, height_within}
use Rattle.column.specs.declared.Column.{Column}
use Rattle.column.specs.declared.Relief.{Relief}
use Rattle.column.specs.Column.{weights_of, heights_of, height_of, climate_of, relief_of, column_from, column_at, surface_of, biome_and_height}
use Rattle.grid.specs.Cube.{tab, steps}
use Rattle.grid.specs.Grid.{fill_none, fill_more, steps_length}
use Rattle.ground_cell.specs.World.{Tall, height_at, biome_at, biome_number, top_with}
use Rattle.ground_cell.specs.Base.{column_height, column_biome}
use Rattle.ground_cell.specs.declared.world.World.{World}
use Rattle.ground_cell.specs.declared.world.Frame.{Frame}
use Rattle.column_tops_row.specs.Tops.{surface_top, x_at, z_at, note_at}

-- a height lies in 1 to the greatest, whatever the noise
pub surface_range : (w : World) (t : Tall w) (c : Column) (n : Relief) (sl : Float) → Range t.top (surface_of c n sl w.max_height).height
unfolding surface_of
surface_range w t c n sl =
    let col = heights_of (weights_of c) n sl in
    subst (λ (z : ℤ). Range t.top (height_of col z)) (sym t.is) (height_within col t.top t.least)

-- the top of the column at x in row z, of that column's climate and relief
pub row_top : (w : World) (o : Frame) (z x : ℕ) → x < o.size
    → surface_top (surface_of (climate_of (x_at w o x) (z_at w o z)) (relief_of (x_at w o x) (z_at w o z)) (real w.sea_level) w.max_height)
    ≡ top_with (column_height w o (z * o.size + x)) (column_biome w o (z * o.size + x))
unfolding surface_top x_at z_at surface_of column_height column_biome height_at biome_at biome_and_height column_at column_from
row_top w o z x h =
    ap₂ (λ (i j : ℕ). top_with (height_at w (o.ox +ℤ pos i) (o.oz +ℤ pos j)) (biome_number (biome_at w (o.ox +ℤ pos i) (o.oz +ℤ pos j))))
    (sym (digits_mod z h)) (sym (digits_div z h))

-- a row behind m columns that are noted
pub rows_fill : (f : ℕ → ℕ) (h : List ℕ) (m n : ℕ) → m + n ≤ length h
    → steps n (note_at f m) (tab m f ++ drop m h) ≡ tab (m + n) f ++ drop (m + n) h
unfolding steps note_at
rows_fill f h m zero k = ap (λ (i : ℕ). tab i f ++ drop i h) (omega arith)
rows_fill f h m (suc n) k =
    ap (λ (l : List ℕ). set l (m + n) (f (m + n))) (rows_fill f h m n (omega arith))
    ∙ fill_more h (m + n) f (omega arith)
    ∙ ap (λ (i : ℕ). tab i f ++ drop i h) (omega arith)

pub row_length : (f : ℕ → ℕ) (m n : ℕ) (l : List ℕ) → length (steps n (note_at f m) l) ≡ length l
unfolding note_at
row_length f m n l = steps_length n (note_at f m) l (λ k d. lib.ListN.length-set d (m + k) (f (m + k)))

-- the chunk row by row: no row yet, and one row more
pub none : (f : ℕ → ℕ) (h : List ℕ) (size : ℕ) → h ≡ tab (0 * size) f ++ drop (0 * size) h
none f h size = fill_none h f ∙ ap (λ (k : ℕ). tab k f ++ drop k h) (omega arith)

rows_more : (z size : ℕ) → z * size + size ≡ (z + 1) * size
rows_more z size = let e = add-mul z 1 size in omega arith

pub more : (f : ℕ → ℕ) (h l : List ℕ) (z size : ℕ) → l ≡ tab (z * size) f ++ drop (z * size) h → z * size + size ≤ length h
    → steps size (note_at f (z * size)) l ≡ tab ((z + 1) * size) f ++ drop ((z + 1) * size) h
more f h l z size e k =
    ap (steps size (note_at f (z * size))) e ∙ rows_fill f h (z * size) size k ∙ ap (λ (i : ℕ). tab i f ++ drop i h) (rows_more z size)
