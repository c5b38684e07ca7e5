-- The sums of octaves along a row, and what they say of its cells (SCOPE 4.10). Assumes nothing.
use Rattle.std.specs.Prelude.{◌≡◌, List, Bool, false, ◌&&◌, ◌||◌, ℕ, zero, suc, ◌+◌, ◌*◌, ◌<◌, pos, ◌+ℤ◌, Float, get_or}
use Rattle.std.specs.Float.Ieee.{lt}
use Rattle.num_core.specs.Num.{nearest, clamp₃₂}
use Rattle.column.specs.Floats.{◌+f◌, ◌-f◌, ◌*f◌, ◌/f◌, nat, real, square}
use Rattle.noise_tables.specs.Row.{at}
use Rattle.noise_layers.specs.Layers.{octave_at}
use Rattle.ground_cell.specs.Caves.{carved}
use Rattle.ground_cell.specs.declared.world.Frame.{Frame}
use Rattle.cave_rows.specs.Layers.{level_at, depth_at}

-- octave o at cell i of the row
abbrev pub one_of : ℕ → ℕ → ℕ → List Float → List Float → ℕ → Float
one_of o y z eases edges i = octave_at o (level_at o y) (depth_at o z) eases edges i

-- octave k of a field is half of the one before
unfoldable pub amp_at : ℕ → Float
amp_at zero = nat 1
amp_at (suc k) = amp_at k *f nearest 1 2

-- the sum of so many octaves from o on
unfoldable pub sum_of : ℕ → ℕ → ℕ → ℕ → List Float → List Float → ℕ → Float
sum_of zero o y z eases edges i = nat 0
sum_of (suc k) o y z eases edges i = sum_of k o y z eases edges i +f one_of (o + k) y z eases edges i *f amp_at k

abbrev pub sum2_of : ℕ → ℕ → ℕ → List Float → List Float → ℕ → Float
sum2_of = sum_of 2

abbrev pub sum3_of : ℕ → ℕ → ℕ → List Float → List Float → ℕ → Float
sum3_of = sum_of 3

-- a cell by the sums of the three fields; the sums of the amplitudes are 1.75 and 1.5
unfoldable pub hollow_of : Float → Float → Float → Float → Float → Bool → Bool
hollow_of a b c y h cut =
    lt (square (a /f nearest 7 4 -f nearest 1 2) +f square (b /f nearest 7 4 -f nearest 1 2)) (nearest 6 1000)
    || lt (nearest 7 10 -f (nat 1 -f clamp₃₂ (y /f h) (nat 0) (nat 1)) *f nearest 15 100) (c /f nearest 3 2)
    || (cut && lt (h -f nat 20) y && lt y (h -f nat 1))

-- cell i of a row, whose columns' heights begin at k
unfoldable pub judged_at : Float → ℕ → List ℕ → List Bool → List Float → List Float → List Float → ℕ → Bool
judged_at y k heights cuts a b c i = hollow_of (at a i) (at b i) (at c i) y (real (pos (get_or heights (k + i) 0))) (get_or cuts i false)

-- the flags say which cells of the row at z are hollow at level y
pub record Hollow (f : Frame) (y z : ℕ) (heights : List ℕ) (flags : List Bool) : Type 0 where
  pub each : (x : ℕ) → x < f.size → get_or flags x false ≡ carved (f.ox +ℤ pos x) (f.oy +ℤ pos y) (f.oz +ℤ pos z) (pos (get_or heights (z * f.size + x) 0))
