-- A chunk's coordinates, as the octaves of the caves' noise (SCOPE 4.10) take them. Assumes nothing.
use Rattle.std.specs.Prelude.{cond, ℕ, ◌-◌, ltb, pos, ◌+ℤ◌, Float}
use Rattle.num_core.specs.Num.{nearest}
use Rattle.noise_tables.specs.Scaled.{scaled_by}
use Rattle.column.specs.Floats.{◌+f◌, ◌-f◌, ◌*f◌, nat, real}
use Rattle.ground_cell.specs.declared.world.Frame.{Frame}

-- octave o of an axis: 0 to 2 and 3 to 5 of spaghetti caves, from 6 on of caverns
unfoldable pub octave_of : ℕ → Float → Float → Float → Float
octave_of o cave_a cave_b cavern = cond (ltb o 3) (scaled_by o cave_a) (cond (ltb o 6) (scaled_by (o - 3) cave_b) (scaled_by (o - 6) cavern))

-- octave o of all along x: 0 to 2 and 3 to 5 of spaghetti caves, 6 and 7 of caverns, 8 to 10 of ravines
unfoldable pub x_of : ℕ → Float → Float
x_of o x =
    cond (ltb o 3) (scaled_by o (x *f nearest 4 100 +f nat 100))
    (cond (ltb o 6) (scaled_by (o - 3) (x *f nearest 4 100 -f nat 200))
    (cond (ltb o 8) (scaled_by (o - 6) (x *f nearest 15 1000)) (scaled_by (o - 8) (x *f nearest 1 100))))

unfoldable pub y_of : ℕ → Float → Float
y_of o y =
    cond (ltb o 3) (scaled_by o (y *f nearest 6 100 +f nat 100))
    (cond (ltb o 6) (scaled_by (o - 3) (y *f nearest 6 100 -f nat 200)) (scaled_by (o - 6) (y *f nearest 25 1000)))

unfoldable pub z_of : ℕ → Float → Float
z_of o z =
    cond (ltb o 3) (scaled_by o (z *f nearest 4 100 +f nat 100))
    (cond (ltb o 6) (scaled_by (o - 3) (z *f nearest 4 100 +f nat 300)) (scaled_by (o - 6) (z *f nearest 15 1000)))

-- octave o of the tables at place i: along x, from 11 on along y, from 19 on along z
unfoldable pub cave_coord : Frame → ℕ → ℕ → Float
cave_coord f o i =
    cond (ltb o 11) (x_of o (real (f.ox +ℤ pos i))) (cond (ltb o 19) (y_of (o - 11) (real (f.oy +ℤ pos i))) (z_of (o - 19) (real (f.oz +ℤ pos i))))
