-- The x of a row of columns, as each octave of their noise (SCOPE 4.2, 4.4) takes it. Assumes nothing.
use Rattle.std.specs.Prelude.{List, cond, ℕ, ◌-◌, ltb, Float}
use Rattle.std.specs.Float.Ieee.{neg}
use Rattle.num_core.specs.Num.{nearest}
use Rattle.noise_tables.specs.Scaled.{scaled_by}
use Rattle.noise_tables.specs.Row.{at}
use Rattle.noise_tables.specs.Places.{Noted}
use Rattle.column.specs.Floats.{◌+f◌, ◌*f◌, nat}

-- temperature, moisture, and the two fields that warp the continent
unfoldable pub climate_x : ℕ → Float → Float
climate_x o x =
    cond (ltb o 4) (scaled_by o (x *f nearest 3 1000 +f nat 100))
    (cond (ltb o 8) (scaled_by (o - 4) (x *f nearest 4 1000 +f neg (nat 200)))
    (cond (ltb o 11) (scaled_by (o - 8) (x *f nearest 3 1000 +f nat 700)) (scaled_by (o - 11) (x *f nearest 3 1000 +f nat 900))))

-- detail, the finest, and the two fields of the ridges
unfoldable pub relief_x : ℕ → Float → Float
relief_x o x =
    cond (ltb o 18) (scaled_by (o - 14) (x *f nearest 25 1000))
    (cond (ltb o 20) (scaled_by (o - 18) (x *f nearest 8 100))
    (cond (ltb o 24) (scaled_by (o - 20) (x *f nearest 8 1000 +f nat 500)) (scaled_by (o - 24) (x *f nearest 15 1000 +f nat 300))))

-- steps, dunes, hills
unfoldable pub lowland_x : ℕ → Float → Float
lowland_x o x =
    cond (ltb o 30) (scaled_by (o - 27) (x *f nearest 6 1000 +f neg (nat 400)))
    (cond (ltb o 33) (scaled_by (o - 30) (x *f nearest 2 100 +f nat 50)) (scaled_by (o - 33) (x *f nearest 1 100 +f nat 150)))

-- octave o of all 36
unfoldable pub column_coord : ℕ → Float → Float
column_coord o x = cond (ltb o 14) (climate_x o x) (cond (ltb o 27) (relief_x o x) (lowland_x o x))

unfoldable pub coords_of : List Float → ℕ → ℕ → Float
coords_of xs o i = column_coord o (at xs i)

-- the tables tell of all octaves of the first n places of xs
abbrev pub Tabled : ℕ → List Float → List ℕ → List Float → Type 0
Tabled n xs floors eases = Noted n 36 (coords_of xs) floors eases
