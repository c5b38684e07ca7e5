-- A row of columns at one z: what `get_biome` asks of the noise (SCOPE 4.2, 4.4), place by place. Assumes nothing.
use Rattle.std.specs.Prelude.{ℕ, List, Float}
use Rattle.std.specs.Float.Ieee.{neg}
use Rattle.num_core.specs.Num.{nearest}
use Rattle.noise_tables.specs.Row.{at, Row}
use Rattle.column_tables.specs.Coords.{Tabled}
use Rattle.column.specs.Floats.{◌+f◌, ◌*f◌, nat}
use Rattle.column.specs.Column.{offset_fbm₃₂, scaled_fbm₃₂, continent₃₂}

-- x * scale + dx, and x * scale
unfoldable pub offset_at : List Float → Float → Float → ℕ → Float
offset_at xs scale dx i = at xs i *f scale +f dx

unfoldable pub scaled_at : List Float → Float → ℕ → Float
scaled_at xs scale i = at xs i *f scale

-- `offset_fbm`, `scaled_fbm` and `continent` at each place
unfoldable pub offset_row : List Float → Float → Float → Float → Float → ℕ → ℕ → Float
offset_row xs z scale dx dz octaves i = offset_fbm₃₂ (at xs i) z scale dx dz octaves

unfoldable pub scaled_row : List Float → Float → Float → ℕ → ℕ → Float
scaled_row xs z scale octaves i = scaled_fbm₃₂ (at xs i) z scale octaves

unfoldable pub continent_row : List Float → Float → ℕ → Float
continent_row xs z i = continent₃₂ (at xs i) z

-- the continent's coordinates, scaled, of the noise that warps them
unfoldable pub warped : List Float → List Float → ℕ → Float
warped xs l i = (at xs i +f at l i *f nat 40) *f nearest 4 1000

-- the noise of the climate, above the places xs of the row at z
pub record ClimateRows (n : ℕ) (xs : List Float) (z : Float) (temp moisture : List Float) : Type 0 where
  pub warm : Row n (offset_row xs z (nearest 3 1000) (nat 100) (nat 100) 4) temp
  pub wet : Row n (offset_row xs z (nearest 4 1000) (neg (nat 200)) (nat 300) 4) moisture

-- wherever the tables tell of the places xs
pub record ClimateBy (n : ℕ) (z : Float) (floors : List ℕ) (eases temp moisture : List Float) : Type 0 where
  pub is : (xs : List Float) → Tabled n xs floors eases → ClimateRows n xs z temp moisture

-- the noise of the relief, in three parts
pub record HeightRows (n : ℕ) (xs : List Float) (z : Float) (continent detail micro : List Float) : Type 0 where
  pub large : Row n (continent_row xs z) continent
  pub fine : Row n (scaled_row xs z (nearest 25 1000) 4) detail
  pub finest : Row n (scaled_row xs z (nearest 8 100) 2) micro

pub record RidgeRows (n : ℕ) (xs : List Float) (z : Float) (ridge1 ridge2 : List Float) : Type 0 where
  pub first : Row n (offset_row xs z (nearest 8 1000) (nat 500) (nat 500) 4) ridge1
  pub second : Row n (offset_row xs z (nearest 15 1000) (nat 300) (nat 200) 3) ridge2

pub record RidgeBy (n : ℕ) (z : Float) (floors : List ℕ) (eases ridge1 ridge2 : List Float) : Type 0 where
  pub is : (xs : List Float) → Tabled n xs floors eases → RidgeRows n xs z ridge1 ridge2

pub record LowlandRows (n : ℕ) (xs : List Float) (z : Float) (steps dune hill : List Float) : Type 0 where
  pub stepped : Row n (offset_row xs z (nearest 6 1000) (neg (nat 400)) (nat 600) 3) steps
  pub dunes : Row n (offset_row xs z (nearest 2 100) (nat 50) (nat 50) 3) dune
  pub hills : Row n (offset_row xs z (nearest 1 100) (nat 150) (nat 250) 3) hill

pub record LowlandBy (n : ℕ) (z : Float) (floors : List ℕ) (eases steps dune hill : List Float) : Type 0 where
  pub is : (xs : List Float) → Tabled n xs floors eases → LowlandRows n xs z steps dune hill
