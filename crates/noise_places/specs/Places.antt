-- Noise at a row of places (SCOPE 3.7), with a square of the lattice that is kept from one place to the next. Assumes nothing.
use Rattle.std.specs.Prelude.{◌≡◌, List, ℕ, Float}
use Rattle.noise.specs.Noise.{along2, fbm2d₃₂}
use Rattle.noise_tables.specs.Row.{at}
use Rattle.noise_rows.specs.Square.{square_of}
use Rattle.noise_rows.specs.declared.Square.{Square}

-- the hashes are those of the square's own place
pub record Kept (k : Square) : Type 0 where
  pub is : k ≡ square_of k.ix k.iy

-- the noise above a row of places (x, y)
unfoldable pub along_places : List Float → List Float → ℕ → Float → Float
along_places xs ys i = along2 (at xs i) (at ys i)

-- `fbm2d` at each place
unfoldable pub places_fbm : List Float → List Float → ℕ → ℕ → Float
places_fbm xs ys n i = fbm2d₃₂ (at xs i) (at ys i) n
