-- A square of the lattice with the hashes of its four corners (SCOPE 3.6). Assumes nothing.
use Rattle.std.specs.Prelude.{ℤ, Float}
use Rattle.noise.specs.Hash.{hash2₃₂}
use Rattle.noise.specs.Noise.{lerp₃₂, next}
use Rattle.noise_rows.specs.declared.Square.{Square}

abbrev pub square_with : ℤ → ℤ → Float → Float → Float → Float → Square
square_with ix iy a b c d = record { ix = ix; iy = iy; a = a; b = b; c = c; d = d }

-- a and b at iy, c and d at the next; a and c at ix, b and d at the next
unfoldable pub square_of : ℤ → ℤ → Square
square_of ix iy = square_with ix iy (hash2₃₂ ix iy) (hash2₃₂ (next ix) iy) (hash2₃₂ ix (next iy)) (hash2₃₂ (next ix) (next iy))

-- between the four corners, along x first
unfoldable pub between₃₂ : Square → Float → Float → Float
between₃₂ k fx fy = lerp₃₂ (lerp₃₂ k.a k.b fx) (lerp₃₂ k.c k.d fx) fy
