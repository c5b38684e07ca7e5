-- Sums of octaves (SCOPE 3.7). Each `add`, `mul` and `div` below is one f32 operation of noise.rs (SCOPE 3.1). Assumes nothing.
use Rattle.std.specs.Prelude.{ℕ, zero, suc, Float}
use Rattle.std.specs.Float.{binary32}
use Rattle.std.specs.Float.Ieee.{add, mul, div}
use Rattle.num_core.specs.Num.{nearest}
pub use Rattle.noise_lattice.specs.Noise.{num, next}
unfoldable pub use Rattle.noise_lattice.specs.Noise.{smooth₃₂, lerp₃₂, ease₃₂, square₃₂, noise2d₃₂, layer₃₂, noise3d₃₂}

-- the four locals of the loop over octaves: the sum, the next octave's amplitude and frequency, the sum of amplitudes
pub record Octaves : Type 0 where
  pub val : Float
  pub amp : Float
  pub freq : Float
  pub max : Float

-- one octave more, of the noise `at` a frequency
unfoldable pub octave : (Float → Float) → Octaves → Octaves
octave at o = record {
  val = add binary32 o.val (mul binary32 (at o.freq) o.amp);
  amp = mul binary32 o.amp (nearest 1 2);
  freq = mul binary32 o.freq (num 2);
  max = add binary32 o.max o.amp;
}

unfoldable pub octaves : (Float → Float) → ℕ → Octaves
octaves at zero = record { val = num 0; amp = num 1; freq = num 1; max = num 0 }
octaves at (suc n) = octave at (octaves at n)

-- val / max, and 0.5 for no octaves
unfoldable pub fbm : (Float → Float) → ℕ → Float
fbm at zero = nearest 1 2
fbm at (suc n) = div binary32 (octaves at (suc n)).val (octaves at (suc n)).max

-- noise2d(x * freq, y * freq)
unfoldable pub along2 : Float → Float → Float → Float
along2 x y freq = noise2d₃₂ (mul binary32 x freq) (mul binary32 y freq)

unfoldable pub fbm2d₃₂ : Float → Float → ℕ → Float
fbm2d₃₂ x y n = fbm (along2 x y) n

-- noise3d(x * freq, y * freq, z * freq)
unfoldable pub along3 : Float → Float → Float → Float → Float
along3 x y z freq = noise3d₃₂ (mul binary32 x freq) (mul binary32 y freq) (mul binary32 z freq)

unfoldable pub fbm3d₃₂ : Float → Float → Float → ℕ → Float
fbm3d₃₂ x y z n = fbm (along3 x y z) n
