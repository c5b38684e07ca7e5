-- The noise and the curves of `get_biome` (SCOPE 4.2 to 4.5), each f32 operation in the Rust's order. Assumes nothing.
use Rattle.std.specs.Prelude.{ℕ, cond, ℤ, Float}
use Rattle.std.specs.Int.Signed.{lt_z}
use Rattle.std.specs.Float.Ieee.{lt}
use Rattle.num_core.specs.Num.{nearest, abs₃₂, clamp₃₂, floor₃₂}
use Rattle.noise.specs.Noise.{fbm2d₃₂, smooth₃₂}
use Rattle.column_shapes.specs.Floats.{◌+f◌, ◌-f◌, ◌*f◌, ◌/f◌, nat, square}

unfoldable pub offset_fbm₃₂ : Float → Float → Float → Float → Float → ℕ → Float
offset_fbm₃₂ x z scale dx dz octaves = fbm2d₃₂ (x *f scale +f dx) (z *f scale +f dz) octaves

unfoldable pub scaled_fbm₃₂ : Float → Float → Float → ℕ → Float
scaled_fbm₃₂ x z scale octaves = fbm2d₃₂ (x *f scale) (z *f scale) octaves

-- SCOPE 4.3: t * t * (3 - 2 * t), t from 0 to 1 across the width around the edge
unfoldable pub smooth_ramp₃₂ : Float → Float → Float → Float
smooth_ramp₃₂ val edge width = smooth₃₂ (clamp₃₂ ((val -f edge) /f width +f nearest 1 2) (nat 0) (nat 1))

unfoldable pub ridge₃₂ : Float → Float
ridge₃₂ n = nat 1 -f abs₃₂ (n -f nearest 1 2) *f nat 2

unfoldable pub ridges_of : Float → Float → Float
ridges_of n1 n2 = square (ridge₃₂ n1) *f nearest 7 10 +f square (ridge₃₂ n2) *f nearest 3 10

unfoldable pub ridges₃₂ : Float → Float → Float
ridges₃₂ x z =
    ridges_of (offset_fbm₃₂ x z (nearest 8 1000) (nat 500) (nat 500) 4) (offset_fbm₃₂ x z (nearest 15 1000) (nat 300) (nat 200) 3)

unfoldable pub plateau₃₂ : Float → Float
plateau₃₂ raw = floor₃₂ (raw *f nat 5) /f nat 5 *f nearest 6 10 +f raw *f nearest 4 10

unfoldable pub continent₃₂ : Float → Float → Float
continent₃₂ x z =
    scaled_fbm₃₂ (x +f offset_fbm₃₂ x z (nearest 3 1000) (nat 700) (nat 800) 3 *f nat 40)
    (z +f offset_fbm₃₂ x z (nearest 3 1000) (nat 900) (nat 100) 3 *f nat 40) (nearest 4 1000) 5

unfoldable pub hill_boost₃₂ : Float → Float
hill_boost₃₂ h = cond (lt (nearest 65 100) h) ((h -f nearest 65 100) *f nat 80) (nat 0)

unfoldable pub cold_boost₃₂ : Float → Float
cold_boost₃₂ t = clamp₃₂ ((nearest 3 10 -f t) *f nat 5) (nat 0) (nat 1)

unfoldable pub clamp_of : ℤ → ℤ → ℤ → ℤ
clamp_of n lo hi = cond (lt_z n lo) lo (cond (lt_z hi n) hi n)
