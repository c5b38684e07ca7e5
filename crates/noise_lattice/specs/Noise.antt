-- Value noise of one octave (SCOPE 3.6). Each `add`, `sub` and `mul` below is one f32 operation of noise.rs (SCOPE 3.1). Assumes nothing.
use Rattle.std.specs.Prelude.{ℕ, ℤ, pos, Float}
use Rattle.std.specs.Float.{binary32}
use Rattle.std.specs.Float.Ieee.{add, sub, mul, of_int}
use Rattle.num_core.specs.Wrap.{add_w}
use Rattle.num_core.specs.Num.{nearest, floor_i}
use Rattle.noise_hash.specs.Hash.{hash2₃₂, hash3₃₂}

-- a whole constant
abbrev pub num : ℕ → Float
num n = nearest n 1

-- t * t * (3.0 - 2.0 * t)
unfoldable pub smooth₃₂ : Float → Float
smooth₃₂ t = mul binary32 (mul binary32 t t) (sub binary32 (num 3) (mul binary32 (num 2) t))

-- a + (b - a) * t
unfoldable pub lerp₃₂ : Float → Float → Float → Float
lerp₃₂ a b t = add binary32 a (mul binary32 (sub binary32 b a) t)

-- smooth(x - ix as f32); the difference may be 1.0, which nothing here excludes
unfoldable pub ease₃₂ : Float → Float
ease₃₂ x = smooth₃₂ (sub binary32 x (of_int binary32 (floor_i x)))

-- ix + 1, which wraps past the greatest i32
abbrev pub next : ℤ → ℤ
next i = add_w i (pos 1)

-- between the four corners of a square, with what `at` has there
abbrev pub corners₃₂ : (ℤ → ℤ → Float) → ℤ → ℤ → Float → Float → Float
corners₃₂ at ix iy fx fy =
    lerp₃₂ (lerp₃₂ (at ix iy) (at (next ix) iy) fx) (lerp₃₂ (at ix (next iy)) (at (next ix) (next iy)) fx) fy

-- between the four corners of a square of the lattice
unfoldable pub square₃₂ : ℤ → ℤ → Float → Float → Float
square₃₂ ix iy fx fy =
    lerp₃₂
    (lerp₃₂ (hash2₃₂ ix iy) (hash2₃₂ (next ix) iy) fx)
    (lerp₃₂ (hash2₃₂ ix (next iy)) (hash2₃₂ (next ix) (next iy)) fx)
    fy

unfoldable pub noise2d₃₂ : Float → Float → Float
noise2d₃₂ x y = square₃₂ (floor_i x) (floor_i y) (ease₃₂ x) (ease₃₂ y)

-- between the four corners of a cube that lie at iz
unfoldable pub layer₃₂ : ℤ → ℤ → ℤ → Float → Float → Float
layer₃₂ ix iy iz fx fy =
    lerp₃₂
    (lerp₃₂ (hash3₃₂ ix iy iz) (hash3₃₂ (next ix) iy iz) fx)
    (lerp₃₂ (hash3₃₂ ix (next iy) iz) (hash3₃₂ (next ix) (next iy) iz) fx)
    fy

unfoldable pub noise3d₃₂ : Float → Float → Float → Float
noise3d₃₂ x y z =
    lerp₃₂
    (layer₃₂ (floor_i x) (floor_i y) (floor_i z) (ease₃₂ x) (ease₃₂ y))
    (layer₃₂ (floor_i x) (floor_i y) (next (floor_i z)) (ease₃₂ x) (ease₃₂ y))
    (ease₃₂ z)
