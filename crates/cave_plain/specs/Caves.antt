-- Where the ground is hollow (SCOPE 4.10), by world coordinates alone (4.1). Assumes nothing.
use Rattle.std.specs.Prelude.{Bool, ◌&&◌, ◌||◌, ℤ, Float}
use Rattle.std.specs.Float.Ieee.{lt}
use Rattle.num_core.specs.Num.{nearest, abs₃₂, clamp₃₂}
use Rattle.noise.specs.Noise.{fbm2d₃₂, fbm3d₃₂, noise2d₃₂}
use Rattle.column.specs.Floats.{◌+f◌, ◌-f◌, ◌*f◌, ◌/f◌, nat, real, square}

-- tunnel
unfoldable pub spaghetti_cave : Float → Float → Float → Bool
spaghetti_cave x y z =
    lt (square (fbm3d₃₂ (x *f nearest 4 100 +f nat 100) (y *f nearest 6 100 +f nat 100) (z *f nearest 4 100 +f nat 100) 3 -f nearest 1 2)
    +f square (fbm3d₃₂ (x *f nearest 4 100 -f nat 200) (y *f nearest 6 100 -f nat 200) (z *f nearest 4 100 +f nat 300) 3 -f nearest 1 2)) (nearest 6 1000)

-- cavern
unfoldable pub large_cavern : Float → Float → Float → Float → Bool
large_cavern x y z h =
    lt (nearest 7 10 -f (nat 1 -f clamp₃₂ (y /f h) (nat 0) (nat 1)) *f nearest 15 100)
    (fbm3d₃₂ (x *f nearest 15 1000) (y *f nearest 25 1000) (z *f nearest 15 1000) 2)

-- ravine: what of it is the same for a whole column; n is the larger noise there
unfoldable pub ravine_with : Float → Float → Float → Bool
ravine_with n x z = lt (abs₃₂ (n -f nearest 1 2)) (nearest 15 1000 +f noise2d₃₂ (x *f nearest 5 100) (z *f nearest 5 100) *f nearest 8 1000)

unfoldable pub ravine_here : Float → Float → Bool
ravine_here x z = ravine_with (fbm2d₃₂ (x *f nearest 1 100) (z *f nearest 1 100) 3) x z

unfoldable pub ravine_cut : Float → Float → Float → Float → Bool
ravine_cut x y z h = ravine_here x z && lt (h -f nat 20) y && lt y (h -f nat 1)

-- any of the three, at a cell of a column of height h
unfoldable pub carved : ℤ → ℤ → ℤ → ℤ → Bool
carved wx wy wz h =
    spaghetti_cave (real wx) (real wy) (real wz) || large_cavern (real wx) (real wy) (real wz) (real h) || ravine_cut (real wx) (real wy) (real wz) (real h)
