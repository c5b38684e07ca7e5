-- Absolute value, clamp, max and the conversion to i32 (SCOPE 3.2), as the Rust has them. Assumes nothing.
use Rattle.std.specs.Prelude.{false, cond, ℤ, Float}
use Rattle.std.specs.Float.{nan, inf, fin}
use Rattle.std.specs.Float.Ieee.{lt, le, eq, to_signed}

-- the sign is dropped, of -0 too
unfoldable pub abs₃₂ : Float → Float
abs₃₂ nan = nan
abs₃₂ (inf s) = inf false
abs₃₂ (fin s m e) = fin false m e

-- lo below lo, else hi above hi, else x as it is, so -0 and a NaN too
unfoldable pub clamp₃₂ : Float → Float → Float → Float
clamp₃₂ x lo hi = cond (lt x lo) lo (cond (lt hi x) hi x)

-- the greater of the two, a where they are equal, and where one is a NaN the other
unfoldable pub max₃₂ : Float → Float → Float
max₃₂ a b = cond (le b a) a (cond (eq b b) b a)

-- cut toward zero, the end of i32 where x lies past it, 0 for a NaN: `to_signed 31`, for 31 bits and a sign
unfoldable pub to_i32 : Float → ℤ
to_i32 x = to_signed 31 x
