-- The operations of f32 (SCOPE 3.1), under short names. Assumes nothing.
use Rattle.std.specs.Prelude.{ℕ, ℤ, Float}
use Rattle.std.specs.Float.{binary32}
use Rattle.std.specs.Float.Ieee.{add, sub, mul, div, of_int}
use Rattle.num_core.specs.Num.{nearest}

infixl 60 ◌+f◌ ◌-f◌
infixl 70 ◌*f◌ ◌/f◌
abbrev pub ◌+f◌ : Float → Float → Float
x +f y = add binary32 x y

abbrev pub ◌-f◌ : Float → Float → Float
x -f y = sub binary32 x y

abbrev pub ◌*f◌ : Float → Float → Float
x *f y = mul binary32 x y

abbrev pub ◌/f◌ : Float → Float → Float
x /f y = div binary32 x y

-- a whole number of the source, and an i32 turned into an f32
abbrev pub nat : ℕ → Float
nat n = nearest n 1

abbrev pub real : ℤ → Float
real n = of_int binary32 n

abbrev pub square : Float → Float
square a = a *f a
