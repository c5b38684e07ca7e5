-- `hash2` and `hash3` of noise.rs (SCOPE 3.4, 3.5). Assumes nothing.
use Rattle.std.specs.Prelude.{ℕ, ℤ, pos, negsuc, false, Float}
use Rattle.std.specs.Float.{fin, binary32}
use Rattle.std.specs.Float.Ieee.{of_int, div}
use Rattle.num_core.specs.Wrap.{mul_w, add_w, fold_w, low31}

-- SCOPE 3.4, two coordinates: the hash as an i32
unfoldable pub mix2 : ℤ → ℤ → ℤ
mix2 x y =
    fold_w 16
    (mul_w (fold_w 13 (add_w (add_w (mul_w x (pos 374761393)) (mul_w y (pos 668265263))) (pos 1376312589)))
    (pos 1274126177))

-- and three; negsuc 2048144776 is -2048144777, which is 2246822519 modulo 2 ^ 32
unfoldable pub mix3 : ℤ → ℤ → ℤ → ℤ
mix3 x y z =
    fold_w 16
    (mul_w
    (fold_w 13
    (add_w
    (add_w (add_w (mul_w x (pos 374761393)) (mul_w y (pos 668265263))) (mul_w z (pos 1274126177)))
    (pos 1376312589)))
    (negsuc 2048144776))

-- SCOPE 3.5: n as an f32, divided by 2 ^ 31, which is fin false 1 (pos 31)
unfoldable pub unit31 : ℕ → Float
unit31 n = div binary32 (of_int binary32 (pos n)) (fin false 1 (pos 31))

unfoldable pub hash2₃₂ : ℤ → ℤ → Float
hash2₃₂ x y = unit31 (low31 (mix2 x y))

unfoldable pub hash3₃₂ : ℤ → ℤ → ℤ → Float
hash3₃₂ x y z = unit31 (low31 (mix3 x y z))
