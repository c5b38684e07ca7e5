-- 32-bit integers modulo 2^32 (SCOPE 3.3), as the hash takes them. Assumes nothing.
use Rattle.std.specs.Prelude.{ℕ, suc, ◌-◌, ◌%◌, ◌^◌, ℤ, pos, negsuc, ◌+ℤ◌, ◌*ℤ◌, bit_xor}
use Rattle.std.specs.Int.Signed.{shr_z}
use Rattle.std.specs.Int.{w32}
use Rattle.std.proofs.Common.{of_z, to_z}

-- z modulo m, from 0 to m - 1
unfoldable pub mod_z : ℤ → ℕ → ℕ
mod_z (pos n) m = n % m
mod_z (negsuc n) m = m - suc (n % m)

-- the one i32 that differs from z by a multiple of 2 ^ 32 (`wrap_mod`, `wrap_only` in Modulo). `to_z w32` is the i32 of
-- 32 bits given as a number, `of_z w32` the number of an i32's bits.
unfoldable pub wrap_w : ℤ → ℤ
wrap_w z = to_z w32 (mod_z z (2 ^ 32))

-- the product and the sum of the integers, wrapped
unfoldable pub mul_w : ℤ → ℤ → ℤ
mul_w a b = wrap_w (a *ℤ b)

unfoldable pub add_w : ℤ → ℤ → ℤ
add_w a b = wrap_w (a +ℤ b)

-- h >> k, that is h / 2 ^ k rounded down, so that the sign stays (`shift_floor` in Modulo)
abbrev pub shift_w : ℤ → ℕ → ℤ
shift_w h k = shr_z h (2 ^ k)

-- h ^ (h >> k)
unfoldable pub fold_w : ℕ → ℤ → ℤ
fold_w k h = to_z w32 (bit_xor (of_z w32 h) (of_z w32 (shift_w h k)))

-- the bits of h without its sign bit
unfoldable pub low31 : ℤ → ℕ
low31 h = of_z w32 h % 2 ^ 31
