-- The rule of the Morton order, bit by bit (SCOPE 5.12): bit j of x, of y and of z is bit 3 j, 3 j + 1 and 3 j + 2 of the position, whatever
-- the number of bits. Assumes nothing.
use Rattle.std.specs.Prelude.{◌≡◌, ℕ, ◌+◌, ◌*◌, ◌/◌, ◌%◌, ◌^◌}
use Rattle.planes.specs.Order.{morton_of}

abbrev pub bit : ℕ → ℕ → ℕ
bit j v = v / 2 ^ j % 2

-- where the bits j of a cell's coordinates of k bits stand
pub record Bits (k j x y z : ℕ) : Type 0 where
  pub x_bit : bit (3 * j) (morton_of k x y z) ≡ bit j x
  pub y_bit : bit (3 * j + 1) (morton_of k x y z) ≡ bit j y
  pub z_bit : bit (3 * j + 2) (morton_of k x y z) ≡ bit j z
