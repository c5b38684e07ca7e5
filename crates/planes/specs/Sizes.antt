-- What holds where neither a size nor a length is refused. Assumes nothing.
use Rattle.std.specs.Prelude.{◌≡◌, ℕ, ◌*◌, ◌^◌, ◌≤◌}
use Rattle.planes.specs.Planes.{bits_of}

-- a size is 2 to the number of its coordinates' bits, which are at most 6
pub record Power (size : ℕ) : Type 0 where
  pub is : size ≡ 2 ^ bits_of size
  pub few : bits_of size ≤ 6
  pub most : size ≤ 64

-- n cells of a size that has planes, and m bytes for these
pub record Fit (size n m : ℕ) : Type 0 where
  pub power : Power size
  pub cells : n ≡ size * size * size
  pub bytes : m ≡ 2 * (size * size * size)
