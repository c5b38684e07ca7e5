-- A hash is not negative (SCOPE 3.5), nor is what it is multiplied to, re-exported. Assumes nothing.
pub use Rattle.ground_boulders.specs.Signs.{range_length, plus, mul_plus, hash2_plus, sum_natural}
unfoldable pub use Rattle.ground_boulders.specs.Signs.{whole_part}
