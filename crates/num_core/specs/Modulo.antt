-- What wrapping and the right shift (SCOPE 3.3) mean over the integers: laws of Wrap, re-exported. Assumes nothing.
pub use Rattle.num_wrap.specs.Modulo.{Floor, shift_floor, Wrapped, wrap_mod, mul_w_mod, add_w_mod, sum_of_bits, product_of_bits, add_w_bits}
pub use Rattle.num_wrap.specs.Modulo.{mul_w_bits, wrap_only}
