-- 32-bit integers modulo 2^32 (SCOPE 3.3), re-exported. Assumes nothing.
unfoldable pub use Rattle.num_wrap.specs.Wrap.{mod_z, wrap_w, mul_w, add_w, fold_w, low31}
pub use Rattle.num_wrap.specs.Wrap.{shift_w}
