-- `hash2` and `hash3` of noise.rs (SCOPE 3.4, 3.5), re-exported. Assumes nothing.
unfoldable pub use Rattle.noise_hash.specs.Hash.{mix2, mix3, unit31, hash2₃₂, hash3₃₂}
