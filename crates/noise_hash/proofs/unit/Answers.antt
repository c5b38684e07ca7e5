-- `unit` meets its contract. Assumes nothing.
use mathlib.Core.Path.{ap, ◌∙◌}
use Prim.Native.Nat.{ℕ, ◌+◌, ◌/◌, ◌<◌}
use native.Mathlib.Omega.{arith}
use lib.Bits.{bit_and, and_mask, mask_lt}
use lib.Ieee.{binary32, add, of_bits}
use Rattle.noise_hash.specs.Hash.{unit31}
use Rattle.noise_hash.proofs.Scaled.{divided}
use Rattle.noise_hash.proofs.Halves.{high_ok, low_ok, fewer, halves}
use Rattle.noise_hash.proofs.unit.Goals as goal

upper : (n : ℕ) → n < 4294967296 → n / 65536 < 65536
upper n h = omega arith

pub float_from_bits-high : goal.float_from_bits-high
float_from_bits-high c = high_ok (c.args.n / 65536) (upper c.args.n c.ranges.n.fits)

pub overflow_add-low : goal.overflow_add-low
overflow_add-low c = let h = mask_lt c.args.n 16 in record { fits = omega arith }

pub float_from_bits-low : goal.float_from_bits-low
float_from_bits-low c = low_ok (bit_and c.args.n 65535) (mask_lt c.args.n 16)

pub returns : goal.returns
unfolding unit31
returns c =
    let n = c.args.n in
    let h = c.ranges.n.fits in
    ap (λ (l : ℕ). add binary32 (fewer (n / 65536)) (of_bits binary32 (998244352 + l))) (and_mask n 16)
    ∙ halves n h
    ∙ divided n h
