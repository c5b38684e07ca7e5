-- `test_noise::float` reads a pattern only where it is no NaN's: without its sign it is not above infinity's.
use Rattle.std.proofs.Common.{Bool, ◌%◌, ◌∙◌, sym, subst, le-ltb}
use mathlib.Core.Bool.{not}
use lib.Dec.{T}
use lib.Ieee.{binary32}
use lib.Ieee.Bits.{nan_bits_above}
use Rattle.test_noise.proofs.float.Goals as goal

pub float_from_bits-result : goal.float_from_bits-result
float_from_bits-result c =
    let n = c.args.n in
    subst (λ (b : Bool). T (not b)) (sym (nan_bits_above binary32 n ∙ le-ltb 2139095040 (n % 2147483648) c.if-n-le2139095040.true)) tt
