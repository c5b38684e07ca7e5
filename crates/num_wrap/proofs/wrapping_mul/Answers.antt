-- `num_wrap::wrapping_mul` meets its contract. Assumes nothing.
use Rattle.num_wrap.specs.Modulo.{mul_w_bits}
use Rattle.num_wrap.proofs.wrapping_mul.Goals as goal

pub returns : goal.returns
returns c = mul_w_bits c.args.a c.args.b c.ranges.a c.ranges.b
