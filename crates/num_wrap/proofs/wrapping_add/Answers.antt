-- `num_wrap::wrapping_add` meets its contract. Assumes nothing.
use Rattle.num_wrap.specs.Modulo.{add_w_bits}
use Rattle.num_wrap.proofs.wrapping_add.Goals as goal

pub returns : goal.returns
returns c = add_w_bits c.args.a c.args.b c.ranges.a c.ranges.b
