-- `num_float::to_i32` meets its contract. Assumes nothing.
use Rattle.std.proofs.Common.{w32}
use Rattle.basics.specs.Words.{read}
use Rattle.num_float.specs.Num.{to_i32}
use Rattle.num_float.proofs.to_i32.Goals as goal

pub returns : goal.returns
unfolding to_i32
returns c = read w32 c.saturating_f32_to_i32.type_inv c.saturating_f32_to_i32.ensures
