use Rattle.std.proofs.Common.{arith}
use Rattle.std.proofs.lemmas.Grind.{common_steps}
use Rattle.std.specs.Float.Ieee.{of_bits}
use Rattle.num_core.specs.Num.{nearest}
use Rattle.column_rows.specs.Rows.{warped}
use Rattle.column_rows.proofs.warp.Goals as goal

pub loop-i-preserved : goal.loop-i-preserved
unfolding warped nearest of_bits
loop-i-preserved c = record { done = grind (arith, common_steps); rest = grind (arith, common_steps) }
