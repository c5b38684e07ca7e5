-- `column::blend` meets its contract. Assumes nothing.
use mathlib.Core.Path.{refl}
use lib.Ieee.{of_bits, neg}
use Rattle.num_core.specs.Num.{nearest}
use Rattle.column.specs.Column.{blend₃₂}
use Rattle.column.proofs.blend.Goals as goal

pub returns : goal.returns
unfolding blend₃₂ nearest of_bits neg
returns c = refl
