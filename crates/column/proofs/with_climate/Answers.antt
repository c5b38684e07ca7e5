-- `column::with_climate` meets its contract. Assumes nothing.
use mathlib.Core.Path.{refl}
use lib.Ieee.{of_bits}
use Rattle.num_core.specs.Num.{nearest}
use Rattle.column.proofs.with_climate.Goals as goal

pub returns : goal.returns
unfolding nearest of_bits
returns c = refl
