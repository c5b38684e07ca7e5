-- `column_shapes::hill_boost` meets its contract. Assumes nothing.
use mathlib.Core.Path.{sym}
use lib.Ieee.{of_bits}
use Rattle.num_core.specs.Num.{nearest}
use Rattle.column_shapes.specs.Shapes.{hill_boost₃₂}
use Rattle.column_shapes.proofs.hill_boost.Goals as goal

pub returns-then-hill_factor : goal.returns-then-hill_factor
unfolding hill_boost₃₂ nearest of_bits
returns-then-hill_factor c = sym (simp c.if-hill_factor.true)

pub returns-else-hill_factor : goal.returns-else-hill_factor
unfolding hill_boost₃₂ nearest of_bits
returns-else-hill_factor c = sym (simp c.if-hill_factor.false)
