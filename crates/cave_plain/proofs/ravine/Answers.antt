-- `cave_plain::ravine` meets its contract. Assumes nothing.
use mathlib.Core.Path.{◌∙◌}
use lib.Ieee.{of_bits, neg}
use Rattle.num_core.specs.Num.{nearest}
use Rattle.cave_plain.proofs.Tests.{ravine_near, ravine_far}
use Rattle.cave_plain.proofs.ravine.Goals as goal

pub returns-then-y-height : goal.returns-then-y-height
unfolding nearest of_bits neg
returns-then-y-height c = let a = c.args in c.ravine_here.ensures ∙ ravine_near a.x a.y a.z a.height c.if-y-height.true

pub returns : goal.returns
unfolding nearest of_bits neg
returns c = let a = c.args in ravine_far a.x a.y a.z a.height c.if-y-height.false
