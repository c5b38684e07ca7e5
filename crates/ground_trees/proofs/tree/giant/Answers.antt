-- `ground_trees::tree::giant` meets its contract. Assumes nothing.
use mathlib.Core.Path.{refl}
use lib.Ieee.{of_bits}
use Rattle.num_core.specs.Num.{nearest}
use Rattle.ground_trees.specs.Features.{is_giant}
use Rattle.ground_trees.proofs.tree.giant.Goals as goal

pub returns : goal.returns
unfolding is_giant nearest of_bits
returns c = refl
