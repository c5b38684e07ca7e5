-- The arms are the definition's cases. Assumes nothing.
use Rattle.std.proofs.Common.{rules, tests}
use lib.Ieee.{of_bits}
use Rattle.num_core.specs.Num.{nearest}
use Rattle.ground_trees.specs.Features.{tree_grows}
use Rattle.ground_trees.proofs.tree.tree_grows.Goals as goal

pub returns-in-2 : goal.returns-in-2
unfolding tree_grows nearest of_bits
returns-in-2 c = search rules

pub returns-in-3 : goal.returns-in-3
unfolding tree_grows nearest of_bits
returns-in-3 c = search rules

pub returns-in_default : goal.returns-in_default
unfolding tree_grows nearest of_bits
returns-in_default c = search (tests, rules)
