-- Behind some columns the cells are those that as many steps leave: the rows before z, and x columns of row z. Assumes nothing.
use Rattle.std.proofs.Common.{◌≡◌}
use Rattle.grid_slabs.specs.Rows.{over_columns}
use Rattle.ground_trees.specs.Features.{top_in}
use Rattle.ground_trees.specs.Slabs.{tree_step_in}
use Rattle.ground_trees.proofs.tree.place_trees.Given as goal

abbrev pub invariant-loop-z : goal.invariant-loop-z
invariant-loop-z l = l.cells ≡ over_columns l.o.size l.first l.z 0 (tree_step_in l.lo l.hi l.o l.sea (top_in l.heights l.biomes)) l.fn.cells

abbrev pub invariant-loop-x : goal.invariant-loop-x
invariant-loop-x l = l.cells ≡ over_columns l.o.size l.first l.z l.x (tree_step_in l.lo l.hi l.o l.sea (top_in l.heights l.biomes)) l.fn.cells
