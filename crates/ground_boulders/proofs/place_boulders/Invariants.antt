-- Behind some columns the cells are those that as many steps leave: the rows before z, and x columns of row z. Assumes nothing.
use Rattle.std.proofs.Common.{◌≡◌}
use Rattle.grid_slabs.specs.Rows.{over_columns}
use Rattle.ground_boulders.specs.Boulders.{top_in, boulder_step}
use Rattle.ground_boulders.proofs.place_boulders.Given as goal

abbrev pub invariant-loop-z : goal.invariant-loop-z
invariant-loop-z l = l.cells ≡ over_columns l.o.size l.first l.z 0 (boulder_step l.o (top_in l.heights l.biomes)) l.fn.cells

abbrev pub invariant-loop-x : goal.invariant-loop-x
invariant-loop-x l = l.cells ≡ over_columns l.o.size l.first l.z l.x (boulder_step l.o (top_in l.heights l.biomes)) l.fn.cells
