-- `planes_write::take_cells` meets its contract. The loop's invariant: the places of p pairs are filled. Assumes nothing.
use Rattle.std.proofs.Common.{◌≡◌, ◌*◌, ◌++◌, drop}
use Rattle.grid.specs.Cube.{tab}
use Rattle.planes_write.specs.Writing.{taken_from}
use Rattle.planes_write.proofs.take_cells.Given as goal

abbrev pub invariant-loop-p : goal.invariant-loop-p
invariant-loop-p l = l.block ≡ tab (2 * l.p) (taken_from l.cells l.table l.first) ++ drop (2 * l.p) l.initial.block
