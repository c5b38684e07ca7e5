-- `planes_read::put_cells` meets its contract. The loop's invariant: p pairs of ids are put. Assumes nothing.
use Rattle.std.proofs.Common.{◌≡◌, ◌*◌}
use Rattle.grid.specs.Cube.{steps}
use Rattle.planes_read.specs.Reading.{put_into}
use Rattle.planes_read.proofs.put_cells.Given as goal

abbrev pub invariant-loop-p : goal.invariant-loop-p
invariant-loop-p l = l.cells ≡ steps (2 * l.p) (put_into l.block l.table l.first) l.initial.cells
