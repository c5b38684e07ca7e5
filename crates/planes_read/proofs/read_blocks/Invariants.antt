-- `planes_read::read_blocks` meets its contract. The loop's invariant: the positions of k blocks are restored. Assumes nothing.
use Rattle.std.proofs.Common.{◌≡◌, ◌*◌}
use Rattle.grid.specs.Cube.{steps}
use Rattle.planes_read.specs.Reading.{put_back}
use Rattle.planes_read.proofs.read_blocks.Given as goal

abbrev pub invariant-loop-k : goal.invariant-loop-k
invariant-loop-k l = l.cells ≡ steps (l.k * 64) (put_back l.table l.n l.bytes) l.initial.cells
