-- `planes_write::write_blocks` meets its contract. The loop's invariant: the positions of k blocks are written. Assumes nothing.
use Rattle.std.proofs.Common.{◌≡◌, ◌*◌}
use Rattle.grid.specs.Cube.{steps}
use Rattle.planes_write.specs.Writing.{put_cell}
use Rattle.planes_write.proofs.write_blocks.Given as goal

abbrev pub invariant-loop-k : goal.invariant-loop-k
invariant-loop-k l = l.bytes ≡ steps (l.k * 64) (put_cell l.table l.cells) l.initial.bytes
