-- `planes_blocks::note_block` meets its contract. The loop's invariant: the first j places are noted. Assumes nothing.
use Rattle.std.proofs.Common.{◌≡◌, ◌++◌, drop}
use Rattle.grid.specs.Cube.{tab}
use Rattle.planes_blocks.specs.Blocks.{block_cell}
use Rattle.planes_blocks.proofs.note_block.Given as goal

abbrev pub invariant-loop-j : goal.invariant-loop-j
invariant-loop-j l = l.table ≡ tab l.j (block_cell l.size) ++ drop l.j l.initial.table
