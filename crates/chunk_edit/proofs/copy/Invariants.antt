-- The first i cells are the blocks. Assumes nothing.
use Rattle.std.proofs.Common.{◌≡◌, take}
use Rattle.chunk_edit.proofs.copy.Given as goal

abbrev pub invariant-loop-i : goal.invariant-loop-i
invariant-loop-i l = take l.i l.cells ≡ take l.i l.blocks
