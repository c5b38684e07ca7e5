-- The first i cells are copied. Assumes nothing.
use Rattle.std.proofs.Common.{◌≡◌, take, drop}
use Rattle.grid_slabs.proofs.copy_slab.Given as goal

abbrev pub invariant-loop-i : goal.invariant-loop-i
invariant-loop-i l = take l.i l.old ≡ take l.i (drop l.start l.cells)
