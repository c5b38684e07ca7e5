-- Behind l layers the cells are those that l steps leave. Assumes nothing.
use Rattle.std.proofs.Common.{◌≡◌, pos}
use Rattle.grid.specs.Cube.{steps}
use Rattle.ground_crown.specs.Slabs.{canopy_step_in}
use Rattle.ground_crown.proofs.canopy.Given as goal

abbrev pub invariant-loop-l : goal.invariant-loop-l
invariant-loop-l l = l.cells ≡ steps l.l (canopy_step_in l.lo l.hi l.size l.oy l.x l.z l.wx l.wz (pos l.top) l.r l.n) l.initial.cells
