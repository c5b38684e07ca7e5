-- Behind i rows and m leaves of the next the cells are those that as many steps leave. Assumes nothing.
use Rattle.std.proofs.Common.{◌≡◌, ◌+◌, ◌*◌}
use Rattle.grid.specs.Cube.{steps}
use Rattle.ground_crown.specs.Slabs.{layer_step_in}
use Rattle.ground_crown.proofs.layer.Given as goal

abbrev pub invariant-loop-i : goal.invariant-loop-i
invariant-loop-i l = l.cells ≡ steps (l.i * l.w) (layer_step_in l.lo l.hi l.size l.x l.z l.wx l.wz l.y l.r l.l) l.fn.cells

abbrev pub invariant-loop-m : goal.invariant-loop-m
invariant-loop-m l = l.cells ≡ steps (l.i * l.w + l.m) (layer_step_in l.lo l.hi l.size l.x l.z l.wx l.wz l.y l.r l.l) l.fn.cells
