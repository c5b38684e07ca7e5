-- Behind j blocks the cells are those that j steps leave. Assumes nothing.
use Rattle.std.proofs.Common.{◌≡◌}
use Rattle.grid.specs.Cube.{steps}
use Rattle.ground_boulders.specs.Boulders.{pillar_step}
use Rattle.ground_boulders.proofs.pillar.Given as goal

abbrev pub invariant-loop-j : goal.invariant-loop-j
invariant-loop-j l = l.cells ≡ steps l.j (pillar_step l.size l.oy l.x l.z l.y l.v) l.initial.cells
