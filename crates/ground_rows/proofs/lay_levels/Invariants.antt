-- The row's lines below y are laid, and the row is ready for the next. Assumes nothing.
use Rattle.std.proofs.Common.{◌+◌, ◌*◌}
use Rattle.ground_lines.specs.Lines.{LaidLines}
use Rattle.ground_rows.specs.Rows.{Ready}
use Rattle.ground_rows.proofs.lay_levels.Given as goal

abbrev pub invariant-loop-y : goal.invariant-loop-y
invariant-loop-y l = record {
  laid : LaidLines l.w l.o (l.z * l.o.size) (l.z * l.o.size + l.y) l.initial.cells l.cells;
  ready : Ready l.o l.z l.lo l.hi l.from l.heights l.cuts l.floors l.eases l.edges;
}
