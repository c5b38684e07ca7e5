-- The rows from `first` on below z are laid, and all else is as it was. Assumes nothing.
use Rattle.std.proofs.Common.{◌*◌}
use Rattle.ground_lines.specs.Lines.{LaidLines}
use Rattle.ground_base.proofs.lay_rows.Given as goal

abbrev pub invariant-loop-z : goal.invariant-loop-z
invariant-loop-z l = LaidLines l.w l.o (l.first * l.o.size) (l.z * l.o.size) l.initial.cells l.cells
