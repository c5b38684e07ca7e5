-- Of the line's cells x are laid. Assumes nothing.
use Rattle.std.proofs.Common.{◌+◌, ◌*◌}
use Rattle.ground_lines.specs.Laws.{Laying}
use Rattle.ground_lines.proofs.lay_line.Given as goal

abbrev pub invariant-loop-x : goal.invariant-loop-x
invariant-loop-x l = Laying l.w l.fn.o (l.z * l.size + l.y) l.x l.initial.cells l.cells
