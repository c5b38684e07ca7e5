-- `chunk::lay_column` meets its contract. The loop's invariant: the lowest y cells are laid. Assumes nothing.
use Rattle.std.proofs.Common.{◌≡◌}
use Rattle.grid_edits.specs.Edits.{lay_column}
use Rattle.chunk.proofs.lay_column.Given as goal

abbrev pub invariant-loop-y : goal.invariant-loop-y
invariant-loop-y l = l.cells ≡ lay_column l.size l.x l.z l.y l.id l.initial.cells
