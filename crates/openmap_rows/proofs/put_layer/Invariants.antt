-- `openmap_rows::put_layer` meets its contract. The loop's invariant: the rows below y are written. Assumes nothing.
use Rattle.openmap_lines.specs.Text.{each, row_text}
use Rattle.openmap_lines.specs.Appended.{Appended}
use Rattle.openmap_rows.proofs.put_layer.Given as goal

abbrev pub invariant-loop-y : goal.invariant-loop-y
invariant-loop-y l = Appended l.initial.out l.at (each l.y (row_text l.size l.cells l.z)) l.out l.p
