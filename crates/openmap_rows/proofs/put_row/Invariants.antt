-- `openmap_rows::put_row` meets its contract. The loop's invariant: the ids below x are written. Assumes nothing.
use Rattle.openmap_rows.specs.Rows.{id_text}
use Rattle.openmap_lines.specs.Text.{each}
use Rattle.openmap_lines.specs.Appended.{Appended}
use Rattle.openmap_rows.proofs.put_row.Given as goal

abbrev pub invariant-loop-x : goal.invariant-loop-x
invariant-loop-x l = Appended l.initial.out l.at (each l.x (id_text l.size l.cells l.z l.y)) l.out l.p
