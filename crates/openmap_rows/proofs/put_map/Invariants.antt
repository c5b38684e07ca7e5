-- `openmap_rows::put_map` meets its contract. The loop's invariant: the layers below z are written. Assumes nothing.
use Rattle.openmap_lines.specs.Text.{each, layer_text}
use Rattle.openmap_lines.specs.Appended.{Appended}
use Rattle.openmap_rows.proofs.put_map.Given as goal

abbrev pub invariant-loop-z : goal.invariant-loop-z
invariant-loop-z l = Appended l.initial.out l.at (each l.z (layer_text l.size l.cells)) l.out l.p
