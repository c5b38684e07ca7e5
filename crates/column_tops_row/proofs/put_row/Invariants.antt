-- `column_tops_row::put_row` meets its contract. Assumes nothing.
use Rattle.std.proofs.Common.{◌≡◌, ◌*◌}
use Rattle.grid.specs.Cube.{steps}
use Rattle.ground_cell.specs.Base.{column_height, column_biome}
use Rattle.column_tops_row.specs.Tops.{note_at}
use Rattle.column_tops_row.proofs.put_row.Given as goal

abbrev pub invariant-loop-x : goal.invariant-loop-x
invariant-loop-x l = record {
  tall : l.heights ≡ steps l.x (note_at (column_height l.w l.fn.o) (l.z * l.fn.o.size)) l.initial.heights;
  kinds : l.biomes ≡ steps l.x (note_at (column_biome l.w l.fn.o) (l.z * l.fn.o.size)) l.initial.biomes;
}
