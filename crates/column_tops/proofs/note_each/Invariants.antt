-- `column_tops::note_each` meets its contract. Assumes nothing.
use Rattle.std.proofs.Common.{◌≡◌, ◌*◌, ◌++◌, drop}
use Rattle.grid.specs.Cube.{tab}
use Rattle.ground_cell.specs.Base.{column_height, column_biome}
use Rattle.column_tops.proofs.note_each.Given as goal

abbrev pub invariant-loop-z : goal.invariant-loop-z
invariant-loop-z l = record {
  tall : l.heights ≡ tab (l.z * l.o.size) (column_height l.w l.o) ++ drop (l.z * l.o.size) l.initial.heights;
  kinds : l.biomes ≡ tab (l.z * l.o.size) (column_biome l.w l.o) ++ drop (l.z * l.o.size) l.initial.biomes;
}
