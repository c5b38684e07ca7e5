-- `column_tables::note_rows` meets its contract. Assumes nothing.
use Rattle.noise_tables.specs.Places.{Noted}
use Rattle.column_tables.specs.Coords.{coords_of}
use Rattle.column_tables.proofs.note_rows.Given as goal

abbrev pub invariant-loop-o : goal.invariant-loop-o
invariant-loop-o l = Noted l.n l.o-counter (coords_of l.xs) l.floors l.eases
