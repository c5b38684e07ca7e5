-- `cave_tables::note_coords` meets its contract. Assumes nothing.
use Rattle.noise_tables.specs.Places.{Noted}
use Rattle.cave_tables.specs.Coords.{cave_coord}
use Rattle.cave_tables.proofs.note_coords.Given as goal

abbrev pub invariant-loop-o : goal.invariant-loop-o
invariant-loop-o l = Noted l.f.size l.o-counter (cave_coord l.f) l.floors l.eases
