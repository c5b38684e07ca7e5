-- `noise_tables::note_octave` meets its contract: the tables tell of the places before i. Assumes nothing.
use Rattle.noise_tables.specs.Places.{Told}
use Rattle.noise_tables.proofs.note_octave.Given as goal

abbrev pub invariant-loop-i : goal.invariant-loop-i
invariant-loop-i l = Told l.base l.i l.xs l.initial.floors l.initial.eases l.floors l.eases
