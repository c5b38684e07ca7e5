-- `add_octave_at` meets its contract: k has its own hashes, and the octave is added below i. Assumes nothing.
use Rattle.noise_places.specs.Places.{Kept, along_places}
use Rattle.noise_rows.specs.Sums.{one_more}
use Rattle.noise_tables.proofs.Fill.{Filling}
use Rattle.noise_places.proofs.add_octave_at.Given as goal

abbrev pub invariant-loop-i : goal.invariant-loop-i
invariant-loop-i l = Kept l.k × Filling l.i (one_more (along_places l.xs l.ys) l.freq l.amp l.initial.vals) l.initial.vals l.vals
