-- `add_run` meets its contract: the places from lo to i have the octave. Assumes nothing.
use Rattle.noise_rows.specs.Sums.{Added, in_square}
use Rattle.noise_rows.proofs.add_run.Given as goal

abbrev pub invariant-loop-i : goal.invariant-loop-i
invariant-loop-i l = Added (in_square l.k l.fy l.base l.eases) l.amp l.lo l.i l.initial.vals l.vals
