-- `run_end` meets its contract: the places from lo to i lie in one column of squares. Assumes nothing.
use Rattle.noise_rows.specs.Sums.{Run}
use Rattle.noise_rows.proofs.run_end.Given as goal

abbrev pub invariant-loop-i : goal.invariant-loop-i
invariant-loop-i l = Run l.base l.lo l.n l.i l.floors
