-- `divide` meets its contract: the places below i are divided. Assumes nothing.
use Rattle.noise_rows.specs.Sums.{share_at}
use Rattle.noise_tables.proofs.Fill.{Filling}
use Rattle.noise_rows.proofs.divide.Given as goal

abbrev pub invariant-loop-i : goal.invariant-loop-i
invariant-loop-i l = Filling l.i (share_at l.max l.initial.vals) l.initial.vals l.vals
