-- `noise_layers::add_row` meets its contract: the octave is added below i. Assumes nothing.
use Rattle.noise_tables.proofs.Fill.{Filling}
use Rattle.noise_layers.specs.Layers.{row_more}
use Rattle.noise_layers.proofs.add_row.Given as goal

abbrev pub invariant-loop-i : goal.invariant-loop-i
invariant-loop-i l = Filling l.i (row_more l.o l.ky l.kz l.amp l.eases l.edges l.initial.sums) l.initial.sums l.sums
