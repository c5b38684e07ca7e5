-- `cave_rows::first_layers` meets its contract. Assumes nothing.
use Rattle.cave_rows.specs.Layers.{LayersTo}
use Rattle.cave_rows.proofs.first_layers.Given as goal

abbrev pub invariant-loop-o : goal.invariant-loop-o
invariant-loop-o l = LayersTo l.o l.y l.z l.n l.floors l.eases l.edges
