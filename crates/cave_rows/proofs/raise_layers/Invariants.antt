-- `cave_rows::raise_layers` meets its contract. Assumes nothing.
use Rattle.cave_rows.specs.Layers.{LayersTo, LayersFrom}
use Rattle.cave_rows.proofs.raise_layers.Given as goal

abbrev pub invariant-loop-o : goal.invariant-loop-o
invariant-loop-o l = record {
  raised : LayersTo l.o l.y l.z l.n l.floors l.eases l.edges;
  left : LayersFrom l.o l.from l.z l.n l.floors l.eases l.edges;
}
