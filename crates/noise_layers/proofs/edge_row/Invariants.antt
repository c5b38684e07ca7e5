-- `noise_layers::edge_row` meets its contract: a and b are the hashes at `at`, and the row is laid below i. Assumes nothing.
use Rattle.noise_layers.specs.Layers.{edge_at, Hashes, RowLaid}
use Rattle.noise_layers.proofs.edge_row.Given as goal

abbrev pub invariant-loop-i : goal.invariant-loop-i
invariant-loop-i l =
    Hashes l.iy l.iz l.at l.a l.b × RowLaid l.to l.i (edge_at l.iy l.iz l.base l.floors l.eases) l.initial.edges l.edges
