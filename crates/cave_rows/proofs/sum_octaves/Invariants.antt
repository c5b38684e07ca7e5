-- `cave_rows::sum_octaves` meets its contract. Assumes nothing.
use Rattle.std.proofs.Common.{◌≡◌}
use Rattle.noise_tables.specs.Row.{Row}
use Rattle.cave_rows.specs.Fields.{amp_at, sum_of}
use Rattle.cave_rows.proofs.sum_octaves.Given as goal

abbrev pub invariant-loop-k : goal.invariant-loop-k
invariant-loop-k l = record {
  row : Row l.n (sum_of l.k l.o l.y l.z l.eases l.edges) l.sums;
  half : l.amp ≡ amp_at l.k;
}
