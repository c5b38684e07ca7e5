-- `planes_read::join_bytes` meets its contract. The loop's invariant: the first j places are filled. Assumes nothing.
use Rattle.std.proofs.Common.{◌≡◌, ℕ, ◌+◌, ◌++◌, drop}
use Rattle.grid.specs.Cube.{tab}
use Rattle.planes_read.specs.Reading.{id_at}
use Rattle.planes_read.proofs.join_bytes.Given as goal

abbrev pub invariant-loop-j : goal.invariant-loop-j
invariant-loop-j l = l.block ≡ tab l.j (λ (i : ℕ). id_at l.n l.bytes (l.m + i)) ++ drop l.j l.initial.block
