-- `chunk_trial::copy_part` meets its contract. The loop's invariant: the first k places are copied. Assumes nothing.
use Rattle.std.proofs.Common.{◌≡◌, ℕ, ◌+◌, ◌++◌, get_or, drop}
use Rattle.grid.specs.Cube.{tab}
use Rattle.chunk_trial.proofs.copy_part.Given as goal

abbrev pub invariant-loop-k : goal.invariant-loop-k
invariant-loop-k l = l.part ≡ tab l.k (λ (j : ℕ). get_or l.cells (l.start + j) 0) ++ drop l.k l.initial.part
